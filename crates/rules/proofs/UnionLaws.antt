-- Equal logs, and the union of two logs that agree.
use mathlib.Core.Path.{◌≡◌, refl, sym, ◌∙◌}
use mathlib.Core.Bool.{Bool, true, false, cond}
use mathlib.Core.List.{List, [], map}
use Prim.Native.Nat.{ℕ, ◌+◌, ◌-◌, ◌≤◌}
use native.Mathlib.Omega.{arith}
use borrow.Author.Tests.{leb-true, leb-false}
use lib.ListN.{length, get_or}
use lib.Seq.{ext_get_or}
use lib.Dec.{leb}
use Rattle.lists.specs.Lists.{up_from}
use Rattle.rules.specs.Op.{Op, replicas, count_in}
use Rattle.rules.specs.File.{Log, ops_of, op_at, counts_of, Extends, Agree}
use Rattle.rules.specs.Log.{sound_ops}
use Rattle.rules.proofs.FileLaws.{Wide, WideLog, wide_at, log_eta}
use Rattle.rules.proofs.AppendLaws.{sound_ops_more}
use Rattle.rules.proofs.ReplicaLaws.{replica_cases, map_replicas}
use Rattle.rules.proofs.StructureLaws.{count_held, GoodLog}
use Rattle.rules.proofs.SoundLaws.{SoundLog}

---- equal logs

-- a log that holds all of another and no more
pub extends_equal : (log more : Log) → length log ≡ 8 → length more ≡ 8 → Extends log more
    → ((s : ℕ) → 1 ≤ s → s ≤ 8 → count_in (counts_of more) s ≤ count_in (counts_of log) s) → log ≡ more
unfolding op_at
extends_equal log more e m x h =
    sym (log_eta log e) ∙ map_replicas (ops_of log) (ops_of more) alike ∙ log_eta more m
  where
    alike : (s : ℕ) → 1 ≤ s → s ≤ 8 → ops_of log s ≡ ops_of more s
    alike s l u =
        let a : count_in (counts_of log) s ≡ length (ops_of log s) = count_held log s in
        let b : count_in (counts_of more) s ≡ length (ops_of more s) = count_held more s in
        ext_get_or [] (ops_of log s) (ops_of more s) (omega (arith, x.counts s l u, h s l u)) (λ i j.
        let k : i + 1 - 1 ≡ i = omega arith in
        sym (rw k at (x.ops s (i + 1) l u (omega arith) (omega arith))))

---- the union of two logs that agree

unfoldable pub longer : List Op → List Op → List Op
longer a b = cond (leb (length a) (length b)) b a

unfoldable pub union : Log → Log → Log
union a b = map (λ s. longer (ops_of a s) (ops_of b s)) replicas

-- the longer of two lists is one of them
pub longer_is : (P : List Op → Type 0) (a b : List Op) → (length b ≤ length a → P a) → (length a ≤ length b → P b) → P (longer a b)
unfolding longer
longer_is P a b f g = go (leb (length a) (length b)) refl
  where
    go : (c : Bool) → leb (length a) (length b) ≡ c → P (cond c b a)
    go true e = g (leb-true _ _ e)
    go false e = f (omega (arith, leb-false (length a) (length b) e))

module _ (a b : Log) where
  pub union_ops : (s : ℕ) → 1 ≤ s → s ≤ 8 → ops_of (union a b) s ≡ longer (ops_of a s) (ops_of b s)
  unfolding union ops_of replicas up_from
  union_ops = replica_cases (λ s. ops_of (union a b) s ≡ longer (ops_of a s) (ops_of b s)) refl refl refl refl refl refl refl refl

  union_eight : length (union a b) ≡ 8
  unfolding union replicas up_from
  union_eight = refl

  pub union_wide : (w : ℕ) → WideLog w a → WideLog w b → WideLog w (union a b)
  unfolding union ops_of replicas up_from
  union_wide w ha hb =
      let x : (i : ℕ) → Wide w (longer (get_or a i []) (get_or b i [])) =
      λ i. longer_is (Wide w) (get_or a i []) (get_or b i []) (λ h. wide_at w a i ha) (λ h. wide_at w b i hb) in
      (x 0, (x 1, (x 2, (x 3, (x 4, (x 5, (x 6, (x 7, tt))))))))

  module _ (ag : Agree a b) where
    pub union_left : Extends a (union a b)
    unfolding op_at
    union_left = record {
      counts = λ s l u. rw (count_held, count_held (union a b) s, union_ops s l u) (longer_is (λ ops. length (ops_of a s) ≤ length ops)
          (ops_of a s) (ops_of b s) (λ h. omega arith) (λ h. omega arith));
      ops = λ s q l u lq uq. rw (union_ops s l u) (longer_is (λ ops. get_or ops (q - 1) [] ≡ op_at a s q) (ops_of a s) (ops_of b s) (λ h. refl)
          (λ h. ag s q l u lq uq (omega (arith, count_held a s, count_held b s))));
    }

    pub union_right : Extends b (union a b)
    unfolding op_at
    union_right = record {
      counts = λ s l u. rw (count_held, count_held (union a b) s, union_ops s l u) (longer_is (λ ops. length (ops_of b s) ≤ length ops)
          (ops_of a s) (ops_of b s) (λ h. omega arith) (λ h. omega arith));
      ops = λ s q l u lq uq. rw (union_ops s l u) (longer_is (λ ops. get_or ops (q - 1) [] ≡ op_at b s q) (ops_of a s) (ops_of b s)
          (λ h. sym (ag s q l u lq (omega (arith, count_held a s, count_held b s)) uq)) (λ h. refl));
    }

    good_union : GoodLog a → GoodLog b → GoodLog (union a b)
    good_union ha hb = record {
      eight = union_eight;
      counts = λ s l u. rw (count_held, union_ops s l u) (longer_is (λ ops. length ops ≤ 255) (ops_of a s) (ops_of b s)
          (λ h. omega (arith, ha.counts s l u, count_held a s)) (λ h. omega (arith, hb.counts s l u, count_held b s)));
      ops = λ s l u. rw (union_ops s l u) (longer_is (λ ops. sound_ops (union a b) s 1 ops ≡ true) (ops_of a s) (ops_of b s)
          (λ h. sound_ops_more a (union a b) union_left s 1 (ops_of a s) (ha.ops s l u)) (λ h. sound_ops_more b (union a b) union_right s 1
          (ops_of b s) (hb.ops s l u)));
    }

    -- and it is sound if they are
    pub sound_union : SoundLog a → SoundLog b → SoundLog (union a b)
    sound_union ha hb = record { good = good_union ha.good hb.good }
