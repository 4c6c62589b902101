-- The ops of a whole log, and which nodes its removes name.
use Prim.Native.Nat.{ℕ, ◌≤◌}
use borrow.Author.Tests.{ne_eqb}
use lib.Dec.{eqb}
use lib.ListN.{length, take}
use lib.Seq.{take_all}
use mathlib.Core.Bool.{Bool, cond, false, not, or-true, true, ◌||◌}
use mathlib.Core.List.{List, [], map, ◌∷◌}
use mathlib.Core.Path.{ap, refl, sym, ◌∙◌, ◌≡◌}
use native.Mathlib.Decide.{ℕ_discrete}
use native.Mathlib.Omega.{arith}
use Rattle.rules.proofs.KnownLaws.{Known, known_later, known_reads, marked_is, names_node}
use Rattle.order.proofs.LevelLaws.{counted_bound}
use Rattle.lists.proofs.BoolLaws.{and_left, and_right, fails, never, under_and}
use Rattle.rules.proofs.ReplicaLaws.{map_replicas}
use Rattle.rules.proofs.FileLaws.{log_eta}
use Rattle.rules.proofs.StructureLaws.{GoodLog, count_held, good_ops, held_in}
use Rattle.lists.specs.Lists.{all, any, concat, filter, is_in}
use Rattle.rules.specs.File.{Log, counts_of, op_at, ops_of}
use Rattle.rules.specs.Op.{Op, count_in, is_remove, kind_of, node_of, vector_of}
use Rattle.rules.specs.Replay.{ops_within, removed_in}
use Rattle.rules.specs.Marks.{is_known, is_marked, knowledge, marked}
use Rattle.lists.proofs.GreatestLaws.{all_greatest}

pub ops_all : (log : Log) → length log ≡ 8 → ops_within log (counts_of log) ≡ concat log
unfolding ops_within
ops_all log e = ap concat (map_replicas (λ s. take (count_in (counts_of log) s) (ops_of log s)) (ops_of log) (λ s l u. whole s) ∙ log_eta log e)
  where
    whole : (s : ℕ) → take (count_in (counts_of log) s) (ops_of log s) ≡ ops_of log s
    whole s = take_all (count_in (counts_of log) s) (ops_of log s) (omega (arith, count_held log s))

-- an op that is no remove, or removes a known node
abbrev pub removes_known : Log → Op → Bool
removes_known log r = not (is_remove r) || is_known (knowledge log (counts_of log) (node_of r))

module _ (log : Log) (good : GoodLog log) where
  pub removes_known_law : all (removes_known log) (ops_within log (counts_of log)) ≡ true
  unfolding is_remove
  removes_known_law = all_greatest (removes_known log) (ops_within log (counts_of log))
      (counted_bound log (counts_of log) (λ r. cond (removes_known log r) 0 1) 0 (λ s q l u lq uq. rw (one s q l u lq uq) (omega arith)))
    where
      one : (s q : ℕ) → 1 ≤ s → s ≤ 8 → 1 ≤ q → q ≤ count_in (counts_of log) s → removes_known log (op_at log s q) ≡ true
      one s q l u lq uq = elim (ℕ_discrete (kind_of (op_at log s q)) 2) [
        | yes e ↦
            let x = good_ops good s q l u lq uq in
            rw (known_later log (vector_of (op_at log s q)) (counts_of log) (held_in log (vector_of (op_at log s q)) x.is_covered)
            (node_of (op_at log s q)) (names_node log (op_at log s q) x.names (λ k. omega arith)))
            (or-true (not (eqb (kind_of (op_at log s q)) 2)))
        | no e ↦ rw (ne_eqb (kind_of (op_at log s q)) 2 e)
      ]

  named_known : (rs : List Op) → all (removes_known log) rs ≡ true → (n : ℕ) → is_in n (map node_of (filter is_remove rs)) ≡ true
      → Known log (counts_of log) n
  unfolding all is_in any filter
  named_known [] f n e = never e
  named_known (r ∷ rs) f n e = go (is_remove r) refl (named_known rs (and_right (removes_known log r) _ f) n) e
    where
      go : (b : Bool) → is_remove r ≡ b → (any (eqb n) (map node_of (filter is_remove rs)) ≡ true → Known log (counts_of log) n)
          → any (eqb n) (map node_of (cond b (r ∷ filter is_remove rs) (filter is_remove rs))) ≡ true → Known log (counts_of log) n
      go false e ih h = ih h
      go true e ih h = elim (ℕ_discrete n (node_of r)) [
        | yes q ↦ rw q (rw e at (and_left (removes_known log r) _ f))
        | no nq ↦ ih (rw (ne_eqb n (node_of r) nq) at h)
      ]

  -- a marked node is known
  marked_known : (n : ℕ) → marked log (counts_of log) n ≡ true → Known log (counts_of log) n
  unfolding marked removed_in
  marked_known n e = named_known (ops_within log (counts_of log)) removes_known_law n e

  -- so the third outcome is the mark
  pub mark_is : (n : ℕ) → is_marked (knowledge log (counts_of log) n) ≡ marked log (counts_of log) n
  mark_is n = marked_is log (counts_of log) n ∙ sym (under_and (is_known (knowledge log (counts_of log) n)) _ (marked_known n))

  -- what is not known is not marked
  pub unknown_unmarked : (n : ℕ) → (Known log (counts_of log) n → ⊥) → marked log (counts_of log) n ≡ false
  unknown_unmarked n h = fails _ (λ e. h (marked_known n e))

  pub root_unmarked : marked log (counts_of log) 0 ≡ false
  root_unmarked = unknown_unmarked 0 (λ k. let h = (known_reads log (counts_of log) 0 k).0 in omega (arith, h.low))
