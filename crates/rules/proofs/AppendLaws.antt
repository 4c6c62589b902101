-- Laws of a log with one op more: what was held stays, tests that passed still pass, and a good log stays good.
use mathlib.Core.Path.{◌≡◌, refl, sym, ap, ◌∙◌}
use mathlib.Core.Bool.{true, false, and-eq-true_iff}
use mathlib.Core.List.{List, ◌∷◌, ◌++◌, map, []}
use Prim.Native.Nat.{ℕ, zero, suc, ◌+◌, ◌-◌, ◌/◌, ◌%◌, ◌≤◌, ◌<◌}
use native.Mathlib.Nat.{le_refl, add-zero, suc-add, add-suc, not-suc-le-zero, le_of_suc-le-suc}
use native.Mathlib.Omega.{arith}
use native.Mathlib.Decide.{ℕ_discrete}
use borrow.Author.Tests.{leb-true, leb-false, ltb-true, eqb-false, le-leb, eq-eqb}
use lib.ListN.{length, get_or, set, length-append, length-set, get_or-append}
use lib.Seq.{get_or-set_same, get_or-set_other}
use lib.Dec.{leb, eqb}
use Rattle.lists.specs.Lists.{sum}
use Rattle.rules.specs.Op.{Op, Vector, is_replica, count_in, replica_of, node_of, parent_of, vector_of, seq_of, own_count, well_formed, is_add}
use Rattle.rules.specs.File.{Log, ops_of, op_at, counts_of, append, Extends, within}
use Rattle.rules.specs.Log.{covered, closed_at, closed, known_parent, names_known, sound_op, sound_ops}
use Rattle.rules.specs.Marks.{is_known, knowledge, node_within}
use Rattle.rules.specs.Deliver.{is_held}
use Rattle.lists.proofs.BoolLaws.{and_left, and_right, and_both, and_under, or_under}
use Rattle.rules.proofs.ReplicaLaws.{all_replicas, replica_passes, all_alike}
use Rattle.rules.proofs.FileLaws.{WideLog, wide_set, wide_last, wide_at}
use Rattle.rules.proofs.StructureLaws.{count_held, held_in, GoodLog}
use Rattle.rules.proofs.KnownLaws.{known_is}

---- a log that holds all of another

pub extends_refl : (log : Log) → Extends log log
extends_refl log = record { counts = λ s l u. le_refl _; ops = λ s q l u lq uq. refl }

pub extends_then : (a b c : Log) → Extends a b → Extends b c → Extends a c
extends_then a b c x y = record {
  counts = λ s l u. omega (arith, x.counts s l u, y.counts s l u);
  ops = λ s q l u lq uq. y.ops s q l u lq (omega (arith, x.counts s l u)) ∙ x.ops s q l u lq uq;
}

-- of two logs within one, the longer one
pub extends_within : (a b u : Log) → Extends a u → Extends b u
    → ((s : ℕ) → 1 ≤ s → s ≤ 8 → count_in (counts_of a) s ≤ count_in (counts_of b) s) → Extends a b
extends_within a b u x y h = record {
  counts = h;
  ops = λ s q l t lq uq. sym (y.ops s q l t lq (omega (arith, h s l t))) ∙ x.ops s q l t lq uq;
}

-- what a vector counts is the same in both
abbrev pub SameWithin : Log → Log → Vector → Type 0
SameWithin log more v = (s q : ℕ) → 1 ≤ s → s ≤ 8 → 1 ≤ q → q ≤ count_in v s → op_at more s q ≡ op_at log s q

module _ (log more : Log) (v : Vector) (x : SameWithin log more v) where
  pub closed_more : closed more v ≡ closed log v
  unfolding closed closed_at
  closed_more =
      all_alike (closed_at more v) (closed_at log v) (λ s l u.
      or_under _ _ _ (λ (z : eqb (count_in v s) 0 ≡ false).
      let p : 1 ≤ count_in v s = omega (arith, eqb-false (count_in v s) 0 z) in
      ap (λ r. within (vector_of r) v) (x s (count_in v s) l u p (le_refl _))))

  known_more : (n : ℕ) → is_known (knowledge more v n) ≡ is_known (knowledge log v n)
  unfolding node_within is_replica
  known_more n =
      rw (known_is more v n, known_is log v n) (and_under (node_within v n) _ _ (λ g.
      let h = simp and-eq-true_iff at g in
      ap is_add (x (n / 256) (n % 256) (leb-true _ _ h.0.0.0) (leb-true _ _ h.0.0.1) (leb-true _ _ h.0.1)
      (leb-true _ _ h.1))))

pub names_more : (log more : Log) (r : Op) → SameWithin log more (vector_of r) → names_known more r ≡ names_known log r
unfolding names_known known_parent
names_more log more r x = rw (known_more log more (vector_of r) x (parent_of r), known_more log more (vector_of r) x (node_of r))

module _ (log more : Log) (x : Extends log more) (v : Vector) (c : covered log v ≡ true) where
  pub covered_more : covered more v ≡ true
  unfolding covered within
  covered_more =
      all_replicas _ (λ s l u. le-leb (count_in v s) (count_in (counts_of more) s) (omega (arith, held_in log v c s l u, x.counts s l u)))

  pub same_within : SameWithin log more v
  same_within s q l u lq uq = x.ops s q l u lq (omega (arith, held_in log v c s l u))

-- an op that is sound in a log is so in a log that holds more
sound_op_more : (log more : Log) → Extends log more → (s q : ℕ) (r : Op) → sound_op log s q r ≡ true → sound_op more s q r ≡ true
unfolding sound_op
sound_op_more log more x s q r e =
    let h = simp and-eq-true_iff at e in
    let c = h.0.0.1 in
    rw (
      covered_more log more x (vector_of r) c ∙ sym c,
      closed_more log more (vector_of r) (same_within log more x (vector_of r) c),
      names_more log more r (same_within log more x (vector_of r) c),
    ) e

pub sound_ops_more : (log more : Log) → Extends log more → (s q : ℕ) (rs : List Op) → sound_ops log s q rs ≡ true
    → sound_ops more s q rs ≡ true
unfolding sound_ops
sound_ops_more log more x s q [] e = refl
sound_ops_more log more x s q (r ∷ rs) e =
    and_both (sound_op_more log more x s q r (and_left (sound_op log s q r) _ e))
    (sound_ops_more log more x s (suc q) rs (and_right (sound_op log s q r) _ e))

sound_ops_last : (log : Log) (s q : ℕ) (rs : List Op) (r : Op) → sound_ops log s q rs ≡ true → sound_op log s (q + length rs) r ≡ true
    → sound_ops log s q (rs ++ (r ∷ [])) ≡ true
unfolding sound_ops
sound_ops_last log s q [] r e h = rw (← add-zero q, h)
sound_ops_last log s q (x ∷ rs) r e h =
    and_both (and_left (sound_op log s q x) _ e) (sound_ops_last log s (suc q) rs r (and_right (sound_op log s q x) _ e)
    (rw (suc-add, ← add-suc) h))

---- one op more

module _ (log : Log) (r : Op) (eight : length log ≡ 8) (lo : 1 ≤ replica_of r) (hi : replica_of r ≤ 8) where
  pub ops_same : ops_of (append log r) (replica_of r) ≡ ops_of log (replica_of r) ++ (r ∷ [])
  unfolding ops_of append
  ops_same = get_or-set_same log (replica_of r - 1) _ [] (omega arith)

  pub ops_other : (s : ℕ) → 1 ≤ s → (s ≡ replica_of r → ⊥) → ops_of (append log r) s ≡ ops_of log s
  unfolding ops_of append
  ops_other s l ne = get_or-set_other log (replica_of r - 1) (s - 1) _ [] (λ e. ne (omega arith))

  pub append_extends : Extends log (append log r)
  unfolding op_at
  append_extends = record {
    counts = λ s l u. elim (ℕ_discrete s (replica_of r)) [
      | yes e ↦ rw (e, count_held, count_held, ops_same, length-append) (omega arith)
      | no ne ↦ rw (count_held, count_held, ops_other s l ne) (omega arith)
    ];
    ops = λ s q l u lq uq. elim (ℕ_discrete s (replica_of r)) [
      | yes e ↦ rw (e, ops_same) (let b = rw (e, count_held) at uq in get_or-append (ops_of log (replica_of r)) (r ∷ []) [] (q - 1)
          (omega arith))
      | no ne ↦ rw (ops_other s l ne)
    ];
  }

---- widths and counts

pub wide_append : (w : ℕ) (log : Log) (r : Op) → WideLog w log → length r ≡ w → WideLog w (append log r)
unfolding append ops_of
wide_append w log r h e =
    wide_set w log (replica_of r - 1) (ops_of log (replica_of r) ++ (r ∷ [])) h (wide_last w (ops_of log (replica_of r)) r
    (wide_at w log (replica_of r - 1) h) e)

sum_set : (log : Log) (i : ℕ) (r : Op) → i < length log → sum (map length (set log i (get_or log i [] ++ (r ∷ [])))) ≡ sum
    (map length log) + 1
unfolding sum
sum_set [] i r h = absurd (not-suc-le-zero h)
sum_set (x ∷ log) zero r h = rw length-append (omega arith)
sum_set (x ∷ log) (suc i) r h = rw (sum_set log i r (le_of_suc-le-suc h)) (omega arith)

pub sum_append : (log : Log) (r : Op) → length log ≡ 8 → 1 ≤ replica_of r → replica_of r ≤ 8
    → sum (counts_of (append log r)) ≡ sum (counts_of log) + 1
unfolding counts_of append ops_of
sum_append log r e l u = sum_set log (replica_of r - 1) r (omega arith)

---- an op that a log admits

pub record Admits (log : Log) (r : Op) : Type 0 where
  pub formed : well_formed r ≡ true
  pub new : is_held log r ≡ false
  pub is_covered : covered log (vector_of r) ≡ true
  pub is_closed : closed log (vector_of r) ≡ true
  pub names : names_known log r ≡ true

-- what passes the tests against a log passes them against one that holds more, and not the op
pub admits_more : (log more : Log) → Extends log more → (r : Op) → Admits log r → is_held more r ≡ false → Admits more r
admits_more log more x r h new =
    let same = same_within log more x (vector_of r) h.is_covered in
    record {
      formed = h.formed;
      new = new;
      is_covered = covered_more log more x (vector_of r) h.is_covered;
      is_closed = closed_more log more (vector_of r) same ∙ h.is_closed;
      names = names_more log more r same ∙ h.names;
    }

pub replica_formed : (r : Op) → well_formed r ≡ true → (1 ≤ replica_of r) × (replica_of r ≤ 8) × (own_count r < 255)
unfolding well_formed is_replica
replica_formed r e =
    let h = simp and-eq-true_iff at e in
    (leb-true _ _ h.0.0.0.0, leb-true _ _ h.0.0.0.1, ltb-true _ _ h.0.1)

-- the next sequence number
pub seq_next : (log : Log) (r : Op) → 1 ≤ replica_of r → replica_of r ≤ 8 → is_held log r ≡ false → covered log (vector_of r) ≡ true
    → own_count r ≡ length (ops_of log (replica_of r))
unfolding is_held seq_of own_count covered within
seq_next log r l u h c =
    let a : count_in (counts_of log) (replica_of r) < own_count r + 1 = leb-false _ _ h in
    let b : own_count r ≤ count_in (counts_of log) (replica_of r) = leb-true _ _
    (replica_passes (λ s. leb (count_in (vector_of r) s) (count_in (counts_of log) s)) c (replica_of r) l u) in
    omega (arith, count_held log (replica_of r))

module _ (log : Log) (r : Op) (g : GoodLog log) (h : Admits log r) where
  pub in_range : (1 ≤ replica_of r) × (replica_of r ≤ 8) × (own_count r < 255)
  in_range = replica_formed r h.formed

  pub extends : Extends log (append log r)
  extends = append_extends log r g.eight in_range.0 in_range.1

  pub own_next : own_count r ≡ length (ops_of log (replica_of r))
  own_next = seq_next log r in_range.0 in_range.1 h.new h.is_covered

  counts_new : (s : ℕ) → 1 ≤ s → s ≤ 8 → count_in (counts_of (append log r)) s ≤ 255
  counts_new s l u = elim (ℕ_discrete s (replica_of r)) [
    | yes e ↦ rw (e, count_held, ops_same log r g.eight in_range.0 in_range.1, length-append)
        (omega (arith, own_next, in_range.2))
    | no ne ↦ rw (count_held, ops_other log r g.eight in_range.0 in_range.1 s l ne, ← count_held log s) (g.counts s l u)
  ]

  -- its sequence, and the counts with it
  pub new_seq : seq_of r ≡ suc (count_in (counts_of log) (replica_of r))
  unfolding seq_of
  new_seq = omega (arith, own_next, count_held log (replica_of r))

  pub own_count_law : count_in (counts_of (append log r)) (replica_of r) ≡ suc (count_in (counts_of log) (replica_of r))
  own_count_law =
      rw (count_held, count_held, ops_same log r g.eight in_range.0 in_range.1, length-append) (omega arith)

  pub other_count : (s : ℕ) → 1 ≤ s → (s ≡ replica_of r → ⊥) → count_in (counts_of (append log r)) s ≡ count_in (counts_of log) s
  other_count s l ne = rw (count_held, count_held, ops_other log r g.eight in_range.0 in_range.1 s l ne)

  sound_new : sound_op (append log r) (replica_of r) (1 + length (ops_of log (replica_of r))) r ≡ true
  unfolding sound_op seq_of
  sound_new =
      sound_op_more log (append log r) extends (replica_of r) (1 + length (ops_of log (replica_of r))) r
      (and_both (and_both (and_both
      (and_both (and_both (eq-eqb (replica_of r) (replica_of r) refl) (eq-eqb (own_count r + 1) (1 + length (ops_of log (replica_of r)))
      (omega (arith, own_next)))) h.formed) h.is_covered) h.is_closed) h.names)

  ops_new : (s : ℕ) → 1 ≤ s → s ≤ 8 → sound_ops (append log r) s 1 (ops_of (append log r) s) ≡ true
  ops_new s l u = elim (ℕ_discrete s (replica_of r)) [
    | yes e ↦ rw (e, ops_same log r g.eight in_range.0 in_range.1) (sound_ops_last (append log r) (replica_of r) 1 _ r
        (sound_ops_more log (append log r) extends (replica_of r) 1 _ (g.ops (replica_of r) in_range.0 in_range.1)) sound_new)
    | no ne ↦ rw (ops_other log r g.eight in_range.0 in_range.1 s l ne) (sound_ops_more log (append log r) extends s 1 _
        (g.ops s l u))
  ]

  pub good_append : GoodLog (append log r)
  unfolding append
  good_append = record {
    eight = length-set log (replica_of r - 1) _ ∙ g.eight;
    counts = counts_new;
    ops = ops_new;
  }

pub seq_positive : (r : Op) → 1 ≤ seq_of r
unfolding seq_of
seq_positive r = omega arith
