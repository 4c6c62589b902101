-- Along a replica vectors rise: an op's vector is closed if it is nowhere less than that of the op before, which its own
-- count names, and closed at every other count that has changed since. The op that an unchanged count names was within the
-- vector before, which was closed.
use mathlib.Core.Path.{◌≡◌, refl, sym, ◌∙◌}
use mathlib.Core.Logic.{⊎_elim}
use mathlib.Core.Bool.{true, cond, or-true}
use Prim.Native.Nat.{ℕ, ◌+◌, ◌-◌, ◌≤◌, ◌<◌}
use native.Mathlib.Omega.{arith}
use native.Mathlib.Decide.{dec_le, ℕ_discrete}
use lib.ListN.{replicate}
use lib.Dec.{eqb, ltb}
use borrow.Author.Tests.{eq-eqb, ne_eqb, eqb-true, lt-ltb, le-ltb, ltb-true}
use Rattle.lists.proofs.BoolLaws.{and_both, and_left, and_right, both_ways, or_again, or_cases, or_then}
use Rattle.rules.specs.File.{Log, op_at, counts_of, within}
use Rattle.rules.specs.Log.{closed, closed_at, covered}
use Rattle.rules.specs.Op.{Vector, count_in, vector_of, seq_of, own_count}
use Rattle.rules.proofs.ReplicaLaws.{all_alike, all_replicas, replica_passes}
use Rattle.rules.proofs.CausalLaws.{closed_zero, count_none, le_within, none_closed, none_within, within_trans}
use Rattle.rules.proofs.StructureLaws.{HeldOp, held_in, sound_held}
use Rattle.vector.specs.Packed.{is_step}
use Rattle.structure.specs.Tests.{Before, vector_before, own_alone, change_closed, changes_closed, risen, vector_by}

-- since nothing was counted, every count above 0 has changed
pub closed_since_none : (log : Log) (v : Vector) → closed log v ≡ changes_closed log (replicate 8 0) v 0
unfolding closed changes_closed change_closed closed_at
closed_since_none log v = all_alike (closed_at log v) _ (λ s l u.
    rw (ne_eqb s 0 (λ e. omega arith), count_none s l u) (sym (or_again (eqb (count_in v s) 0) _)))

---- the vector before

module _ (log : Log) (s q : ℕ) (before : Vector) (t : Before log s q before) (l : 1 ≤ s) (u : s ≤ 8) where
  later : 1 < q → before ≡ vector_of (op_at log s (q - 1))
  unfolding vector_before
  later h = t.is ∙ rw (lt-ltb 1 q h)

  at_first : q ≤ 1 → before ≡ replicate 8 0
  unfolding vector_before
  at_first h = t.is ∙ rw (le-ltb 1 q h)

  op_before : 1 < q → HeldOp log s (q - 1) (op_at log s (q - 1))
  op_before h = sound_held log s (q - 1) _ (t.is_sound_so h)

  before_own : 1 < q → count_in before s + 1 ≡ q - 1
  unfolding seq_of own_count
  before_own h = rw (later h) (rw (op_before h).origin at (op_before h).number)

  pub before_few : q ≤ 255 → count_in before s < 255
  before_few h = elim (dec_le 2 q) [
    | yes k ↦ omega (arith, before_own k)
    | no k ↦ rw (at_first (omega arith), count_none s l u) (omega arith)
  ]

  before_covered : covered log before ≡ true
  unfolding covered
  before_covered = elim (dec_le 2 q) [
    | yes k ↦ rw (later k) (op_before k).is_covered
    | no k ↦ rw (at_first (omega arith)) (none_within _)
  ]

  before_closed : closed log before ≡ true
  before_closed = elim (dec_le 2 q) [
    | yes k ↦ rw (later k) (op_before k).is_closed
    | no k ↦ rw (at_first (omega arith)) (none_closed log)
  ]

  -- at its own count a vector is closed if it is nowhere less than the one before
  own_closed : (v : Vector) → count_in v s + 1 ≡ q → closed_at log v s ≡ within before v
  unfolding closed_at
  own_closed v e = elim (dec_le 2 q) [
    | yes k ↦ let z : count_in v s ≡ q - 1 = omega arith in rw (later k, ← z, ne_eqb (count_in v s) 0 (λ x. omega arith))
    | no k ↦ rw (at_first (omega arith)) (closed_zero log v s (omega arith) ∙ sym (none_within v))
  ]

  module _ (v : Vector) where
    -- a count that has not changed needs no look-up
    unchanged_closed : within before v ≡ true → (k : ℕ) → 1 ≤ k → k ≤ 8 → count_in v k ≡ count_in before k → closed_at log v k ≡ true
    unfolding closed closed_at
    unchanged_closed h k lk uk e =
        rw e (or_then (eqb (count_in before k) 0) _ _ (λ z. within_trans _ before v z h)
        (replica_passes (closed_at log before) before_closed k lk uk))

    -- the law: for an op's vector, to be closed is to have risen
    module _ (own : count_in v s + 1 ≡ q) where
      risen_if : closed log v ≡ true → risen log before v s ≡ true
      unfolding closed risen changes_closed change_closed
      risen_if e =
          let there = replica_passes (closed_at log v) e in
          and_both (sym (own_closed v own) ∙ there s l u)
          (all_replicas (change_closed log before v s) (λ k lk uk. rw (there k lk uk, or-true) (or-true (eqb k s))))

      closed_if : risen log before v s ≡ true → closed log v ≡ true
      unfolding closed risen changes_closed change_closed
      closed_if e =
          let h : within before v ≡ true = and_left (within before v) _ e in
          let there = replica_passes (change_closed log before v s) (and_right (within before v) _ e) in
          all_replicas (closed_at log v) (λ k lk uk.
          ⊎_elim (λ z. rw (eqb-true k s z) (own_closed v own ∙ h))
          (λ z. ⊎_elim (λ x. unchanged_closed h k lk uk (eqb-true _ _ x)) (λ x. x)
          (or_cases (eqb (count_in v k) (count_in before k)) _ z)) (or_cases (eqb k s) _ (there k lk uk)))

      pub closed_risen : closed log v ≡ risen log before v s
      closed_risen = both_ways _ _ risen_if closed_if

  -- if the own count alone has changed, the vector has its number and is covered and closed
  module _ (v : Vector) (e : own_alone before v s q ≡ true) (held : q ≤ count_in (counts_of log) s) where
    is_later : 1 < q
    unfolding own_alone
    is_later = ltb-true 1 q (and_left (ltb 1 q) _ e)

    count_by : (k : ℕ) → 1 ≤ k → k ≤ 8 → count_in before k + cond (eqb k s) 1 0 ≡ count_in v k
    unfolding own_alone is_step
    count_by k lk uk =
        eqb-true _ _ (replica_passes (λ t. eqb (count_in before t + cond (eqb t s) 1 0) (count_in v t)) (and_right (ltb 1 q) _ e) k lk uk)

    own_count_law : count_in before s + 1 ≡ count_in v s
    own_count_law = rw (eq-eqb s s refl) at (count_by s l u)

    other_count : (k : ℕ) → 1 ≤ k → k ≤ 8 → (k ≡ s → ⊥) → count_in v k ≡ count_in before k
    other_count k lk uk n = omega (arith, rw (ne_eqb k s n) at (count_by k lk uk))

    alone_number : count_in v s + 1 ≡ q
    alone_number = omega (arith, before_own is_later, own_count_law, is_later)

    alone_above : within before v ≡ true
    alone_above = le_within before v (λ k lk uk. elim (ℕ_discrete k s) [
      | yes z ↦ rw z (omega (arith, own_count_law))
      | no z ↦ omega (arith, other_count k lk uk z)
    ])

    alone_covered : covered log v ≡ true
    unfolding covered
    alone_covered = le_within v (counts_of log) (λ k lk uk. elim (ℕ_discrete k s) [
      | yes z ↦ rw z (omega (arith, alone_number))
      | no z ↦ omega (arith, other_count k lk uk z, held_in log before before_covered k lk uk)
    ])

    alone_closed : closed log v ≡ true
    unfolding closed
    alone_closed = all_replicas (closed_at log v) (λ k lk uk. elim (ℕ_discrete k s) [
      | yes z ↦ rw z (own_closed v alone_number ∙ alone_above)
      | no z ↦ unchanged_closed v alone_above k lk uk (other_count k lk uk z)
    ])

    pub alone_passes : vector_by log v s q ≡ true
    unfolding vector_by
    alone_passes = and_both (and_both (eq-eqb _ q alone_number) alone_covered) alone_closed
