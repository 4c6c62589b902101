-- An op of a log, by its own replica and number: in a log that holds more, and in a log with one op more.
use mathlib.Core.Path.{◌≡◌, refl, sym, ap, ◌∙◌}
use mathlib.Core.Logic.{◌⊎◌, inl, inr}
use mathlib.Core.List.{[]}
use Prim.Native.Nat.{ℕ, ◌+◌, ◌-◌, ◌≤◌}
use native.Mathlib.Omega.{arith}
use native.Mathlib.Decide.{ℕ_discrete, dec_le}
use lib.ListN.{length, length-append}
use lib.Seq.{get_or-append_seam}
use Rattle.rules.specs.Op.{Op, count_in, replica_of, own_count, seq_of}
use Rattle.rules.specs.File.{Log, ops_of, op_at, counts_of, append, Extends}
use Rattle.rules.proofs.AppendLaws.{append_extends, ops_same, ops_other, seq_positive}
use Rattle.rules.proofs.StructureLaws.{count_held, HeldOps}

-- r is the op of its replica and number in the log
pub record OpIn (log : Log) (r : Op) : Type 0 where
  pub low : 1 ≤ replica_of r
  pub high : replica_of r ≤ 8
  pub here : seq_of r ≤ count_in (counts_of log) (replica_of r)
  pub there : op_at log (replica_of r) (seq_of r) ≡ r

pub in_more : (log more : Log) → Extends log more → (r : Op) → OpIn log r → OpIn more r
in_more log more x r h = record {
  low = h.low;
  high = h.high;
  here = omega (arith, h.here, x.counts (replica_of r) h.low h.high);
  there = x.ops (replica_of r) (seq_of r) h.low h.high (seq_positive r) h.here ∙ h.there;
}

pub op_in : (log : Log) → HeldOps log → (s q : ℕ) → 1 ≤ s → s ≤ 8 → 1 ≤ q → q ≤ count_in (counts_of log) s → OpIn log (op_at log s q)
op_in log h s q l u lq uq = let x = h s q l u lq uq in record {
  low = rw x.origin l;
  high = rw x.origin u;
  here = rw (x.origin, x.number) uq;
  there = rw (x.origin, x.number);
}

---- one op more

module _ (log : Log) (r : Op) (eight : length log ≡ 8) (lo : 1 ≤ replica_of r) (hi : replica_of r ≤ 8)
    (next : own_count r ≡ length (ops_of log (replica_of r))) where
  count_new : count_in (counts_of (append log r)) (replica_of r) ≡ length (ops_of log (replica_of r)) + 1
  count_new = rw (count_held, ops_same log r eight lo hi, length-append)

  at_new : (q : ℕ) → q ≡ seq_of r → op_at (append log r) (replica_of r) q ≡ r
  unfolding op_at seq_of
  at_new q e =
      let k : q - 1 ≡ length (ops_of log (replica_of r)) = omega arith in
      rw (ops_same log r eight lo hi, k) (get_or-append_seam (ops_of log (replica_of r)) r [] [])

  pub new_in : OpIn (append log r) r
  unfolding seq_of
  new_in = record { low = lo; high = hi; here = omega (arith, count_new); there = at_new (seq_of r) refl }

  pub in_append : (x : Op) → OpIn (append log r) x → OpIn log x ⊎ (x ≡ r)
  unfolding seq_of
  in_append x h = elim (ℕ_discrete (replica_of x) (replica_of r)) [
    | yes e ↦ elim (dec_le (seq_of x) (count_in (counts_of log) (replica_of x))) [
      | yes l ↦ inl (old l)
      | no nl ↦ inr (last e nl)
    ]
    | no ne ↦ inl (old (rw (
      count_held log (replica_of x),
      ← ops_other log r eight lo hi (replica_of x) h.low ne,
      ← count_held
          (append log r) (replica_of x),
    ) h.here))
  ]
    where
      old : seq_of x ≤ count_in (counts_of log) (replica_of x) → OpIn log x
      old l = record {
        low = h.low;
        high = h.high;
        here = l;
        there = sym ((append_extends log r eight lo hi).ops (replica_of x) (seq_of x) h.low h.high (seq_positive x) l) ∙ h.there;
      }

      last : replica_of x ≡ replica_of r → (seq_of x ≤ count_in (counts_of log) (replica_of x) → ⊥) → x ≡ r
      last e nl =
          let a : seq_of x ≤ count_in (counts_of (append log r)) (replica_of r) = rw e at h.here in
          let b : seq_of x ≤ count_in (counts_of log) (replica_of r) → ⊥ = rw e at nl in
          let c : seq_of x ≡ seq_of r = omega (arith, count_new, count_held log (replica_of r)) in
          sym h.there ∙ rw e (at_new (seq_of x) c)

  -- within a log that has the op too, the log stays so
  pub append_within : (u : Log) → Extends log u → OpIn u r → Extends (append log r) u
  unfolding seq_of
  append_within u x i = record {
    counts = λ s l h. elim (ℕ_discrete s (replica_of r)) [
      | yes e ↦ rw e (omega (arith, count_new, i.here))
      | no ne ↦ rw (count_held (append log r) s, ops_other log r eight lo hi s l ne, ← count_held log s) (x.counts s l h)
    ];
    ops = λ s q l h lq uq. elim (dec_le q (count_in (counts_of log) s)) [
      | yes a ↦ x.ops s q l h lq a ∙ sym ((append_extends log r eight lo hi).ops s q l h lq a)
      | no na ↦ elim (ℕ_discrete s (replica_of r)) [
        | yes e ↦ last s q e na uq
        | no ne ↦ absurd (na (rw (count_held log s, ← ops_other log r eight lo hi s l ne, ← count_held (append log r) s) uq))
      ]
    ];
  }
    where
      last : (s q : ℕ) → s ≡ replica_of r → (q ≤ count_in (counts_of log) s → ⊥) → q ≤ count_in (counts_of (append log r)) s
          → op_at u s q ≡ op_at (append log r) s q
      last s q e na uq =
          let a : q ≤ count_in (counts_of log) (replica_of r) → ⊥ = rw e at na in
          let b : q ≤ count_in (counts_of (append log r)) (replica_of r) = rw e at uq in
          let c : q ≡ seq_of r = omega (arith, count_new, count_held log (replica_of r)) in
          rw e (ap (op_at u (replica_of r)) c ∙ i.there ∙ sym (at_new q c))
