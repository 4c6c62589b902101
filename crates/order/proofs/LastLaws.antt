-- The greatest timestamp within a closed vector is that of the last op of some replica in it.
use mathlib.Core.Path.{◌≡◌}
use mathlib.Core.List.{map}
use Prim.Native.Nat.{ℕ, ◌≤◌}
use native.Mathlib.Omega.{arith}
use native.Mathlib.Decide.{ℕ_discrete}
use borrow.Author.Tests.{eq-eqb, ne_eqb}
use native.Mathlib.Nat.{le_refl}
use Rattle.rules.specs.Replay.{timestamp, ops_within}
use Rattle.rules.specs.File.{Log, counts_of}
use Rattle.lists.specs.Lists.{up_from, greatest}
use Rattle.rules.specs.Op.{count_in, Vector, replicas}
use Rattle.rules.proofs.StructureLaws.{held_in, GoodLog}
use Rattle.order.proofs.LevelLaws.{Cut, counted_value, counted_bound, rising, time_of}
use Rattle.lists.proofs.GreatestLaws.{greatest_all, greatest_at}
use Rattle.order.specs.Claims.{last_time}

module _ (log : Log) (good : GoodLog log) (v : Vector) (is : Cut log v) where
  some : (s : ℕ) → (count_in v s ≡ 0 → ⊥) → last_time log v s ≡ time_of log good s (count_in v s)
  unfolding last_time
  some s ne = rw (ne_eqb (count_in v s) 0 ne)

  none : (s : ℕ) → count_in v s ≡ 0 → last_time log v s ≡ 0
  unfolding last_time
  none s e = rw (eq-eqb (count_in v s) 0 e)

  held : (s : ℕ) → 1 ≤ s → s ≤ 8 → count_in v s ≤ count_in (counts_of log) s
  held = held_in log v is.is_covered

  pub greatest_last : greatest (map (timestamp log) (ops_within log v)) ≡ greatest (map (last_time log v) replicas)
  unfolding replicas
  greatest_last =
      let below : greatest (map (timestamp log) (ops_within log v)) ≤ greatest (map (last_time log v) (up_from 1 8)) =
      counted_bound log v (timestamp log) _ (λ s q l u lq uq.
      let last = greatest_at (last_time log v) 8 1 s l (omega arith) in
      let e = some s (λ z. omega arith) in
      elim (ℕ_discrete q (count_in v s)) [
        | yes z ↦ rw z (omega arith)
        | no nz ↦ omega (arith, rising log good s q (count_in v s) l u lq (omega arith) (held s l u))
      ]) in
      let above : greatest (map (last_time log v) (up_from 1 8)) ≤ greatest (map (timestamp log) (ops_within log v)) =
      greatest_all (last_time log v) 8 1 _ (λ s l u. at s l (omega arith)) in
      omega arith
    where
      at : (s : ℕ) → 1 ≤ s → s ≤ 8 → last_time log v s ≤ greatest (map (timestamp log) (ops_within log v))
      at s l u = elim (ℕ_discrete (count_in v s) 0) [
        | yes z ↦ rw (none s z) (omega arith)
        | no nz ↦ rw (some s nz) (counted_value log v (timestamp log) s (count_in v s) l u (omega arith) (le_refl _) (held s l u))
      ]
