-- No node was placed later than the latest op of a replay.
use Prim.Native.Nat.{ℕ, ◌≤◌}
use lib.Dec.{eqb}
use lib.ListN.{length-replicate, set, get_or-eq_default, get_or-replicate, length-set, length, get_or, replicate}
use lib.Seq.{get_or-set_same, get_or-set_other}
use mathlib.Core.Bool.{cond, false, true, Bool, ◌&&◌}
use mathlib.Core.List.{List, [], map, ◌∷◌, foldl}
use native.Mathlib.Decide.{ℕ_discrete, dec_le}
use native.Mathlib.Nat.{le_refl}
use native.Mathlib.Omega.{arith}
use Rattle.order.proofs.LevelLaws.{stamped_times}
use Rattle.lists.proofs.GreatestLaws.{greatest_parts, greatest_down, greatest_filter}
use Rattle.lists.specs.Lists.{greatest}
use Rattle.rules.specs.File.{Log}
use Rattle.rules.specs.Op.{Vector, node_of, is_move}
use Rattle.rules.specs.Replay.{Stamped, by_time, step, start, replay, State, of_time, ordered, of_kind, stamped, of_replica, timestamp, outcome_of, ops_within}
use Rattle.rules.specs.Tree.{slot_of, slots}

---- the times of a replay's ops

abbrev time : Stamped → ℕ
time x = x.time

times_ordered : (xs : List Stamped) → greatest (map time (by_time xs)) ≤ greatest (map time xs)
unfolding by_time of_time of_kind of_replica
times_ordered xs =
    greatest_parts time (of_time xs) (greatest (map time xs)) 1 _ (λ t a b.
    greatest_parts time (of_kind xs t) 4 1 _ (λ k c d.
    greatest_down time (of_replica xs t k) 8 _ (λ s. greatest_filter time _ xs)))

---- the times that nodes were placed

abbrev pub PlacedBy : ℕ → List ℕ → Type 0
PlacedBy b placed = (i : ℕ) → get_or placed i 0 ≤ b

placed_set : (placed : List ℕ) (b n t : ℕ) → PlacedBy b placed → t ≤ b → PlacedBy b (set placed n t)
placed_set placed b n t h le i = elim (ℕ_discrete i n) [
  | no ne ↦ rw (get_or-set_other placed n i t 0 ne) (h i)
  | yes e ↦ elim (dec_le (length placed) i) [
    | yes out ↦ rw (get_or-eq_default (set placed n t) 0 {n = i} (omega (arith, length-set placed n t))) (omega arith)
    | no in_it ↦ rw (e, get_or-set_same placed n t 0 (omega arith)) le
  ]
]

placed_step : (st : State) (x : Stamped) (b : ℕ) → PlacedBy b st.placed → x.time ≤ b → PlacedBy b (step st x).placed
unfolding step
placed_step st x b h le = go (eqb (outcome_of st x) 1 && is_move x.op)
  where
    go : (moved : Bool) → PlacedBy b (cond moved (set st.placed (slot_of (node_of x.op)) x.time) st.placed)
    go true = placed_set st.placed b _ x.time h le
    go false = h

placed_run : (xs : List Stamped) (st : State) (b : ℕ) → PlacedBy b st.placed → greatest (map time xs) ≤ b
    → PlacedBy b (foldl step st xs).placed
unfolding greatest
placed_run [] st b h le = h
placed_run (x ∷ xs) st b h le =
    placed_run xs (step st x) b (placed_step st x b h (omega arith)) (omega arith)

pub placed_first : PlacedBy 0 start.placed
unfolding start
placed_first i = elim (dec_le slots i) [
  | yes out ↦ rw (get_or-eq_default {A = ℕ} (replicate slots 0) 0 {n = i} (omega (arith, length-replicate {A = ℕ} slots 0))) (le_refl 0)
  | no in_it ↦ rw (get_or-replicate {A = ℕ} slots i 0 0 (omega arith)) (le_refl 0)
]

pub placed_by : (log : Log) (cut : Vector) (i : ℕ) → get_or (replay log cut).placed i 0 ≤ greatest (map (timestamp log) (ops_within log cut))
unfolding replay ordered stamped
placed_by log cut =
    placed_run (by_time (stamped log cut)) start _ (λ i. omega (arith, placed_first i)) (rw (← stamped_times log (ops_within log cut))
    (times_ordered (stamped log cut)))
