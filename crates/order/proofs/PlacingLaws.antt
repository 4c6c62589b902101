-- The `placed` table answers whether an applied move of the same timestamp already placed a node.
use Prim.Native.Nat.{ℕ, ◌≤◌}
use borrow.Author.Tests.{eqb-true, eq-eqb, ne_eqb}
use lib.Dec.{eqb}
use lib.ListN.{get_or}
use lib.Seq.{get_or-set_other, get_or-set_same}
use mathlib.Core.Bool.{Bool, false, cond, true, ◌||◌, ◌&&◌, or-false}
use mathlib.Core.List.{[], List, ◌∷◌, ◌++◌, foldl}
use mathlib.Core.Logic.{inr}
use mathlib.Core.Path.{refl, ◌≡◌, ap, sym, ◌∙◌}
use native.Mathlib.Decide.{ℕ_discrete}
use native.Mathlib.Omega.{arith}
use Rattle.lists.proofs.EachLaws.{Each, each_map, each_left, each_right}
use Rattle.rules.proofs.KnownLaws.{named_valid, names_node}
use Rattle.order.proofs.LevelLaws.{Cut, positive}
use Rattle.order.proofs.OrderLaws.{RisingTimes, ordered_rising, ordered_each}
use Rattle.rules.proofs.StepLaws.{Full, full_step, full_first}
use Rattle.order.proofs.PlacedLaws.{placed_first}
use Rattle.order.specs.Placing.{already_placed, applied_in, PlacedSays}
use Rattle.lists.proofs.BoolLaws.{never, and_false, and_true}
use Rattle.rules.proofs.StructureLaws.{GoodLog, good_ops, held_in, structural_good}
use Rattle.rules.proofs.SlotLaws.{Valid, slot_injective, slot_below}
use Rattle.lists.specs.Lists.{any}
use Rattle.rules.specs.File.{Log, op_at, log_of}
use Rattle.rules.specs.Op.{Vector, Op, count_in, is_move, node_of, vector_of}
use Rattle.rules.specs.Replay.{Stamped, stamp, State, step, outcome_of, ordered, start}
use Rattle.rules.specs.Tree.{slot_of}

---- times before one of the order

rising_left : (xs ys : List Stamped) → RisingTimes (xs ++ ys) → RisingTimes xs
rising_left [] ys r = tt
rising_left (x ∷ xs) ys r = (each_left _ xs ys r.0, rising_left xs ys r.1)

rising_before : (xs : List Stamped) (x : Stamped) (ys : List Stamped) → RisingTimes (xs ++ (x ∷ ys)) → Each (λ y. y.time ≤ x.time) xs
rising_before [] x ys r = tt
rising_before (y ∷ xs) x ys r = ((each_right _ xs (x ∷ ys) r.0).0, rising_before xs x ys r.1)

---- the table

-- a move's node has a slot of its own
abbrev Placeable : Stamped → Type 0
Placeable x = is_move x.op ≡ true → Valid (node_of x.op)

or_swap : (a r s : Bool) → (s ≡ true → a ≡ true) → (r || a) ≡ ((a || r) || s)
or_swap true true s h = refl
or_swap true false s h = refl
or_swap false true s h = refl
or_swap false false true h = never (h refl)
or_swap false false false h = refl

module _ (x : Stamped) (vx : Valid (node_of x.op)) where
  abbrev at : List ℕ → ℕ
  at placed = get_or placed (slot_of (node_of x.op)) 0

  abbrev same_node : Stamped → Bool
  same_node y = is_move y.op && eqb y.time x.time && eqb (node_of y.op) (node_of x.op)

  -- one op: the entry stays, unless a move of this node is applied
  at_kept : (st : State) (y : Stamped) → (eqb (outcome_of st y) 1 && is_move y.op) ≡ false → at (step st y).placed ≡ at st.placed
  unfolding step
  at_kept st y e = rw e

  at_other : (st : State) (y : Stamped) → Valid (node_of y.op) → (node_of y.op ≡ node_of x.op → ⊥)
      → (eqb (outcome_of st y) 1 && is_move y.op) ≡ true → at (step st y).placed ≡ at st.placed
  unfolding step
  at_other st y vy ne e =
      rw e (get_or-set_other st.placed (slot_of (node_of y.op)) (slot_of (node_of x.op)) y.time 0
      (λ q. ne (slot_injective (node_of y.op) (node_of x.op) vy vx (sym q))))

  at_moved : (st : State) (y : Stamped) → Full st → node_of y.op ≡ node_of x.op → (eqb (outcome_of st y) 1 && is_move y.op) ≡ true
      → at (step st y).placed ≡ y.time
  unfolding step
  at_moved st y full same e =
      rw (e, same) (get_or-set_same st.placed (slot_of (node_of x.op)) y.time 0
      (omega (arith, full.placed_full, slot_below (node_of x.op) vx)))

  run_says : (xs : List Stamped) (st : State) → Full st → Each Placeable xs → RisingTimes xs → Each (λ y. y.time ≤ x.time) xs
      → Each (λ y. at st.placed ≤ y.time) xs → eqb (at (foldl step st xs).placed) x.time ≡ (already_placed (applied_in st xs) x
      || eqb (at st.placed) x.time)
  unfolding already_placed applied_in any
  run_says [] st full v r hi lo = refl
  run_says (y ∷ xs) st full v r hi lo =
      go (eqb (outcome_of st y) 1) refl (is_move y.op) refl (run_says xs (step st y) (full_step st y full) v.1 r.1 hi.1)
    where
      go : (o : Bool) → eqb (outcome_of st y) 1 ≡ o → (m : Bool) → is_move y.op ≡ m → (Each (λ z. at (step st y).placed ≤ z.time) xs
          → eqb (at (foldl step (step st y) xs).placed) x.time ≡ (any same_node (applied_in (step st y) xs)
          || eqb (at (step st y).placed) x.time)) → eqb (at (foldl step (step st y) xs).placed)
          x.time ≡ (any same_node (cond (eqb (outcome_of st y) 1) (y ∷ applied_in (step st y) xs) (applied_in (step st y) xs))
          || eqb (at st.placed) x.time)
      go false eo m em ih =
          let k = at_kept st y (rw eo) in
          rw eo (ih (rw k lo.1) ∙ ap (λ (t : ℕ). any same_node (applied_in (step st y) xs) || eqb t x.time) k)
      go true eo false em ih =
          let k = at_kept st y (rw (eo, em)) in
          rw (eo, em) (ih (rw k lo.1) ∙ ap (λ (t : ℕ). any same_node (applied_in (step st y) xs) || eqb t x.time) k)
      go true eo true em ih = elim (ℕ_discrete (node_of y.op) (node_of x.op)) [
        | yes e ↦
            let k = at_moved st y full e (rw (eo, em)) in
            rw (eo, em, eq-eqb _ _ e, and_true)
            (ih (rw k r.0) ∙ ap (λ (t : ℕ). any same_node (applied_in (step st y) xs) || eqb t x.time) k
            ∙ or_swap (eqb y.time x.time) (any same_node (applied_in (step st y) xs)) (eqb (at st.placed) x.time)
            (λ z. eq-eqb y.time x.time (let w = eqb-true (at st.placed) x.time z in let h = hi.0 in let l = lo.0 in
            omega arith)))
        | no ne ↦
            let k = at_other st y (v.0 em) ne (rw (eo, em)) in
            rw (eo, em, ne_eqb _ _ ne, and_false)
            (ih (rw k lo.1) ∙ ap (λ (t : ℕ). any same_node (applied_in (step st y) xs) || eqb t x.time) k)
      ]

---- in the order of a replay

module _ (log : Log) (good : GoodLog log) (cut : Vector) (is : Cut log cut) where
  ordered_positive : Each (λ y. 1 ≤ y.time) (ordered log cut)
  unfolding stamp
  ordered_positive =
      ordered_each log cut (λ y. 1 ≤ y.time) (λ s q l u lq uq.
      positive log good s q l u lq (omega (arith, held_in log cut is.is_covered s l u)))

  move_valid : (s q : ℕ) → 1 ≤ s → s ≤ 8 → 1 ≤ q → q ≤ count_in cut s → Placeable (stamp log (op_at log s q))
  unfolding stamp is_move
  move_valid s q l u lq uq m =
      let r : Op = op_at log s q in
      let x = good_ops good s q l u lq (omega (arith, held_in log cut is.is_covered s l u)) in
      named_valid log (vector_of r) (node_of r) (inr (names_node log r x.names (λ k. never (rw k at m))))

  ordered_placeable : Each Placeable (ordered log cut)
  ordered_placeable = ordered_each log cut Placeable move_valid

pub placed_says : PlacedSays
placed_says w f s cut cv cl xs x ys e m =
    let log : Log = log_of w f in
    let good = structural_good w f s in
    let is : Cut log cut = record { is_covered = cv; is_closed = cl } in
    let rising = rw e at (ordered_rising log cut) in
    let placeable = rw e at (ordered_placeable log good cut is) in
    let positive = rw e at (ordered_positive log good cut is) in
    let first : get_or start.placed (slot_of (node_of x.op)) 0 ≤ 0 = placed_first (slot_of (node_of x.op)) in
    let late : 1 ≤ x.time = (each_right _ xs (x ∷ ys) positive).0 in
    let never_placed : eqb (get_or start.placed (slot_of (node_of x.op)) 0) x.time ≡ false = ne_eqb _ x.time (λ z. omega arith) in
    run_says x ((each_right Placeable xs (x ∷ ys) placeable).0 m) xs start full_first (each_left Placeable xs (x ∷ ys) placeable)
    (rising_left xs (x ∷ ys) rising) (rising_before xs x ys rising)
    (each_map _ _ xs (λ y h. omega arith) (each_left _ xs (x ∷ ys) positive)) ∙ rw (never_placed, or-false)
