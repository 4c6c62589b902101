-- The slots of an order: each is that of an op, and no two are the same.
use Prim.Native.Nat.{ℕ, ◌+◌, ◌*◌, ◌-◌, ◌/◌, ◌%◌, ◌≤◌, ◌<◌}
use borrow.Author.Tests.{eq-eqb, ne_eqb}
use lib.Dec.{eqb}
use lib.ListN.{take, get_or, length, length-map}
use mathlib.Core.Bool.{Bool, true, false, cond}
use mathlib.Core.List.{List, [], ◌∷◌, map}
use mathlib.Core.Logic.{⊎_elim}
use mathlib.Core.Path.{◌≡◌, refl}
use native.Mathlib.Decide.{dec_le}
use native.Mathlib.Omega.{arith}
use Rattle.lists.specs.Lists.{any, concat, filter, is_in, up_from}
use Rattle.lists.proofs.BoolLaws.{or_cases}
use Rattle.lists.proofs.EachLaws.{Each, each_of_map}
use Rattle.lists.proofs.FilterLaws.{any_passes, filter_map, filter_none, filter_one, filter_part}
use Rattle.lists.proofs.MemberLaws.{each_in, is_in_here, is_in_there}
use Rattle.rules.specs.File.{Log, counts_of, op_at, ops_of}
use Rattle.rules.specs.Log.{covered}
use Rattle.rules.specs.Op.{Op, Vector, count_in, replicas}
use Rattle.rules.specs.Replay.{Stamped, stamp, stamped, ordered, ops_within, order_of, outcome_slot}
use Rattle.rules.specs.Tree.{slot}
use Rattle.rules.proofs.StructureLaws.{GoodLog, count_held, counts_covered, good_ops, held_in}
use Rattle.order.specs.Claims.{Distinct}
use Rattle.order.specs.Undo.{IsSlot}
use Rattle.order.proofs.LevelLaws.{whole_cut}
use Rattle.order.proofs.OnceLaws.{ordered_once}
use Rattle.order.proofs.OrderLaws.{ordered_each}
use Rattle.order.proofs.PartLaws.{in_cut, ordered_part}

-- each stands at most once
none_left : (x : ℕ) (xs : List ℕ) → length (filter (eqb x) (x ∷ xs)) ≤ 1 → length (filter (eqb x) xs) ≤ 0
unfolding filter
none_left x xs b = let e = rw (eq-eqb x x refl) at b in omega arith

one_less : (i x : ℕ) (xs : List ℕ) → length (filter (eqb i) xs) ≤ length (filter (eqb i) (x ∷ xs))
unfolding filter
one_less i x xs = go (eqb i x)
  where
    go : (b : Bool) → length (filter (eqb i) xs) ≤ length (cond b (x ∷ filter (eqb i) xs) (filter (eqb i) xs))
    go true = omega arith
    go false = omega arith

distinct : (xs : List ℕ) → ((i : ℕ) → is_in i xs ≡ true → length (filter (eqb i) xs) ≤ 1) → Distinct xs
unfolding is_in
distinct [] h = tt
distinct (x ∷ xs) h = (
  (λ e. omega (arith, any_passes (eqb x) xs e, none_left x xs (h x (is_in_here x xs)))),
  distinct xs (λ i e. omega (arith, h i (is_in_there i x xs e), one_less i x xs)),
)

one_at_most : {A : Type 0} (b : Bool) (x : A) → length (cond b (x ∷ []) []) ≤ 1
one_at_most true x = omega arith
one_at_most false x = omega arith

module _ (log : Log) (good : GoodLog log) (cut : Vector) (is : covered log cut ≡ true) where
  slot_held : (s q : ℕ) → 1 ≤ s → s ≤ 8 → 1 ≤ q → q ≤ count_in cut s → outcome_slot (op_at log s q) ≡ 255 * (s - 1) + q
  unfolding outcome_slot slot
  slot_held s q l u lq uq =
      let x = good_ops good s q l u lq (omega (arith, held_in log cut is s l u)) in
      rw (x.origin, x.number)

  few : (s : ℕ) → 1 ≤ s → s ≤ 8 → count_in cut s ≤ 255
  few s l u = omega (arith, held_in log cut is s l u, good.counts s l u)

  slots_each : Each IsSlot (order_of log cut)
  unfolding order_of stamp
  slots_each =
      each_of_map IsSlot (λ (x : Stamped). outcome_slot x.op) (ordered log cut) (ordered_each log cut (λ x. IsSlot (outcome_slot x.op))
      (λ s q l u lq uq.
      let e = slot_held s q l u lq uq in
      let f = few s l u in
      record { some = omega arith; most = omega arith }))

  pub slots_in : (i : ℕ) → is_in i (order_of log cut) ≡ true → IsSlot i
  slots_in = each_in IsSlot (order_of log cut) slots_each

  at_place : (s i : ℕ) → 1 ≤ s → s ≤ 8 → i < count_in cut s → outcome_slot (get_or (ops_of log s) i []) ≡ 255 * (s - 1) + (i + 1)
  unfolding op_at
  at_place s i l u h =
      let e : i + 1 - 1 ≡ i = omega arith in
      rw e at (slot_held s (i + 1) l u (omega arith) (omega arith))

  -- one op at most has a slot
  slot_once : (i : ℕ) → IsSlot i → length (filter (λ (x : Stamped). eqb i (outcome_slot x.op)) (stamped log cut)) ≤ 1
  unfolding stamped ops_within replicas stamp
  slot_once i b =
      let s : ℕ = (i - 1) / 255 + 1 in
      let j : ℕ = (i - 1) % 255 in
      let l : 1 ≤ s = omega arith in
      let u : s ≤ 8 = omega (arith, b.most) in
      let p : Stamped → Bool = λ x. eqb i (outcome_slot x.op) in
      let part : ℕ → List Op = λ r. take (count_in cut r) (ops_of log r) in
      let only : filter p (map (stamp log) (concat (map part (up_from 1 8)))) ≡ filter p (map (stamp log) (part s)) =
      filter_part p (stamp log) part 8 1 s l (omega arith) (λ r a c ne. filter_none p (stamp log) [] (count_in cut r) (ops_of log r)
      (λ k h d.
      let e = at_place r k a (omega arith) h in
      let f = few r a (omega arith) in
      ne_eqb i (outcome_slot (get_or (ops_of log r) k [])) (λ z. ne (omega (arith, b.some))))) in
      let off : (k : ℕ) → k < count_in cut s → (k ≡ j → ⊥) → p (stamp log (get_or (ops_of log s) k [])) ≡ false =
      λ k h ne.
      let e = at_place s k l u h in
      let f = few s l u in
      ne_eqb i (outcome_slot (get_or (ops_of log s) k [])) (λ z. ne (omega (arith, b.some))) in
      elim (dec_le (count_in cut s) j) [
        | yes out ↦
            rw (only, filter_none p (stamp log) [] (count_in cut s) (ops_of log s) (λ k h d. off k h (λ z. omega arith)))
            (omega arith)
        | no ins ↦ rw (
          only,
          filter_one p (stamp log) [] (count_in cut s) j (ops_of log s) (omega arith)
              (omega (arith, held_in log cut is s l u, count_held log s)) (λ k h d. off k h),
        ) (one_at_most (p (stamp log (get_or (ops_of log s) j []))) _)
      ]

-- of the whole order, and so of every part of it
whole_distinct : (log : Log) (good : GoodLog log) → Distinct (order_of log (counts_of log))
unfolding order_of
whole_distinct log good =
    let cut = counts_of log in
    let is = counts_covered log in
    distinct (order_of log cut) (λ i e.
    rw (
      filter_map (eqb i) (λ (x : Stamped). outcome_slot x.op) (ordered log cut),
      length-map,
      ordered_once log good cut (whole_cut log good) (λ (x : Stamped). eqb i (outcome_slot x.op)),
    ) (slot_once log good cut is i (slots_in log good cut is i e)))

module _ {A : Type 0} (f : A → ℕ) (p : A → Bool) where
  filtered_in : (i : ℕ) (xs : List A) → is_in i (map f (filter p xs)) ≡ true → is_in i (map f xs) ≡ true
  unfolding filter is_in any
  filtered_in i [] e = e
  filtered_in i (x ∷ xs) e = go (p x) e (filtered_in i xs)
    where
      go : (b : Bool) → is_in i (map f (cond b (x ∷ filter p xs) (filter p xs))) ≡ true
          → (is_in i (map f (filter p xs)) ≡ true → is_in i (map f xs) ≡ true) → is_in i (map f (x ∷ xs)) ≡ true
      go true e ih = ⊎_elim (λ q. rw q) (λ q. is_in_there i (f x) (map f xs) (ih q)) (or_cases (eqb i (f x)) _ e)
      go false e ih = is_in_there i (f x) (map f xs) (ih e)

  filtered_distinct : (xs : List A) → Distinct (map f xs) → Distinct (map f (filter p xs))
  unfolding filter
  filtered_distinct [] d = tt
  filtered_distinct (x ∷ xs) d = go (p x) (filtered_distinct xs d.1)
    where
      go : (b : Bool) → Distinct (map f (filter p xs)) → Distinct (map f (cond b (x ∷ filter p xs) (filter p xs)))
      go true ih = ((λ e. d.0 (filtered_in (f x) xs e)), ih)
      go false ih = ih

pub slots_distinct : (log : Log) → GoodLog log → (cut : Vector) → covered log cut ≡ true → Distinct (order_of log cut)
unfolding order_of
slots_distinct log good cut is =
    rw (ordered_part log good cut (counts_of log) (counts_covered log) (held_in log cut is))
    (filtered_distinct (λ (x : Stamped). outcome_slot x.op) (in_cut cut) (ordered log (counts_of log)) (whole_distinct log good))
