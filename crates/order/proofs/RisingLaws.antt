-- Lists of rising numbers and of different numbers; the added nodes stand in rising order.
use mathlib.Core.Path.{◌≡◌, refl, ap, ◌∙◌}
use mathlib.Core.Logic.{⊎_elim}
use mathlib.Core.Bool.{Bool, true, false, cond}
use mathlib.Core.List.{List, ◌∷◌, ◌++◌, map, map-append, []}
use Prim.Native.Nat.{ℕ, zero, suc, ◌+◌, ◌*◌, ◌-◌, ◌/◌, ◌≤◌, ◌<◌}
use native.Mathlib.Nat.{le_of_suc-le-suc}
use native.Mathlib.Omega.{arith}
use borrow.Author.Tests.{eqb-true}
use lib.ListN.{length, take, get_or, length-take}
use lib.Seq.{get_or-take}
use Rattle.lists.specs.Lists.{up_from, concat, filter, any, is_in}
use Rattle.rules.specs.Op.{Op, Vector, replicas, count_in, node_of, node_number, is_add}
use Rattle.rules.specs.File.{Log, ops_of, op_at}
use Rattle.rules.specs.Tree.{slot_of, slots}
use Rattle.rules.specs.Replay.{ops_within, added_in}
use Rattle.lists.proofs.FilterLaws.{filter_append}
use Rattle.rules.proofs.StructureLaws.{count_held, held_in, GoodLog, good_ops}
use Rattle.lists.proofs.BoolLaws.{never}
use Rattle.rules.proofs.SlotLaws.{Valid, slot_below, slot_injective}
use Rattle.lists.proofs.NumberLaws.{pigeonhole}
use Rattle.order.proofs.LevelLaws.{Cut}
use Rattle.rules.proofs.KnownLaws.{names_add}
use Rattle.lists.proofs.MemberLaws.{is_in_cases, is_in_filter, is_in_at, is_in_concat, is_in_cons, is_in_here, is_in_there}
use Rattle.order.specs.Claims.{Distinct}

---- rising numbers

-- each is below all that follow
abbrev pub Rising : List ℕ → Type 0
Rising [] = Unit {0}
Rising (x ∷ xs) = ((y : ℕ) → is_in y xs ≡ true → x < y) × Rising xs

rising_append : (xs ys : List ℕ) → Rising xs → Rising ys → ((x y : ℕ) → is_in x xs ≡ true → is_in y ys ≡ true → x < y) → Rising (xs ++ ys)
rising_append [] ys r s h = s
rising_append (x ∷ xs) ys r s h = (
  λ y e. ⊎_elim (r.0 y) (h x y (is_in_here x xs)) (is_in_cases y xs ys e),
  rising_append xs ys r.1 s
      (λ a b p. h a b (is_in_there a x xs p)),
)

pub rising_filter : (p : ℕ → Bool) (xs : List ℕ) → Rising xs → Rising (filter p xs)
unfolding filter
rising_filter p [] r = tt
rising_filter p (x ∷ xs) r = go (p x) (rising_filter p xs r.1)
  where
    go : (b : Bool) → Rising (filter p xs) → Rising (cond b (x ∷ filter p xs) (filter p xs))
    go true ih = (λ y e. r.0 y (is_in_filter p xs y e).0, ih)
    go false ih = ih

---- the added nodes

module _ (p : Op → Bool) (g : Op → ℕ) where
  part_rises : (base : ℕ) (xs : List Op) → ((i : ℕ) → i < length xs → p (get_or xs i []) ≡ true → g (get_or xs i []) ≡ base + i)
      → Rising (map g (filter p xs)) × ((y : ℕ) → is_in y (map g (filter p xs)) ≡ true → (base ≤ y) × (y < base + length xs))
  unfolding filter is_in any
  part_rises base [] h = (tt, λ y e. never e)
  part_rises base (x ∷ xs) h = go (p x) refl (part_rises (suc base) xs (λ i l e. h (suc i) (omega arith) e ∙ omega arith))
    where
      go : (b : Bool) → p x ≡ b → Rising (map g (filter p xs)) × ((y : ℕ) → is_in y (map g (filter p xs)) ≡ true
          → (suc base ≤ y) × (y < suc base + length xs)) → Rising (map g (cond b (x ∷ filter p xs) (filter p xs))) × ((y : ℕ)
          → is_in y (map g (cond b (x ∷ filter p xs) (filter p xs))) ≡ true → (base ≤ y) × (y < base + suc (length xs)))
      go true q ih =
          let e : g x ≡ base + 0 = h 0 (omega arith) q in (
            (λ y w. let b = ih.1 y w in omega (arith, b.0), ih.0),
            λ y w. ⊎_elim (λ (z : y ≡ g x). (omega arith, omega arith)) (λ (z : is_in y (map g (filter p xs)) ≡ true). let b = ih.1 y z in
                (omega (arith, b.0), omega (arith, b.1))) (is_in_cons y (g x) (map g (filter p xs)) w),
          )
      go false q ih = (ih.0, λ y w. let b = ih.1 y w in (omega (arith, b.0), omega (arith, b.1)))

  spread : (G : ℕ → List Op) (ss : List ℕ) → map g (filter p (concat (map G ss))) ≡ concat (map (λ s. map g (filter p (G s))) ss)
  unfolding concat filter
  spread G [] = refl
  spread G (s ∷ ss) = rw (filter_append, map-append) (ap (λ t. map g (filter p (G s)) ++ t) (spread G ss))

parts_rise : (F : ℕ → List ℕ) → ((s : ℕ) → 1 ≤ s → s ≤ 8 → Rising (F s)) → ((s y : ℕ) → 1 ≤ s → s ≤ 8 → is_in y (F s) ≡ true → y / 256 ≡ s)
    → (n a : ℕ) → 1 ≤ a → a + n ≤ 9 → Rising (concat (map F (up_from a n))) × ((y : ℕ) → is_in y (concat (map F (up_from a n))) ≡ true
    → a ≤ y / 256)
unfolding up_from concat is_in any
parts_rise F rise near zero a l u = (tt, λ y e. never e)
parts_rise F rise near (suc n) a l u =
    let ih = parts_rise F rise near n (suc a) (omega arith) (omega arith) in (
      rising_append (F a) (concat (map F (up_from (suc a) n))) (rise a l (omega arith)) ih.0
          (λ x y e w. let b = ih.1 y w in let c = near a x l (omega arith) e in omega (arith, b, c)),
      λ y e. ⊎_elim (λ (w : is_in y (F a) ≡ true). let c = near a y l (omega arith) w in omega (arith, c))
          (λ (w : is_in y (concat (map F (up_from (suc a) n))) ≡ true). let b = ih.1 y w in omega (arith, b))
          (is_in_cases y (F a) (concat (map F (up_from (suc a) n))) e),
    )

module _ (log : Log) (good : GoodLog log) (cut : Vector) (is : Cut log cut) where
  own : (s : ℕ) → 1 ≤ s → s ≤ 8 → (i : ℕ) → i < length (take (count_in cut s) (ops_of log s))
      → is_add (get_or (take (count_in cut s) (ops_of log s)) i []) ≡ true
      → node_of (get_or (take (count_in cut s) (ops_of log s)) i []) ≡ (256 * s + 1) + i
  unfolding op_at is_add node_number
  own s l u i h a =
      let n : i < count_in cut s = omega (arith, rw length-take at h) in
      let z : i + 1 - 1 ≡ i = omega arith in
      let x = good_ops good s (i + 1) l u (omega arith) (omega (arith, held_in log cut is.is_covered s l u)) in
      let t : get_or (take (count_in cut s) (ops_of log s)) i [] ≡ op_at log s (i + 1) = get_or-take (count_in cut s) (ops_of log s) i [] n ∙ rw z in
      let k = rw t at a in
      rw t ((names_add log (op_at log s (i + 1)) x.names (eqb-true _ _ k)).1 ∙ rw (x.origin, x.number) (omega arith))

  -- "in rising order"
  pub added_rises : Rising (added_in log cut)
  unfolding added_in ops_within replicas
  added_rises =
      rw (spread is_add node_of (λ s. take (count_in cut s) (ops_of log s)) (up_from 1 8))
      (parts_rise (λ s. map node_of (filter is_add (take (count_in cut s) (ops_of log s)))) (λ s l u. (part s l u).0) near 8 1 (omega arith)
      (omega arith)).0
    where
      part : (s : ℕ) → 1 ≤ s → s ≤ 8 → Rising (map node_of (filter is_add (take (count_in cut s) (ops_of log s)))) × ((y : ℕ)
          → is_in y (map node_of (filter is_add (take (count_in cut s) (ops_of log s)))) ≡ true
          → (256 * s + 1 ≤ y) × (y < 256 * s + 1 + length (take (count_in cut s) (ops_of log s))))
      part s l u = part_rises is_add node_of (256 * s + 1) (take (count_in cut s) (ops_of log s)) (own s l u)

      near : (s y : ℕ) → 1 ≤ s → s ≤ 8 → is_in y (map node_of (filter is_add (take (count_in cut s) (ops_of log s)))) ≡ true → y / 256 ≡ s
      near s y l u e =
          let b = (part s l u).1 y e in
          let n : length (take (count_in cut s) (ops_of log s)) ≤ 255 = rw length-take (omega (arith, count_held log s, good.counts s l u))
          in
          omega (arith, b.0, b.1)

---- different numbers

distinct_append : (xs ys : List ℕ) → Distinct xs → Distinct ys → ((y : ℕ) → is_in y xs ≡ true → is_in y ys ≡ true → ⊥) → Distinct (xs ++ ys)
distinct_append [] ys d e h = e
distinct_append (x ∷ xs) ys d e h =
    (λ w. ⊎_elim d.0 (h x (is_in_here x xs)) (is_in_cases x xs ys w), distinct_append xs ys d.1 e (λ y p. h y (is_in_there y x xs p)))

pub distinct_concat : (F : ℕ → List ℕ) (cs : List ℕ) → Rising cs → ((c : ℕ) → is_in c cs ≡ true → Distinct (F c))
    → ((c d y : ℕ) → is_in c cs ≡ true → is_in d cs ≡ true → c < d → is_in y (F c) ≡ true → is_in y (F d) ≡ true → ⊥)
    → Distinct (concat (map F cs))
unfolding concat
distinct_concat F [] r d h = tt
distinct_concat F (c ∷ cs) r d h =
    distinct_append (F c) (concat (map F cs)) (d c (is_in_here c cs)) (distinct_concat F cs r.1 (λ b e. d b (is_in_there b c cs e))
    (λ a b y p q. h a b y (is_in_there a c cs p) (is_in_there b c cs q))) (λ y p q.
    let (b, e, w) = is_in_concat F cs y q in
    h c b y (is_in_here c cs) (is_in_there b c cs e) (r.0 b e) p w)

distinct_at : (xs : List ℕ) → Distinct xs → (j k : ℕ) → j < k → k < length xs → get_or xs j 0 ≡ get_or xs k 0 → ⊥
distinct_at [] d j k h u e = absurd (omega arith)
distinct_at (x ∷ xs) d j zero h u e = absurd (omega arith)
distinct_at (x ∷ xs) d zero (suc k) h u e = d.0 (rw e (is_in_at xs k (le_of_suc-le-suc u)))
distinct_at (x ∷ xs) d (suc j) (suc k) h u e = distinct_at xs d.1 j k (le_of_suc-le-suc h) (le_of_suc-le-suc u) e

-- there are 2,041 numbers of nodes, with the root's
pub distinct_length : (xs : List ℕ) → Distinct xs → ((y : ℕ) → is_in y xs ≡ true → Valid y) → length xs ≤ slots
distinct_length xs d v =
    pigeonhole slots (length xs) (λ j. slot_of (get_or xs j 0)) (λ j h. slot_below _ (v _ (is_in_at xs j h))) (λ j k h u e.
    distinct_at xs d j k h u (slot_injective _ _ (v _ (is_in_at xs j (omega arith))) (v _ (is_in_at xs k u)) e))
