-- The added nodes of a cut are the nodes that it knows.
use mathlib.Core.Path.{◌≡◌, refl, sym, ◌∙◌}
use mathlib.Core.Logic.{⊎_elim}
use mathlib.Core.Bool.{Bool, true, false, cond, or-true}
use mathlib.Core.List.{List, ◌∷◌, map, map-append, []}
use Prim.Native.Nat.{ℕ, zero, suc, ◌+◌, ◌*◌, ◌-◌, ◌/◌, ◌%◌, ◌≤◌, ◌<◌}
use native.Mathlib.Nat.{not-suc-le-zero, le_of_suc-le-suc, le_refl}
use native.Mathlib.Decide.{ℕ_discrete}
use borrow.Author.Tests.{eq-eqb, eqb-true}
use lib.ListN.{length, take, get_or}
use lib.Dec.{eqb}
use native.Mathlib.Omega.{arith}
use Rattle.lists.specs.Lists.{up_from, concat, filter, any, is_in}
use Rattle.rules.specs.Op.{Op, Vector, replicas, count_in, node_of, node_number, is_add}
use Rattle.rules.specs.File.{Log, ops_of, op_at, counts_of}
use Rattle.rules.specs.Marks.{is_known, knowledge}
use Rattle.rules.specs.Replay.{ops_within, added_in}
use Rattle.lists.proofs.FilterLaws.{filter_append}
use Rattle.rules.proofs.StructureLaws.{count_held, held_in, GoodLog, good_ops}
use Rattle.lists.proofs.BoolLaws.{never, or_cases, both_ways}
use Rattle.order.proofs.LevelLaws.{Cut}
use Rattle.rules.proofs.KnownLaws.{Known, known_reads, names_add, known_of}
use Rattle.lists.proofs.MemberLaws.{is_in_cases, is_in_left, is_in_right}

---- the added nodes

module _ (p : Op → Bool) (g : Op → ℕ) where
  in_take : (n i : ℕ) (xs : List Op) → i < n → i < length xs → p (get_or xs i []) ≡ true
      → is_in (g (get_or xs i [])) (map g (filter p (take n xs))) ≡ true
  unfolding is_in any filter
  in_take zero i xs h l e = absurd (not-suc-le-zero h)
  in_take (suc n) i [] h l e = absurd (not-suc-le-zero l)
  in_take (suc n) zero (x ∷ xs) h l e = rw (e, eq-eqb (g x) (g x) refl)
  in_take (suc n) (suc i) (x ∷ xs) h l e = go (p x) (in_take n i xs (le_of_suc-le-suc h) (le_of_suc-le-suc l) e)
    where
      go : (b : Bool) → any (eqb (g (get_or xs i []))) (map g (filter p (take n xs))) ≡ true
          → any (eqb (g (get_or xs i []))) (map g (cond b (x ∷ filter p (take n xs)) (filter p (take n xs)))) ≡ true
      go true ih = rw (ih, or-true)
      go false ih = ih

  take_in : (n : ℕ) (xs : List Op) (y : ℕ) → is_in y (map g (filter p (take n xs))) ≡ true
      → (i : ℕ) × (i < n) × (i < length xs) × (p (get_or xs i []) ≡ true) × (g (get_or xs i []) ≡ y)
  unfolding is_in any filter
  take_in zero xs y e = never e
  take_in (suc n) [] y e = never e
  take_in (suc n) (x ∷ xs) y e = go (p x) refl e (take_in n xs y)
    where
      go : (b : Bool) → p x ≡ b → any (eqb y) (map g (cond b (x ∷ filter p (take n xs)) (filter p (take n xs)))) ≡ true
          → (any (eqb y) (map g (filter p (take n xs))) ≡ true → (i : ℕ) × (i < n) × (i < length xs) × (p (get_or xs i []) ≡ true)
          × (g (get_or xs i []) ≡ y)) → (i : ℕ) × (i < suc n) × (i < suc (length xs)) × (p (get_or (x ∷ xs) i []) ≡ true)
          × (g (get_or (x ∷ xs) i []) ≡ y)
      go true q z ih =
          ⊎_elim (λ (w : eqb y (g x) ≡ true). (0, omega arith, omega arith, q, sym (eqb-true y (g x) w)))
          (λ (w : any (eqb y) (map g (filter p (take n xs))) ≡ true). let (i, a, b, c, d) = ih w in
          (suc i, omega arith, omega arith, c, d)) (or_cases (eqb y (g x)) _ z)
      go false q z ih = let (i, a, b, c, d) = ih z in (suc i, omega arith, omega arith, c, d)

  parts_in : (F : ℕ → List Op) (n a y : ℕ) → is_in y (map g (filter p (concat (map F (up_from a n))))) ≡ true
      → (s : ℕ) × (a ≤ s) × (s < a + n) × (is_in y (map g (filter p (F s))) ≡ true)
  unfolding up_from concat is_in any filter
  parts_in F zero a y e = never e
  parts_in F (suc n) a y e =
      ⊎_elim (λ (h : is_in y (map g (filter p (F a))) ≡ true). (a, le_refl a, omega arith, h))
      (λ (h : is_in y (map g (filter p (concat (map F (up_from (suc a) n))))) ≡ true). let (s, l, u, w) = parts_in F n (suc a) y h in
      (s, omega arith, omega arith, w)) (is_in_cases y (map g (filter p (F a))) _ (rw (filter_append, map-append) at e))

  in_parts : (F : ℕ → List Op) (n a s y : ℕ) → a ≤ s → s < a + n → is_in y (map g (filter p (F s))) ≡ true
      → is_in y (map g (filter p (concat (map F (up_from a n))))) ≡ true
  unfolding up_from concat
  in_parts F zero a s y l u e = absurd (omega arith)
  in_parts F (suc n) a s y l u e =
      rw (filter_append, map-append) (elim (ℕ_discrete a s) [
        | yes q ↦ is_in_left y (map g (filter p (F a))) (map g (filter p (concat (map F (up_from (suc a) n))))) (rw q e)
        | no ne ↦ is_in_right y (map g (filter p (F a))) _ (in_parts F n (suc a) s y (omega arith) (omega arith) e)
      ])

module _ (log : Log) (good : GoodLog log) (cut : Vector) (is : Cut log cut) where
  pub known_added : (m : ℕ) → Known log cut m → is_in m (added_in log cut) ≡ true
  unfolding added_in ops_within replicas op_at is_add node_number
  known_added m e =
      let (h, a) = known_reads log cut m e in
      let b : m % 256 ≤ count_in (counts_of log) (m / 256) = omega (
        arith,
        h.last,
        held_in log cut is.is_covered (m / 256) h.low
            h.high,
      ) in
      let x = good_ops good (m / 256) (m % 256) h.low h.high h.first b in
      let n : node_of (op_at log (m / 256) (m % 256)) ≡ 256 * (m / 256) + m % 256 = (names_add log (op_at log (m / 256) (m % 256)) x.names
      (eqb-true _ _ a)).1 ∙ rw (x.origin, x.number) in
      let n' : node_of (op_at log (m / 256) (m % 256)) ≡ m = omega arith in
      rw n' at (in_parts is_add node_of (λ r. take (count_in cut r) (ops_of log r)) 8 1 (m / 256) _ h.low (omega (arith, h.high))
      (in_take is_add node_of (count_in cut (m / 256)) (m % 256 - 1) (ops_of log (m / 256)) (omega (arith, h.first, h.last))
      (omega (arith, h.first, count_held log (m / 256))) a))

  added_known : (m : ℕ) → is_in m (added_in log cut) ≡ true → Known log cut m
  unfolding added_in ops_within replicas op_at is_add node_number
  added_known m e =
      let (s, l, u, h) = parts_in is_add node_of (λ r. take (count_in cut r) (ops_of log r)) 8 1 m e in
      let (i, a, b, c, d) = take_in is_add node_of (count_in cut s) (ops_of log s) m h in
      let z : i + 1 - 1 ≡ i = omega arith in
      let b' : i + 1 ≤ count_in (counts_of log) s = omega (arith, count_held log s) in
      let x = good_ops good s (i + 1) l (omega arith) (omega arith) b' in
      let k : is_add (op_at log s (i + 1)) ≡ true = rw z c in
      let n : node_of (op_at log s (i + 1)) ≡ 256 * s + (i + 1) = (names_add log (op_at log s (i + 1)) x.names (eqb-true _ _ k)).1
      ∙ rw (x.origin, x.number) in
      let n' : m ≡ 256 * s + (i + 1) = sym d ∙ rw z at n in
      let few = good.counts s l (omega arith) in
      let q₁ : m / 256 ≡ s = omega arith in
      let q₂ : m % 256 ≡ i + 1 = omega arith in
      known_of log cut m (record { low = omega arith; high = omega arith; first = omega arith; last = rw (q₁, q₂) (omega arith) })
      (rw (q₁, q₂) k)

  -- the added nodes of a cut are those that it knows
  pub added_is : (m : ℕ) → is_in m (added_in log cut) ≡ is_known (knowledge log cut m)
  added_is m =
      both_ways (is_in m (added_in log cut)) (is_known (knowledge log cut m)) (added_known m) (known_added m)
