-- Laws of the greatest number of a list.
use Rattle.lists.specs.Lists.{all, concat, down_from, filter, greatest, up_from}
use mathlib.Core.Bool.{Bool, ◌&&◌, cond, false, true}
use mathlib.Core.List.{List, [], ◌++◌, ◌∷◌, map, map-append}
use Prim.Native.Nat.{◌+◌, ◌<◌, ◌≤◌, max, suc, zero, ℕ}
use mathlib.Core.Path.{◌≡◌, refl}
use native.Mathlib.Omega.{arith}
use lib.ListN.{get_or, length, take}
use native.Mathlib.Nat.{le_of_suc-le-suc, le_refl, not-suc-le-zero}
use native.Mathlib.Decide.{ℕ_discrete}

greatest_append : (xs ys : List ℕ) → greatest (xs ++ ys) ≡ max (greatest xs) (greatest ys)
unfolding greatest
greatest_append [] ys = omega arith
greatest_append (x ∷ xs) ys = rw (greatest_append xs ys) (omega arith)

module _ {A : Type 0} (g : A → ℕ) (d : A) where
  pub greatest_take : (n : ℕ) (xs : List A) (i : ℕ) → i < n → i < length xs → g (get_or xs i d) ≤ greatest (map g (take n xs))
  unfolding greatest
  greatest_take zero xs i h l = absurd (not-suc-le-zero h)
  greatest_take (suc n) [] i h l = absurd (not-suc-le-zero l)
  greatest_take (suc n) (x ∷ xs) zero h l = omega arith
  greatest_take (suc n) (x ∷ xs) (suc i) h l = omega (arith, greatest_take n xs i (le_of_suc-le-suc h) (le_of_suc-le-suc l))

  pub greatest_bound : (n b : ℕ) (xs : List A) → ((i : ℕ) → i < n → i < length xs → g (get_or xs i d) ≤ b) → greatest (map g (take n xs)) ≤ b
  unfolding greatest
  greatest_bound zero b xs h = omega arith
  greatest_bound (suc n) b [] h = omega arith
  greatest_bound (suc n) b (x ∷ xs) h =
      omega (arith, h 0 (omega arith) (omega arith), greatest_bound n b xs (λ i a l. h (suc i) (omega arith) (omega arith)))

module _ {A : Type 0} (g : A → ℕ) (F : ℕ → List A) where
  pub greatest_part : (n a s : ℕ) → a ≤ s → s < a + n → greatest (map g (F s)) ≤ greatest (map g (concat (map F (up_from a n))))
  unfolding up_from concat
  greatest_part zero a s l u = absurd (omega arith)
  greatest_part (suc n) a s l u =
      rw (map-append, greatest_append) (elim (ℕ_discrete a s) [
        | yes e ↦ rw e (omega arith)
        | no ne ↦ omega (arith, greatest_part n (suc a) s (omega arith) (omega arith))
      ])

  pub greatest_parts : (n a b : ℕ) → ((s : ℕ) → a ≤ s → s < a + n → greatest (map g (F s)) ≤ b)
      → greatest (map g (concat (map F (up_from a n)))) ≤ b
  unfolding up_from concat greatest
  greatest_parts zero a b h = omega arith
  greatest_parts (suc n) a b h =
      rw (map-append, greatest_append)
      (omega (arith, h a (le_refl a) (omega arith), greatest_parts n (suc a) b (λ s l u. h s (omega arith) (omega arith))))

-- the greatest value of a function on numbers from a on
pub greatest_at : (g : ℕ → ℕ) (n a s : ℕ) → a ≤ s → s < a + n → g s ≤ greatest (map g (up_from a n))
unfolding greatest up_from
greatest_at g zero a s l u = absurd (omega arith)
greatest_at g (suc n) a s l u = elim (ℕ_discrete a s) [
  | yes e ↦ rw e (omega arith)
  | no ne ↦ omega (arith, greatest_at g n (suc a) s (omega arith) (omega arith))
]

pub greatest_all : (g : ℕ → ℕ) (n a b : ℕ) → ((s : ℕ) → a ≤ s → s < a + n → g s ≤ b) → greatest (map g (up_from a n)) ≤ b
unfolding greatest up_from
greatest_all g zero a b h = omega arith
greatest_all g (suc n) a b h =
    omega (arith, h a (le_refl a) (omega arith), greatest_all g n (suc a) b (λ s l u. h s (omega arith) (omega arith)))

pub greatest_filter : {A : Type 0} (g : A → ℕ) (p : A → Bool) (xs : List A) → greatest (map g (filter p xs)) ≤ greatest (map g xs)
unfolding filter greatest
greatest_filter g p [] = le_refl 0
greatest_filter g p (x ∷ xs) = go (p x) (greatest_filter g p xs)
  where
    go : (b : Bool) → greatest (map g (filter p xs)) ≤ greatest (map g xs) → greatest (map g (cond b (x ∷ filter p xs) (filter p xs))) ≤ max
        (g x) (greatest (map g xs))
    go true h = omega arith
    go false h = omega arith

pub greatest_down : {A : Type 0} (g : A → ℕ) (F : ℕ → List A) (n b : ℕ) → ((s : ℕ) → greatest (map g (F s)) ≤ b)
    → greatest (map g (concat (map F (down_from n)))) ≤ b
unfolding down_from concat greatest
greatest_down g F zero b h = omega arith
greatest_down g F (suc n) b h = rw (map-append, greatest_append) (omega (arith, h (suc n), greatest_down g F n b h))

pub all_greatest : {A : Type 0} (p : A → Bool) (xs : List A) → greatest (map (λ x. cond (p x) 0 1) xs) ≤ 0 → all p xs ≡ true
unfolding all greatest
all_greatest p [] h = refl
all_greatest p (x ∷ xs) h = go (p x) refl (all_greatest p xs (omega arith))
  where
    go : (b : Bool) → p x ≡ b → all p xs ≡ true → (b && all p xs) ≡ true
    go true e ih = ih
    go false e ih = let z : ◌≡◌ {A = ℕ} (cond (p x) 0 1) 1 = rw e in absurd (omega arith)

pub some_greatest : {A : Type 0} (p : A → Bool) (xs : List A) → 1 ≤ greatest (map (λ x. cond (p x) 1 0) xs) → 1 ≤ length (filter p xs)
unfolding greatest filter
some_greatest p [] h = absurd (not-suc-le-zero h)
some_greatest p (x ∷ xs) h = go (p x) refl (some_greatest p xs)
  where
    go : (b : Bool) → p x ≡ b → (1 ≤ greatest (map (λ x. cond (p x) 1 0) xs) → 1 ≤ length (filter p xs))
        → 1 ≤ length (cond b (x ∷ filter p xs) (filter p xs))
    go true e ih = omega arith
    go false e ih = ih (let z : ◌≡◌ {A = ℕ} (cond (p x) 1 0) 0 = rw e in omega arith)
