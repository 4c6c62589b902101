-- Laws of the numbers from a on, and of those from n down to 1.
use Rattle.lists.specs.Lists.{all, concat, down_from, sum, up_from}
use Rattle.lists.proofs.BoolLaws.{and_left, and_right, never}
use mathlib.Core.Bool.{Bool, ◌&&◌, false, true}
use mathlib.Core.List.{List, [], ◌++◌, ◌∷◌, append-nil, foldl, map}
use Prim.Native.Nat.{◌*◌, ◌+◌, ◌-◌, ◌<◌, ◌≤◌, suc, zero, ℕ}
use mathlib.Core.Path.{◌∙◌, ◌≡◌, ap, ap₂, refl, sym}
use native.Mathlib.Nat.{add-suc, add-zero, le_refl, mul-suc, mul-zero, suc-add, zero-add}
use native.Mathlib.Numerals.{add-one}
use native.Mathlib.Omega.{arith}
use lib.ListN.{get_or, length}
use lib.Arith.{lt_of_le-ne}
use native.Mathlib.Decide.{dec_lt, ℕ_discrete}

up_from_cons : (a n : ℕ) → up_from a (suc n) ≡ a ∷ up_from (suc a) n
unfolding up_from
up_from_cons a n = refl

up_from_none : (a : ℕ) → up_from a 0 ≡ []
unfolding up_from
up_from_none a = refl

pub up_from_add : (a m n : ℕ) → up_from a (m + n) ≡ up_from a m ++ up_from (a + m) n
unfolding up_from
up_from_add a zero n = rw (zero-add, add-zero)
up_from_add a (suc m) n = rw (suc-add, up_from_add (suc a) m n, suc-add, add-suc)

length_up : (a n : ℕ) → length (up_from a n) ≡ n
unfolding up_from
length_up a zero = refl
length_up a (suc n) = ap suc (length_up (suc a) n)

pub map_up_from : {A : Type 0} (f g : ℕ → A) (n a : ℕ) → ((i : ℕ) → a ≤ i → i < a + n → f i ≡ g i) → map f (up_from a n) ≡ map g (up_from a n)
unfolding up_from
map_up_from f g zero a e = refl
map_up_from f g (suc n) a e = ap₂ ◌∷◌ (e a (le_refl a) (omega arith)) (map_up_from f g n (suc a) (λ i l u. e i (omega arith) (omega arith)))

pub map_down_from : {A : Type 0} (f g : ℕ → A) (n : ℕ) → ((i : ℕ) → 1 ≤ i → i ≤ n → f i ≡ g i) → map f (down_from n) ≡ map g (down_from n)
unfolding down_from
map_down_from f g zero e = refl
map_down_from f g (suc n) e = ap₂ ◌∷◌ (e (suc n) (omega arith) (le_refl _)) (map_down_from f g n (λ i l u. e i l (omega arith)))

pub concat_nothing : {A : Type 0} (F : ℕ → List A) (n a : ℕ) → ((i : ℕ) → a ≤ i → i < a + n → F i ≡ []) → concat (map F (up_from a n)) ≡ []
unfolding up_from concat
concat_nothing F zero a e = refl
concat_nothing F (suc n) a e = rw (e a (le_refl a) (omega arith)) (concat_nothing F n (suc a) (λ i l u. e i (omega arith) (omega arith)))

pub concat_none : {A : Type 0} (F : ℕ → List A) (n : ℕ) → ((i : ℕ) → 1 ≤ i → i ≤ n → F i ≡ []) → concat (map F (down_from n)) ≡ []
unfolding down_from concat
concat_none F zero e = refl
concat_none F (suc n) e = rw (e (suc n) (omega arith) (le_refl _)) (concat_none F n (λ i l u. e i l (omega arith)))

-- a sum of no greater numbers is no greater, and less if one of them is
module _ (f g : ℕ → ℕ) where
  pub sum_le : (n a : ℕ) → ((i : ℕ) → a ≤ i → i < a + n → f i ≤ g i) → sum (map f (up_from a n)) ≤ sum (map g (up_from a n))
  unfolding up_from sum
  sum_le zero a b = le_refl 0
  sum_le (suc n) a b = omega (arith, b a (le_refl a) (omega arith), sum_le n (suc a) (λ i l u. b i (omega arith) (omega arith)))

  pub sum_less : (n a : ℕ) → ((i : ℕ) → a ≤ i → i < a + n → f i ≤ g i) → (s : ℕ) → a ≤ s → s < a + n → f s < g s
      → sum (map f (up_from a n)) < sum (map g (up_from a n))
  unfolding up_from sum
  sum_less zero a b s l u h = absurd (omega arith)
  sum_less (suc n) a b s l u h =
      let later : (i : ℕ) → suc a ≤ i → i < suc a + n → f i ≤ g i = λ i l u. b i (omega arith) (omega arith) in
      elim (dec_lt a s) [
        | yes p ↦ omega (arith, b a (le_refl a) (omega arith), sum_less n (suc a) later s p (omega arith) h)
        | no p ↦ let e : s ≡ a = omega arith in let first : f a < g a = rw e at h in omega (arith, sum_le n (suc a) later)
      ]

-- a list is made of its elements
pub map_get_d : {A : Type 0} (d : A) (xs : List A) (a : ℕ) → map (λ s. get_or xs (s - a) d) (up_from a (length xs)) ≡ xs
unfolding up_from
map_get_d d [] a = refl
map_get_d d (x ∷ xs) a =
    let z : a - a ≡ 0 = omega arith in
    rw z (ap (λ ys. x ∷ ys) (map_up_from (λ s. get_or (x ∷ xs) (s - a) d) (λ s. get_or xs (s - suc a) d) (length xs) (suc a) (λ s l u. next s l)
    ∙ map_get_d d xs (suc a)))
  where
    next : (s : ℕ) → suc a ≤ s → get_or (x ∷ xs) (s - a) d ≡ get_or xs (s - suc a) d
    next s l = let e : s - a ≡ suc (s - suc a) = omega arith in rw e

pub all_from : (p : ℕ → Bool) (n a : ℕ) → all p (up_from a n) ≡ true → (s : ℕ) → a ≤ s → s < a + n → p s ≡ true
unfolding all up_from
all_from p zero a e s l u = absurd (omega arith)
all_from p (suc n) a e s l u = elim (ℕ_discrete a s) [
  | yes q ↦ rw (← q) (and_left (p a) (all p (up_from (suc a) n)) e)
  | no ne ↦ all_from p n (suc a) (and_right (p a) (all p (up_from (suc a) n)) e) s (lt_of_le-ne l ne) (omega arith)
]

-- one that fails
pub all_alike_from : (p q : ℕ → Bool) (n a : ℕ) → ((s : ℕ) → a ≤ s → s < a + n → p s ≡ q s) → all p (up_from a n) ≡ all q (up_from a n)
unfolding all up_from
all_alike_from p q zero a h = refl
all_alike_from p q (suc n) a h =
    rw (h a (omega arith) (omega arith), all_alike_from p q n (suc a) (λ s l u. h s (omega arith) (omega arith)))

pub fails_from : (p : ℕ → Bool) (n a : ℕ) → all p (up_from a n) ≡ false → (s : ℕ) × (a ≤ s) × (s < a + n) × (p s ≡ false)
unfolding all up_from
fails_from p zero a e = never (sym e)
fails_from p (suc n) a e = go (p a) refl e (fails_from p n (suc a))
  where
    go : (b : Bool) → p a ≡ b → (b && all p (up_from (suc a) n)) ≡ false
        → (all p (up_from (suc a) n) ≡ false → (s : ℕ) × (suc a ≤ s) × (s < suc a + n) × (p s ≡ false))
        → (s : ℕ) × (a ≤ s) × (s < a + suc n) × (p s ≡ false)
    go true q z ih = let (s, l, u, f) = ih z in (s, omega arith, omega arith, f)
    go false q z ih = (a, omega arith, omega arith, q)

module _ {A : Type 0} (F : ℕ → List A) where
  pub one_down : (n s : ℕ) → 1 ≤ s → s ≤ n → ((r : ℕ) → 1 ≤ r → r ≤ n → (r ≡ s → ⊥) → F r ≡ [])
      → concat (map F (down_from n)) ≡ F s
  unfolding down_from concat
  one_down zero s l u e = absurd (omega arith)
  one_down (suc n) s l u e = elim (ℕ_discrete s (suc n)) [
    | yes z ↦ rw (concat_none F n (λ r a b. e r a (omega arith) (λ w. omega arith)), append-nil, z)
    | no nz ↦ rw (e (suc n) (omega arith) (le_refl _) (λ w. omega arith)) (one_down n s l (omega arith) (λ r a b. e r a (omega arith)))
  ]

  pub two_down : (n hi lo : ℕ) → 1 ≤ lo → lo < hi → hi ≤ n → ((r : ℕ) → 1 ≤ r → r ≤ n → (r ≡ hi → ⊥) → (r ≡ lo → ⊥) → F r ≡ [])
      → concat (map F (down_from n)) ≡ F hi ++ F lo
  unfolding down_from concat
  two_down zero hi lo l h u e = absurd (omega arith)
  two_down (suc n) hi lo l h u e = elim (ℕ_discrete hi (suc n)) [
    | yes z ↦ rw (z, one_down n lo l (omega arith) (λ r a b w. e r a (omega arith) (λ q. omega arith) w))
    | no nz ↦
        rw (e (suc n) (omega arith) (le_refl _) (λ w. omega arith) (λ w. omega arith))
        (two_down n hi lo l h (omega arith) (λ r a b. e r a (omega arith)))
  ]

---- what is left of a fold over the numbers below n, or from n down, with those before k passed

module _ {A : Type 0} (f : A → ℕ → A) (x : A) (n k : ℕ) where
  pub up_turn : k < n → foldl f x (up_from k (n - k)) ≡ foldl f (f x k) (up_from (k + 1) (n - (k + 1)))
  unfolding up_from
  up_turn h = let e : n - k ≡ suc (n - (k + 1)) = omega arith in rw (e, add-one k)

  pub up_end : n ≤ k → foldl f x (up_from k (n - k)) ≡ x
  unfolding up_from
  up_end h = let e : n - k ≡ 0 = omega arith in rw e

  pub down_turn : k < n → foldl f x (down_from (n - k)) ≡ foldl f (f x (n - k)) (down_from (n - (k + 1)))
  unfolding down_from
  down_turn h =
      let e : n - k ≡ suc (n - (k + 1)) = omega arith in
      ap (λ (m : ℕ). foldl f x (down_from m)) e ∙ rw (← e)

  pub down_end : n ≤ k → foldl f x (down_from (n - k)) ≡ x
  unfolding down_from
  down_end h = let e : n - k ≡ 0 = omega arith in rw e

-- n blocks of w numbers, block a first, are one row of numbers
pub blocks : (w n a : ℕ) → 1 ≤ a → concat (map (λ s. up_from (w * (s - 1) + 1) w) (up_from a n)) ≡ up_from (w * (a - 1) + 1) (w * n)
unfolding concat
blocks w zero a l = rw (up_from_none a, mul-zero) (sym (up_from_none (w * (a - 1) + 1)))
blocks w (suc n) a l =
    let s : suc a - 1 ≡ suc (a - 1) = omega arith in
    let q : w * suc (a - 1) + 1 ≡ w * (a - 1) + 1 + w = rw (mul-suc w (a - 1)) (omega arith) in
    let e : w * suc n ≡ w + w * n = rw (mul-suc w n) (omega arith) in
    rw (up_from_cons a n, blocks w n (suc a) (omega arith), e, s, q) (sym (up_from_add (w * (a - 1) + 1) w (w * n)))
