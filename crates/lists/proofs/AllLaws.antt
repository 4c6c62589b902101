-- Laws of tests of the elements of a list: every one passes, some one passes.
use Rattle.lists.specs.Lists.{all, any, filter}
use Rattle.lists.proofs.BoolLaws.{and_both, and_left, and_right}
use mathlib.Core.Bool.{Bool, ◌&&◌, ◌||◌, cond, false, or_assoc, true}
use mathlib.Core.List.{List, [], ◌++◌, ◌∷◌, map}
use mathlib.Core.Path.{◌≡◌, ap, refl, sym}
use Prim.Native.Nat.{ℕ, ◌<◌, suc, zero}
use native.Mathlib.Omega.{arith}
use lib.ListN.{get_or, length}
use native.Mathlib.Nat.{le_of_suc-le-suc, not-suc-le-zero}

pub all_true : (p : ℕ → Bool) (xs : List ℕ) → ((x : ℕ) → p x ≡ true) → all p xs ≡ true
unfolding all
all_true p [] h = refl
all_true p (x ∷ xs) h = and_both (h x) (all_true p xs h)

pub all_filter : {A : Type 0} (p q : A → Bool) (xs : List A) → all p xs ≡ true → all p (filter q xs) ≡ true
unfolding all filter
all_filter p q [] h = refl
all_filter p q (x ∷ xs) h = go (q x) (all_filter p q xs (and_right (p x) _ h))
  where
    go : (b : Bool) → all p (filter q xs) ≡ true → all p (cond b (x ∷ filter q xs) (filter q xs)) ≡ true
    go true ih = and_both (and_left (p x) _ h) ih
    go false ih = ih

pub all_passing : {A : Type 0} (p : A → Bool) (xs : List A) → all p (filter p xs) ≡ true
unfolding all filter
all_passing p [] = refl
all_passing p (x ∷ xs) = go (p x) refl (all_passing p xs)
  where
    go : (b : Bool) → p x ≡ b → all p (filter p xs) ≡ true → all p (cond b (x ∷ filter p xs) (filter p xs)) ≡ true
    go true e ih = and_both e ih
    go false e ih = ih

pub all_of_map : {A B : Type 0} (p : B → Bool) (g : A → B) (xs : List A) → all p (map g xs) ≡ all (λ x. p (g x)) xs
unfolding all
all_of_map p g [] = refl
all_of_map p g (x ∷ xs) = ap (λ b. p (g x) && b) (all_of_map p g xs)

module _ {A : Type 0} (t : A → Bool) where
  pub any_append : (a b : List A) → any t (a ++ b) ≡ (any t a || any t b)
  unfolding any
  any_append [] b = refl
  any_append (x ∷ a) b = rw (any_append a b) (sym (or_assoc (t x) (any t a) (any t b)))

-- every element passes, by its place
module _ {A : Type 0} (p : A → Bool) (d : A) where
  pub all_at : (xs : List A) → all p xs ≡ true → (i : ℕ) → i < length xs → p (get_or xs i d) ≡ true
  unfolding all
  all_at [] e i h = absurd (not-suc-le-zero h)
  all_at (x ∷ xs) e zero h = and_left (p x) _ e
  all_at (x ∷ xs) e (suc i) h = all_at xs (and_right (p x) _ e) i (le_of_suc-le-suc h)

  pub all_of : (xs : List A) → ((i : ℕ) → i < length xs → p (get_or xs i d) ≡ true) → all p xs ≡ true
  unfolding all
  all_of [] h = refl
  all_of (x ∷ xs) h = and_both (h 0 (omega arith)) (all_of xs (λ i l. h (suc i) (omega arith)))

pub all_append : {A : Type 0} (p : A → Bool) (xs ys : List A) → all p xs ≡ true → all p ys ≡ true → all p (xs ++ ys) ≡ true
unfolding all
all_append p [] ys a b = b
all_append p (x ∷ xs) ys a b = and_both (and_left (p x) _ a) (all_append p xs ys (and_right (p x) _ a) b)
