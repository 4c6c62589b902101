-- The library's words for lists and bytes, as this repository's.
use Rattle.std.specs.Prelude.{Bool, true, false, cond, ◌&&◌, ◌||◌, not, List, [], ◌∷◌, ℕ, zero, suc, ◌+◌, ◌<◌, ◌≡◌}
use Rattle.std.specs.Prelude.{Option, eqb, get_or, map}
use Rattle.std.specs.List.{FoldsTo, list_all, list_any, position_or_len, sum_by}
use Rattle.std.specs.List.{range_with_len}
use Rattle.std.specs.List as library
use Rattle.std.specs.Array.{IsFromFnResult, IsFromFnResultFrom}
use Rattle.std.specs.Str.{bytes_eq}
use Rattle.std.specs.Fn.{Called}
use Rattle.std.specs.Iterator.{YieldsThen}
use Rattle.std.specs.Option.{MatchOption}
use Rattle.std.proofs.Common.{refl, sym, ap, ◌∙◌, arith, ◌≤◌, subst}
use Rattle.std.proofs.lemmas.List.Sums.{sum_by-cons}
use Rattle.std.proofs.lemmas.Iterator.{YieldsList}
use Rattle.std.proofs.lemmas.Iterator.Search.{all_from_yields_List, any_from_yields_List}
use Rattle.std.proofs.lemmas.List.FromFn.{fill_by_all}
use denote.Param.Members.{Mut}
use native.Mathlib.Decide.{ℕ_discrete}
use Rattle.lists.specs.Lists.{all, any, filter, index_of, same, sum}

pub all_is : {A : Type 0} (p : A → Bool) (xs : List A) → all p xs ≡ list_all p xs
unfolding all
all_is p [] = refl
all_is p (x ∷ xs) = ap (λ (b : Bool). p x && b) (all_is p xs)

pub any_is : {A : Type 0} (p : A → Bool) (xs : List A) → any p xs ≡ list_any p xs
unfolding any
any_is p [] = refl
any_is p (x ∷ xs) = ap (λ (b : Bool). p x || b) (any_is p xs)

pub filter_is : {A : Type 0} (p : A → Bool) (xs : List A) → filter p xs ≡ library.filter p xs
unfolding filter
filter_is p [] = refl
filter_is p (x ∷ xs) = rw (filter_is p xs)

pub sum_is : (xs : List ℕ) → sum xs ≡ library.sum xs
unfolding sum
sum_is [] = refl
sum_is (x ∷ xs) = ap (λ (n : ℕ). x + n) (sum_is xs) ∙ sym (sum_by-cons (λ (n : ℕ). n) x xs)

pub sum_by_is : {A : Type 0} (f : A → ℕ) (xs : List A) → sum (map f xs) ≡ sum_by f xs
unfolding sum
sum_by_is f [] = refl
sum_by_is f (x ∷ xs) = ap (λ (n : ℕ). f x + n) (sum_by_is f xs) ∙ sym (sum_by-cons f x xs)

pub index_is : (x : ℕ) (xs : List ℕ) → index_of x xs ≡ position_or_len (eqb x) xs
unfolding index_of
index_is x [] = refl
index_is x (y ∷ ys) = go (eqb x y) (index_is x ys)
  where
    go : (b : Bool) {m n : ℕ} → m ≡ n → cond b 0 (suc m) ≡ cond (not b) (1 + n) 0
    go true e = refl
    go false e = omega arith

-- `==` of slices of numbers
pub same_is : (xs ys : List ℕ) → same xs ys ≡ bytes_eq xs ys
unfolding same
same_is [] [] = refl
same_is [] (y ∷ ys) = refl
same_is (x ∷ xs) [] = refl
same_is (x ∷ xs) (y ∷ ys) = ap (λ (b : Bool). eqb x y && b) (same_is xs ys)

-- `all` and `any` over what gives a list: take the test, three `_`, the call's clause `ran`, that the list is given (as
-- `YieldsList-from_slice _ cc` says, or `YieldsList-from_range 1 9 8 refl refl`), and what the closure computes, mostly
-- `λ x b q k. search (rules, tests)`
module _ {S A B F : Type 0} {steps : S → Option A → S → Type 0} {v : A → B} {g : Mut F (A × Unit {0}) Bool} {s : S} {given : List B} where
  pub all_gives :
      (test : B → Bool) (u : S) (f : F) (r : Bool)
      → (xs : List A) × (o : Option A) × (j : F) × YieldsThen steps s xs o u
      × FoldsTo (λ p x q. Called g p (x, tt) true q) f xs j
      × MatchOption o (r ≡ true) (λ x. (r ≡ false) × ((h : F) × Called g j (x, tt) false h))
      → YieldsList steps v s given
      → ((x : A) (b : Bool) (q : F) → Called g f (x, tt) b q → (q ≡ f) × (b ≡ test (v x)))
      → r ≡ all test given
  all_gives test u f r ran list calls = all_from_yields_List test u f r ran list calls ∙ sym (all_is test given)

  pub any_gives :
      (test : B → Bool) (u : S) (f : F) (r : Bool)
      → (xs : List A) × (o : Option A) × (j : F) × YieldsThen steps s xs o u
      × FoldsTo (λ p x q. Called g p (x, tt) false q) f xs j
      × MatchOption o (r ≡ false) (λ x. (r ≡ true) × ((h : F) × Called g j (x, tt) true h))
      → YieldsList steps v s given
      → ((x : A) (b : Bool) (q : F) → Called g f (x, tt) b q → (q ≡ f) × (b ≡ test (v x)))
      → r ≡ any test given
  any_gives test u f r ran list calls = any_from_yields_List test u f r ran list calls ∙ sym (any_is test given)

---- `from_fn`, of a closure that changes nothing it captures

module _ {F : Type 0} (g : Mut F (ℕ × Unit {0}) ℕ) (f : F) (h : ℕ → ℕ) where
  abbrev Gives : Type 0
  Gives = (i x : ℕ) (q : F) → Called g f (i, tt) x q → (q ≡ f) × (x ≡ h i)

  each_gives : (ys : List ℕ) → Gives → (i n : ℕ) → IsFromFnResultFrom g f ys i n → (j : ℕ) → i ≤ j → j < i + n
      → get_or ys j 0 ≡ h j
  each_gives ys calls i zero each j a l = absurd (omega arith)
  each_gives ys calls i (suc n) (q, y, there, call, rest) j a l =
      let told = calls i y q call in
      let rest' : IsFromFnResultFrom g f ys (i + 1) n = subst (λ (p : F). IsFromFnResultFrom g p ys (i + 1) n) told.0 rest in
      elim (ℕ_discrete i j) [
        | yes e ↦ rw (← e) (there.1 0 ∙ told.1)
        | no z ↦ each_gives ys calls (i + 1) n rest' j (omega arith) (omega arith)
      ]

-- takes what the closure gives, the list, the call's clause `items`, and that it does, mostly `λ i x q k. search rules`
pub from_fn_gives : {F : Type 0} {g : Mut F (ℕ × Unit {0}) ℕ} {f : F} {n : ℕ} (h : ℕ → ℕ) (given : List ℕ)
    → IsFromFnResult g f given n
    → ((i x : ℕ) (q : F) → Called g f (i, tt) x q → (q ≡ f) × (x ≡ h i))
    → given ≡ map h (range_with_len 0 n)
from_fn_gives {F} {g} {f} {n} h given items calls =
    fill_by_all h given n 0 items.long
    (λ k l. each_gives g f h given calls 0 n items.each k (omega arith) (omega arith))
