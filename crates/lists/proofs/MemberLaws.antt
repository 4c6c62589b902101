-- Laws of numbers in a list.
use Rattle.lists.specs.Lists.{any, concat, filter, index_of, is_in}
use Rattle.lists.proofs.NumberLaws.{mul_step, pigeonhole}
use Rattle.lists.proofs.BoolLaws.{never, or_cases}
use Rattle.lists.proofs.EachLaws.{Each}
use mathlib.Core.Bool.{Bool, ◌||◌, cond, false, or-true, true}
use mathlib.Core.List.{List, [], ◌++◌, ◌∷◌, map}
use Prim.Native.Nat.{◌*◌, ◌+◌, ◌<◌, ◌≤◌, suc, zero, ℕ}
use mathlib.Core.Path.{◌∙◌, ◌≡◌, ap, ap₂, refl, sym}
use mathlib.Core.Logic.{◌⊎◌, inl, inr, ⊎_elim}
use native.Mathlib.Omega.{arith}
use borrow.Author.Tests.{eq-eqb, eqb-true, ne_eqb}
use native.Mathlib.Decide.{ℕ_discrete}
use lib.Dec.{eqb}
use lib.ListN.{get_or, length, length-append}
use native.Mathlib.Nat.{le_of_suc-le-suc, not-suc-le-zero}

pub is_in_left : (x : ℕ) (ys zs : List ℕ) → is_in x ys ≡ true → is_in x (ys ++ zs) ≡ true
unfolding is_in any
is_in_left x [] zs e = let z : ◌≡◌ {A = ℕ} 0 1 = cc in absurd (omega arith)
is_in_left x (y ∷ ys) zs e = go (eqb x y) e (is_in_left x ys zs)
  where
    go : (b : Bool) → (b || any (eqb x) ys) ≡ true → (any (eqb x) ys ≡ true → any (eqb x) (ys ++ zs) ≡ true)
        → (b || any (eqb x) (ys ++ zs)) ≡ true
    go true e ih = refl
    go false e ih = ih e

pub is_in_right : (x : ℕ) (ys zs : List ℕ) → is_in x zs ≡ true → is_in x (ys ++ zs) ≡ true
unfolding is_in any
is_in_right x [] zs e = e
is_in_right x (y ∷ ys) zs e = rw (is_in_right x ys zs e, or-true)

pub is_in_cases : (x : ℕ) (ys zs : List ℕ) → is_in x (ys ++ zs) ≡ true → (is_in x ys ≡ true) ⊎ (is_in x zs ≡ true)
unfolding is_in any
is_in_cases x [] zs e = inr e
is_in_cases x (y ∷ ys) zs e = go (eqb x y) e (is_in_cases x ys zs)
  where
    go : (b : Bool) → (b || any (eqb x) (ys ++ zs)) ≡ true
        → (any (eqb x) (ys ++ zs) ≡ true → (any (eqb x) ys ≡ true) ⊎ (any (eqb x) zs ≡ true))
        → ((b || any (eqb x) ys) ≡ true) ⊎ (any (eqb x) zs ≡ true)
    go true e ih = inl refl
    go false e ih = ih e

pub is_in_here : (x : ℕ) (xs : List ℕ) → is_in x (x ∷ xs) ≡ true
unfolding is_in any
is_in_here x xs = rw (eq-eqb x x refl)

pub is_in_there : (y x : ℕ) (xs : List ℕ) → is_in y xs ≡ true → is_in y (x ∷ xs) ≡ true
unfolding is_in any
is_in_there y x xs e = rw (e, or-true)

pub is_in_cons : (y x : ℕ) (xs : List ℕ) → is_in y (x ∷ xs) ≡ true → (y ≡ x) ⊎ (is_in y xs ≡ true)
unfolding is_in any
is_in_cons y x xs e = ⊎_elim (λ w. inl (eqb-true y x w)) (λ w. inr w) (or_cases (eqb y x) _ e)

-- a fact of every element
pub each_in : (P : ℕ → Type 0) (xs : List ℕ) → Each P xs → (y : ℕ) → is_in y xs ≡ true → P y
unfolding is_in any
each_in P [] h y e = never e
each_in P (x ∷ xs) h y e = ⊎_elim (λ (z : y ≡ x). rw z h.0) (λ (z : is_in y xs ≡ true). each_in P xs h.1 y z) (is_in_cons y x xs e)

pub is_in_at : (xs : List ℕ) (j : ℕ) → j < length xs → is_in (get_or xs j 0) xs ≡ true
is_in_at [] j h = absurd (not-suc-le-zero h)
is_in_at (x ∷ xs) zero h = is_in_here x xs
is_in_at (x ∷ xs) (suc j) h = is_in_there (get_or xs j 0) x xs (is_in_at xs j (le_of_suc-le-suc h))

pub is_in_concat : (F : ℕ → List ℕ) (cs : List ℕ) (y : ℕ) → is_in y (concat (map F cs)) ≡ true
    → (c : ℕ) × (is_in c cs ≡ true) × (is_in y (F c) ≡ true)
unfolding concat is_in any
is_in_concat F [] y e = never e
is_in_concat F (c ∷ cs) y e =
    ⊎_elim (λ (w : is_in y (F c) ≡ true). (c, is_in_here c cs, w)) (λ (w : is_in y (concat (map F cs)) ≡ true). let (d, a, b) = is_in_concat F
    cs y w in (d, is_in_there d c cs a, b)) (is_in_cases y (F c) (concat (map F cs)) e)

pub concat_is_in : (F : ℕ → List ℕ) (cs : List ℕ) (c y : ℕ) → is_in c cs ≡ true → is_in y (F c) ≡ true → is_in y (concat (map F cs)) ≡ true
unfolding concat is_in any
concat_is_in F [] c y e w = never e
concat_is_in F (d ∷ cs) c y e w =
    ⊎_elim (λ (z : c ≡ d). is_in_left y (F d) (concat (map F cs)) (rw (← z) w)) (λ (z : is_in c cs ≡ true). is_in_right y (F d)
    (concat (map F cs)) (concat_is_in F cs c y z w)) (is_in_cons c d cs e)

pub filter_is_in : (p : ℕ → Bool) (xs : List ℕ) (y : ℕ) → is_in y xs ≡ true → p y ≡ true → is_in y (filter p xs) ≡ true
unfolding filter is_in any
filter_is_in p [] y e w = never e
filter_is_in p (x ∷ xs) y e w = ⊎_elim (λ (z : y ≡ x). here z) (λ (z : is_in y xs ≡ true). there (p x) (filter_is_in p xs y z w))
    (is_in_cons y x xs e)
  where
    here : y ≡ x → is_in y (cond (p x) (x ∷ filter p xs) (filter p xs)) ≡ true
    here z = let q : p x ≡ true = rw (← z) w in rw (q, eq-eqb y x z)

    there : (b : Bool) → is_in y (filter p xs) ≡ true → is_in y (cond b (x ∷ filter p xs) (filter p xs)) ≡ true
    there true ih = is_in_there y x (filter p xs) ih
    there false ih = ih

pub map_is_in : {A : Type 0} (f g : ℕ → A) (xs : List ℕ) → ((x : ℕ) → is_in x xs ≡ true → f x ≡ g x) → map f xs ≡ map g xs
unfolding is_in any
map_is_in f g [] h = refl
map_is_in f g (x ∷ xs) h = ap₂ ◌∷◌ (h x (rw (eq-eqb x x refl))) (map_is_in f g xs (λ y e. h y (rw (e, or-true))))

pub is_in_filter : (p : ℕ → Bool) (xs : List ℕ) (y : ℕ) → is_in y (filter p xs) ≡ true → (is_in y xs ≡ true) × (p y ≡ true)
unfolding is_in any filter
is_in_filter p [] y e = never e
is_in_filter p (x ∷ xs) y e = go (p x) refl e (is_in_filter p xs y)
  where
    go : (b : Bool) → p x ≡ b → any (eqb y) (cond b (x ∷ filter p xs) (filter p xs)) ≡ true
        → (any (eqb y) (filter p xs) ≡ true → (any (eqb y) xs ≡ true) × (p y ≡ true)) → ((eqb y x || any (eqb y) xs) ≡ true) × (p y ≡ true)
    go true q z ih =
        ⊎_elim (λ (w : eqb y x ≡ true). (rw w, rw (eqb-true y x w) q)) (λ (w : any (eqb y) (filter p xs) ≡ true). let (a, b) = ih w in
        (rw (a, or-true), b)) (or_cases (eqb y x) _ z)
    go false q z ih = let (a, b) = ih z in (rw (a, or-true), b)

pub any_more : (p q : ℕ → Bool) (xs : List ℕ) → ((x : ℕ) → is_in x xs ≡ true → p x ≡ true → q x ≡ true) → any p xs ≡ true → any q xs ≡ true
unfolding is_in any
any_more p q [] h e = never e
any_more p q (x ∷ xs) h e =
    ⊎_elim
    (λ (w : p x ≡ true). rw (h x (rw (eq-eqb x x refl)) w))
    (λ (w : any p xs ≡ true). rw (any_more p q xs (λ y i. h y (rw i (or-true (eqb y x)))) w) (or-true (q x)))
    (or_cases (p x) _ e)

pub any_in : (p : ℕ → Bool) (xs : List ℕ) (x : ℕ) → is_in x xs ≡ true → p x ≡ true → any p xs ≡ true
unfolding is_in any
any_in p [] x i e = never i
any_in p (y ∷ xs) x i e =
    ⊎_elim
    (λ (q : eqb x y ≡ true). rw (← eqb-true x y q, e))
    (λ (q : any (eqb x) xs ≡ true). rw (any_in p xs x q e) (or-true (p y)))
    (or_cases (eqb x y) _ i)

pub concat_length : (F : ℕ → List ℕ) (b : ℕ) (xs : List ℕ) → ((y : ℕ) → is_in y xs ≡ true → length (F y) ≤ b)
    → length (concat (map F xs)) ≤ b * length xs
unfolding concat
concat_length F b [] h = omega arith
concat_length F b (x ∷ xs) h =
    rw (length-append, mul_step) (omega (arith, h x (is_in_here x xs), concat_length F b xs (λ y e. h y (is_in_there y x xs e))))

---- lists of different numbers

-- the place of a number in a list
unfoldable place_in : ℕ → List ℕ → ℕ
place_in x [] = 0
place_in x (y ∷ ys) = cond (eqb x y) 0 (suc (place_in x ys))

place_below : (x : ℕ) (ys : List ℕ) → is_in x ys ≡ true → place_in x ys < length ys
unfolding is_in any place_in
place_below x [] e = let z : ◌≡◌ {A = ℕ} 0 1 = cc in absurd (omega arith)
place_below x (y ∷ ys) e = go (eqb x y) e (place_below x ys)
  where
    go : (b : Bool) → (b || any (eqb x) ys) ≡ true → (any (eqb x) ys ≡ true → place_in x ys < length ys)
        → cond b 0 (suc (place_in x ys)) < suc (length ys)
    go true e ih = omega arith
    go false e ih = omega (arith, ih e)

place_at : (x : ℕ) (ys : List ℕ) → is_in x ys ≡ true → get_or ys (place_in x ys) 0 ≡ x
unfolding is_in any place_in
place_at x [] e = let z : ◌≡◌ {A = ℕ} 0 1 = cc in absurd (omega arith)
place_at x (y ∷ ys) e = go (eqb x y) refl e (place_at x ys)
  where
    go : (b : Bool) → eqb x y ≡ b → (b || any (eqb x) ys) ≡ true → (any (eqb x) ys ≡ true → get_or ys (place_in x ys) 0 ≡ x)
        → get_or (y ∷ ys) (cond b 0 (suc (place_in x ys))) 0 ≡ x
    go true q e ih = sym (eqb-true x y q)
    go false q e ih = ih e

pub at_most : (xs : List ℕ) (n : ℕ) (f : ℕ → ℕ) → ((j : ℕ) → j < n → is_in (f j) xs ≡ true) → ((j k : ℕ) → j < k → k < n → f j ≡ f k → ⊥)
    → n ≤ length xs
at_most xs n f b d =
    pigeonhole (length xs) n (λ j. place_in (f j) xs) (λ j h. place_below (f j) xs (b j h)) (λ j k h u e.
    d j k h u (sym (place_at (f j) xs (b j (omega arith))) ∙ ap (λ (i : ℕ). get_or xs i 0) e ∙ place_at (f k) xs (b k u)))

---- where the first one stands

module _ (x : ℕ) where
  pub index_within : (xs : List ℕ) → is_in x xs ≡ true → index_of x xs < length xs
  unfolding is_in any index_of
  index_within [] e = never e
  index_within (y ∷ ys) e = go (eqb x y) e (index_within ys)
    where
      go : (b : Bool) → (b || any (eqb x) ys) ≡ true → (any (eqb x) ys ≡ true → index_of x ys < length ys)
          → cond b 0 (suc (index_of x ys)) < suc (length ys)
      go true e ih = omega arith
      go false e ih = omega (arith, ih e)

  pub index_at : (xs : List ℕ) → is_in x xs ≡ true → get_or xs (index_of x xs) 0 ≡ x
  unfolding is_in any index_of
  index_at [] e = never e
  index_at (y ∷ ys) e = elim (ℕ_discrete x y) [
    | yes h ↦ rw (eq-eqb x y h) (sym h)
    | no nh ↦ rw (ne_eqb x y nh) (index_at ys (rw (ne_eqb x y nh) at e))
  ]

  pub index_behind : (xs ys : List ℕ) → is_in x xs ≡ false → index_of x (xs ++ ys) ≡ length xs + index_of x ys
  unfolding is_in any index_of
  index_behind [] ys e = omega arith
  index_behind (y ∷ xs) ys e = go (eqb x y) e (index_behind xs ys)
    where
      go : (b : Bool) → (b || any (eqb x) xs) ≡ false → (any (eqb x) xs ≡ false → index_of x (xs ++ ys) ≡ length xs + index_of x ys)
          → cond b 0 (suc (index_of x (xs ++ ys))) ≡ suc (length xs) + index_of x ys
      go true e ih = never (sym e)
      go false e ih = omega (arith, ih e)
