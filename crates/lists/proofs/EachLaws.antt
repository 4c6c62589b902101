-- A fact of every element of a list.
use Rattle.lists.specs.Lists.{down_from, up_from, any, concat, filter, is_in}
use mathlib.Core.Bool.{◌&&◌, Bool, cond, false, or-true, true}
use mathlib.Core.List.{List, [], ◌++◌, ◌∷◌, map}
use mathlib.Core.Path.{◌≡◌, refl}
use borrow.Author.Tests.{eq-eqb}
use lib.Dec.{eqb}
use Prim.Native.Nat.{ℕ, ◌+◌, ◌<◌, ◌≤◌, suc, zero}
use native.Mathlib.Nat.{le_of_suc-le-suc, le_refl, not-suc-le-zero}
use lib.ListN.{get_or, length}
use native.Mathlib.Omega.{arith}

abbrev pub Each : {A : Type 0} → (A → Type 0) → List A → Type 0
Each P [] = Unit {0}
Each P (x ∷ xs) = P x × Each P xs

module _ {A : Type 0} (P : A → Type 0) where
  pub each_append : (xs ys : List A) → Each P xs → Each P ys → Each P (xs ++ ys)
  each_append [] ys a b = b
  each_append (x ∷ xs) ys a b = (a.0, each_append xs ys a.1 b)

-- of the one at a place
pub each_at : {A : Type 0} (P : A → Type 0) (xs : List A) (d : A) (i : ℕ) → Each P xs → i < length xs → P (get_or xs i d)
each_at P [] d i h l = absurd (not-suc-le-zero l)
each_at P (x ∷ xs) d zero h l = h.0
each_at P (x ∷ xs) d (suc i) h l = each_at P xs d i h.1 (le_of_suc-le-suc l)

pub each_of : {A : Type 0} (P : A → Type 0) (xs : List A) (d : A) → ((i : ℕ) → i < length xs → P (get_or xs i d)) → Each P xs
each_of P [] d h = tt
each_of P (x ∷ xs) d h = (h 0 (omega arith), each_of P xs d (λ i l. h (suc i) (omega arith)))

pub each_map : {A : Type 0} (P Q : A → Type 0) (xs : List A) → ((x : A) → P x → Q x) → Each P xs → Each Q xs
each_map P Q [] f h = tt
each_map P Q (x ∷ xs) f h = (f x h.0, each_map P Q xs f h.1)

pub each_of_map : {A B : Type 0} (P : B → Type 0) (f : A → B) (xs : List A) → Each (λ x. P (f x)) xs → Each P (map f xs)
each_of_map P f [] h = tt
each_of_map P f (x ∷ xs) h = (h.0, each_of_map P f xs h.1)

pub each_both : {A : Type 0} (P Q : A → Type 0) (xs : List A) → Each P xs → Each Q xs → Each (λ x. P x × Q x) xs
each_both P Q [] h k = tt
each_both P Q (x ∷ xs) h k = ((h.0, k.0), each_both P Q xs h.1 k.1)

module _ {A : Type 0} (P : A → Type 0) (p : A → Bool) where
  -- of those that pass
  pub each_passed : (xs : List A) → Each (λ x. p x ≡ true → P x) xs → Each P (filter p xs)
  unfolding filter
  each_passed [] h = tt
  each_passed (x ∷ xs) h = go (p x) refl (each_passed xs h.1)
    where
      go : (b : Bool) → p x ≡ b → Each P (filter p xs) → Each P (cond b (x ∷ filter p xs) (filter p xs))
      go true e rest = (h.0 e, rest)
      go false e rest = rest

  pub each_filter : (xs : List A) → Each P xs → Each P (filter p xs)
  each_filter xs h = each_passed xs (each_map P (λ x. p x ≡ true → P x) xs (λ x a e. a) h)

  pub each_test : (xs : List A) → ((x : A) → p x ≡ true → P x) → Each P (filter p xs)
  each_test xs h = each_passed xs (each_every xs)
    where
      each_every : (ys : List A) → Each (λ x. p x ≡ true → P x) ys
      each_every [] = tt
      each_every (y ∷ ys) = (h y, each_every ys)

pub each_concat : (P : ℕ → Type 0) (F : ℕ → List ℕ) (cs : List ℕ) → Each (λ c. Each P (F c)) cs → Each P (concat (map F cs))
unfolding concat
each_concat P F [] a = tt
each_concat P F (c ∷ cs) a = each_append P (F c) (concat (map F cs)) a.0 (each_concat P F cs a.1)

pub each_passing : (p : ℕ → Bool) (Q : ℕ → Type 0) (xs : List ℕ) → ((x : ℕ) → is_in x xs ≡ true → p x ≡ true → Q x) → Each Q (filter p xs)
unfolding filter is_in any
each_passing p Q [] h = tt
each_passing p Q (x ∷ xs) h = go (p x) refl (each_passing p Q xs (λ y e q. h y (rw e (or-true (eqb y x))) q))
  where
    go : (b : Bool) → p x ≡ b → Each Q (filter p xs) → Each Q (cond b (x ∷ filter p xs) (filter p xs))
    go true e ih = (h x (rw (eq-eqb x x refl)) e, ih)
    go false e ih = ih

pub map_each : {A : Type 0} (P : ℕ → Type 0) (f g : ℕ → A) (xs : List ℕ) → ((x : ℕ) → P x → f x ≡ g x) → Each P xs → map f xs ≡ map g xs
map_each P f g [] h a = refl
map_each P f g (x ∷ xs) h a = rw (h x a.0, map_each P f g xs h a.1)

module _ {A : Type 0} (P : A → Type 0) where
  pub each_left : (xs ys : List A) → Each P (xs ++ ys) → Each P xs
  each_left [] ys a = tt
  each_left (x ∷ xs) ys a = (a.0, each_left xs ys a.1)

  pub each_right : (xs ys : List A) → Each P (xs ++ ys) → Each P ys
  each_right [] ys a = a
  each_right (x ∷ xs) ys a = each_right xs ys a.1

  pub each_up : (F : ℕ → List A) (n a : ℕ) → ((t : ℕ) → a ≤ t → t < a + n → Each P (F t)) → Each P (concat (map F (up_from a n)))
  unfolding up_from concat
  each_up F zero a h = tt
  each_up F (suc n) a h = each_append P (F a) _ (h a (le_refl a) (omega arith))
      (each_up F n (suc a) (λ t l u. h t (omega arith) (omega arith)))

  pub each_down : (F : ℕ → List A) (n : ℕ) → ((t : ℕ) → Each P (F t)) → Each P (concat (map F (down_from n)))
  unfolding down_from concat
  each_down F zero h = tt
  each_down F (suc n) h = each_append P (F (suc n)) _ (h (suc n)) (each_down F n h)

-- what is kept of each, kept of all
pub kept_children : (g : ℕ → Bool) (b : Bool) (F G : ℕ → List ℕ) (cs : List ℕ) → Each (λ c. F c ≡ cond (b && g c) (G c) []) cs
    → concat (map F cs) ≡ cond b (concat (map G (filter g cs))) []
unfolding concat filter
kept_children g true F G [] a = refl
kept_children g false F G [] a = refl
kept_children g false F G (c ∷ cs) a = rw a.0 (kept_children g false F G cs a.1)
kept_children g true F G (c ∷ cs) a = go (g c) a.0 (kept_children g true F G cs a.1)
  where
    go : (t : Bool) → F c ≡ cond t (G c) [] → concat (map F cs) ≡ concat (map G (filter g cs))
        → F c ++ concat (map F cs) ≡ concat (map G (cond t (c ∷ filter g cs) (filter g cs)))
    go true e ih = rw (e, ih)
    go false e ih = rw (e, ih)
