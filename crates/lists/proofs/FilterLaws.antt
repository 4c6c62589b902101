-- Laws of the elements that pass a test.
use Rattle.lists.specs.Lists.{all, any, concat, down_from, filter, up_from}
use Rattle.lists.proofs.BoolLaws.{and_left, and_right, never}
use Rattle.lists.proofs.EachLaws.{Each}
use Rattle.lists.proofs.RangeLaws.{concat_none, concat_nothing}
use mathlib.Core.Bool.{Bool, ◌&&◌, ◌||◌, cond, false, true}
use mathlib.Core.List.{List, [], ◌++◌, ◌∷◌, append-nil, map, map-append}
use Prim.Native.Nat.{◌+◌, ◌-◌, ◌<◌, ◌≤◌, suc, zero, ℕ}
use mathlib.Core.Path.{◌∙◌, ◌≡◌, ap, refl, sym}
use native.Mathlib.Nat.{add-zero, le_of_suc-le-suc, le_refl, not-suc-le-zero}
use native.Mathlib.Omega.{arith}
use borrow.Author.Tests.{eq-eqb, le-ltb, leb-true, lt-ltb, ltb-false, ltb-true, ne_eqb}
use lib.Dec.{eqb, leb, leb-suc-suc, ltb}
use lib.ListN.{get_or, length, length-append, set, take}
use native.Mathlib.Decide.{ℕ_discrete}

module _ {A : Type 0} (p : A → Bool) where
  pub filter_append : (xs ys : List A) → filter p (xs ++ ys) ≡ filter p xs ++ filter p ys
  unfolding filter
  filter_append [] ys = refl
  filter_append (x ∷ xs) ys = rw (filter_append xs ys) (go (p x))
    where
      go : (b : Bool) → cond b (x ∷ (filter p xs ++ filter p ys)) (filter p xs ++ filter p ys) ≡ cond b (x ∷ filter p xs) (filter p xs)
          ++ filter p ys
      go true = refl
      go false = refl

  pub filter_every : (xs : List A) → ((x : A) → p x ≡ true) → filter p xs ≡ xs
  unfolding filter
  filter_every [] h = refl
  filter_every (x ∷ xs) h = rw (h x, filter_every xs h)

  -- where one is left, one passes
  pub some_passes : (xs : List A) → 1 ≤ length (filter p xs) → any p xs ≡ true
  unfolding filter any
  some_passes [] h = absurd (not-suc-le-zero h)
  some_passes (x ∷ xs) h = go (p x) h (some_passes xs)
    where
      go : (b : Bool) → 1 ≤ length (cond b (x ∷ filter p xs) (filter p xs)) → (1 ≤ length (filter p xs) → any p xs ≡ true)
          → (b || any p xs) ≡ true
      go true h ih = refl
      go false h ih = ih h

  -- the first of n elements has number a + 1, and those with a number above v pass
  pub passing_above : (d : A) (v n a : ℕ) (xs : List A) → n ≤ length xs → ((i : ℕ) → i < n → p (get_or xs i d) ≡ ltb v (a + i + 1))
      → length (filter p (take n xs)) ≡ (a + n - v) - (a - v)
  unfolding filter
  passing_above d v zero a xs l e = omega arith
  passing_above d v (suc n) a [] l e = absurd (not-suc-le-zero l)
  passing_above d v (suc n) a (x ∷ xs) l e =
      go (p x) refl (passing_above d v n (suc a) xs (le_of_suc-le-suc l) (λ i u. e (suc i) (omega arith) ∙ ap (ltb v) (omega arith)))
    where
      first : p x ≡ ltb v (a + 0 + 1)
      first = e 0 (omega arith)

      go : (b : Bool) → p x ≡ b → length (filter p (take n xs)) ≡ (suc a + n - v) - (suc a - v)
          → length (cond b (x ∷ filter p (take n xs)) (filter p (take n xs))) ≡ (a + suc n - v) - (a - v)
      go true q ih = omega (arith, ltb-true v (a + 0 + 1) (sym first ∙ q))
      go false q ih = omega (arith, ltb-false v (a + 0 + 1) (sym first ∙ q))

-- an element that passes is left
pub any_passes : {A : Type 0} (p : A → Bool) (xs : List A) → any p xs ≡ true → 1 ≤ length (filter p xs)
unfolding filter any
any_passes p [] e = never e
any_passes p (x ∷ xs) e = go (p x) e (any_passes p xs)
  where
    go : (b : Bool) → (b || any p xs) ≡ true → (any p xs ≡ true → 1 ≤ length (filter p xs))
        → 1 ≤ length (cond b (x ∷ filter p xs) (filter p xs))
    go true e ih = omega arith
    go false e ih = ih e

-- the place of the first element that does not pass, or the end
pub record FirstFails {A : Type 0} (p : A → Bool) (xs : List A) (d : A) (i : ℕ) : Type 0 where
  pub inside : i ≤ length xs
  pub front : (k : ℕ) → k < i → p (get_or xs k d) ≡ true
  pub here : i < length xs → p (get_or xs i d) ≡ false

pub first_fails : {A : Type 0} (p : A → Bool) (xs : List A) (d : A) → (i : ℕ) × FirstFails p xs d i
first_fails p [] d = (0, record { inside = omega arith; front = λ k h. absurd (omega arith); here = λ h. absurd (omega arith) })
first_fails p (x ∷ xs) d = go (p x) refl (first_fails p xs d)
  where
    front : (i : ℕ) → p x ≡ true → FirstFails p xs d i → (k : ℕ) → k < suc i → p (get_or (x ∷ xs) k d) ≡ true
    front i e h zero l = e
    front i e h (suc k) l = h.front k (omega arith)

    go : (b : Bool) → p x ≡ b → (i : ℕ) × FirstFails p xs d i → (i : ℕ) × FirstFails p (x ∷ xs) d i
    go true e (i, h) = (suc i, record { inside = omega (arith, h.inside); front = front i e h; here = λ l. h.here (omega arith) })
    go false e h = (0, record { inside = omega arith; front = λ k l. absurd (omega arith); here = λ _. e })

pub filter_alike : {A : Type 0} (p q : A → Bool) (xs : List A) → Each (λ x. p x ≡ q x) xs → filter p xs ≡ filter q xs
unfolding filter
filter_alike p q [] h = refl
filter_alike p q (x ∷ xs) h = rw (h.0, filter_alike p q xs h.1)

pub filter_each : {A : Type 0} (p : A → Bool) (xs : List A) → Each (λ x. p x ≡ true) xs → filter p xs ≡ xs
unfolding filter
filter_each p [] h = refl
filter_each p (x ∷ xs) h = rw (h.0, filter_each p xs h.1)

pub filter_swap : {A : Type 0} (p q : A → Bool) (xs : List A) → filter p (filter q xs) ≡ filter q (filter p xs)
unfolding filter
filter_swap p q [] = refl
filter_swap p q (x ∷ xs) = go (p x) refl (q x) refl (filter_swap p q xs)
  where
    go : (b : Bool) → p x ≡ b → (c : Bool) → q x ≡ c → filter p (filter q xs) ≡ filter q (filter p xs)
        → filter p (cond c (x ∷ filter q xs) (filter q xs)) ≡ filter q (cond b (x ∷ filter p xs) (filter p xs))
    go true e true f ih = rw (e, f, ih)
    go true e false f ih = rw (f, ih)
    go false e true f ih = rw (e, ih)
    go false e false f ih = ih

pub filter_map : {A B : Type 0} (p : B → Bool) (h : A → B) (xs : List A) → filter p (map h xs) ≡ map h (filter (λ x. p (h x)) xs)
unfolding filter
filter_map p h [] = refl
filter_map p h (x ∷ xs) = rw (filter_map p h xs) (go (p (h x)))
  where
    go : (b : Bool) → cond b (h x ∷ map h (filter (λ x. p (h x)) xs)) (map h (filter (λ x. p (h x)) xs)) ≡ map h
        (cond b (x ∷ filter (λ x. p (h x)) xs) (filter (λ x. p (h x)) xs))
    go true = refl
    go false = refl

module _ {A B : Type 0} (p : B → Bool) (h : A → B) (d : A) where
  pub filter_none : (n : ℕ) (xs : List A) → ((i : ℕ) → i < n → i < length xs → p (h (get_or xs i d)) ≡ false)
      → filter p (map h (take n xs)) ≡ []
  unfolding filter
  filter_none zero xs e = refl
  filter_none (suc n) [] e = refl
  filter_none (suc n) (x ∷ xs) e =
      rw (e 0 (omega arith) (omega arith), filter_none n xs (λ i a l. e (suc i) (omega arith) (omega arith)))

  -- only the element j can pass
  pub filter_one : (n j : ℕ) (xs : List A) → j < n → j < length xs → ((i : ℕ) → i < n → i < length xs → (i ≡ j → ⊥)
      → p (h (get_or xs i d)) ≡ false) → filter p (map h (take n xs)) ≡ cond (p (h (get_or xs j d))) (h (get_or xs j d) ∷ []) []
  unfolding filter
  filter_one zero j xs hn hl e = absurd (not-suc-le-zero hn)
  filter_one (suc n) j [] hn hl e = absurd (not-suc-le-zero hl)
  filter_one (suc n) zero (x ∷ xs) hn hl e =
      rw (filter_none n xs (λ i a l. e (suc i) (omega arith) (omega arith) (λ z. omega arith)))
  filter_one (suc n) (suc j) (x ∷ xs) hn hl e =
      rw (e 0 (omega arith) (omega arith) (λ z. omega arith)) (filter_one n j xs (le_of_suc-le-suc hn) (le_of_suc-le-suc hl)
      (λ i a l ne. e (suc i) (omega arith) (omega arith) (λ z. ne (omega arith))))

  -- of m elements the first n pass, and no others
  pub filter_front : (n m : ℕ) (xs : List A) → n ≤ m → ((i : ℕ) → i < m → i < length xs → p (h (get_or xs i d)) ≡ ltb i n)
      → filter p (map h (take m xs)) ≡ map h (take n xs)
  unfolding filter
  filter_front zero zero xs l e = refl
  filter_front (suc n) zero xs l e = absurd (not-suc-le-zero l)
  filter_front zero (suc m) [] l e = refl
  filter_front (suc n) (suc m) [] l e = refl
  filter_front zero (suc m) (x ∷ xs) l e =
      rw (e 0 (omega arith) (omega arith)) (filter_front zero m xs (omega arith)
      (λ i a b. e (suc i) (omega arith) (omega arith) ∙ le-ltb (suc i) 0 (omega arith) ∙ sym (le-ltb i 0 (omega arith))))
  filter_front (suc n) (suc m) (x ∷ xs) l e =
      rw (e 0 (omega arith) (omega arith), lt-ltb 0 (suc n) (omega arith)) (ap (◌∷◌ (h x)) (filter_front n m xs (le_of_suc-le-suc l)
      (λ i a b. e (suc i) (omega arith) (omega arith) ∙ leb-suc-suc (suc i) n)))

module _ {A B : Type 0} (p : B → Bool) (h : A → B) (F : ℕ → List A) where
  filter_parts_none : (n a : ℕ) → ((s : ℕ) → a ≤ s → s < a + n → filter p (map h (F s)) ≡ [])
      → filter p (map h (concat (map F (up_from a n)))) ≡ []
  unfolding up_from concat filter
  filter_parts_none zero a e = refl
  filter_parts_none (suc n) a e =
      rw (map-append, filter_append, e a (le_refl a) (omega arith), filter_parts_none n (suc a) (λ s l u. e s (omega arith) (omega arith)))

  -- only part s can have elements that pass
  pub filter_part : (n a s : ℕ) → a ≤ s → s < a + n → ((r : ℕ) → a ≤ r → r < a + n → (r ≡ s → ⊥) → filter p (map h (F r)) ≡ [])
      → filter p (map h (concat (map F (up_from a n)))) ≡ filter p (map h (F s))
  unfolding up_from concat
  filter_part zero a s l u e = absurd (omega arith)
  filter_part (suc n) a s l u e = elim (ℕ_discrete a s) [
    | yes q ↦ rw (
      map-append,
      filter_append,
      filter_parts_none n (suc a) (λ r b c. e r (omega arith) (omega arith) (λ z. omega arith)),
      append-nil,
      q,
    )
    | no ne ↦ rw (map-append, filter_append, e a (le_refl a) (omega arith) ne) (filter_part n (suc a) s (omega arith) (omega arith)
        (λ r b c z. e r (omega arith) (omega arith) z))
  ]

pub filter_concat : {A : Type 0} (p : A → Bool) (F : ℕ → List A) (ns : List ℕ)
    → filter p (concat (map F ns)) ≡ concat (map (λ n. filter p (F n)) ns)
unfolding concat filter
filter_concat p F [] = refl
filter_concat p F (n ∷ ns) = rw (filter_append p (F n) (concat (map F ns)), filter_concat p F ns)

-- a list of lists with one more element, which does not pass
pub filter_set : {A : Type 0} (p : A → Bool) (x : A) → p x ≡ false → (log : List (List A)) (i : ℕ)
    → filter p (concat (set log i (get_or log i [] ++ (x ∷ [])))) ≡ filter p (concat log)
unfolding concat filter
filter_set p x e [] i = refl
filter_set p x e (ys ∷ log) zero = rw (filter_append, filter_append, filter_append, e, append-nil)
filter_set p x e (ys ∷ log) (suc i) = rw (filter_append, filter_append, filter_set p x e log i)

pub map_filter_concat : {A B : Type 0} (f : A → B) (p : A → Bool) (F : ℕ → List A) (ns : List ℕ)
    → map f (filter p (concat (map F ns))) ≡ concat (map (λ s. map f (filter p (F s))) ns)
unfolding concat filter
map_filter_concat f p F [] = refl
map_filter_concat f p F (n ∷ ns) = rw (filter_append p (F n) (concat (map F ns)), map-append, map_filter_concat f p F ns)

pub filter_map_filter : {A : Type 0} (p : A → Bool) (f : ℕ → A) (q r : ℕ → Bool) (n a : ℕ)
    → ((k : ℕ) → a ≤ k → k < a + n → (q k && p (f k)) ≡ r k) → filter p (map f (filter q (up_from a n))) ≡ map f (filter r (up_from a n))
unfolding filter up_from
filter_map_filter p f q r zero a h = refl
filter_map_filter p f q r (suc n) a h = go (q a) (p (f a)) (r a) refl refl refl (h a (le_refl a) (omega arith))
    (filter_map_filter p f q r n (suc a) (λ k l u. h k (omega arith) (omega arith)))
  where
    go : (x y z : Bool) → q a ≡ x → p (f a) ≡ y → r a ≡ z → (q a && p (f a)) ≡ r a
        → filter p (map f (filter q (up_from (suc a) n))) ≡ map f (filter r (up_from (suc a) n))
        → filter p (map f (cond x (a ∷ filter q (up_from (suc a) n)) (filter q (up_from (suc a) n)))) ≡ map f
        (cond z (a ∷ filter r (up_from (suc a) n)) (filter r (up_from (suc a) n)))
    go true true true e₁ e₂ e₃ e ih = rw (e₂, ih)
    go true true false e₁ e₂ e₃ e ih = never (sym (rw (e₁, e₂, e₃) at e))
    go true false true e₁ e₂ e₃ e ih = never (rw (e₁, e₂, e₃) at e)
    go true false false e₁ e₂ e₃ e ih = rw (e₂, ih)
    go false y true e₁ e₂ e₃ e ih = never (rw (e₁, e₃) at e)
    go false y false e₁ e₂ e₃ e ih = ih

pub any_map_filter : (p : ℕ → Bool) (f : ℕ → ℕ) (q r : ℕ → Bool) (n a : ℕ) → ((k : ℕ) → a ≤ k → k < a + n → (q k && p (f k)) ≡ r k)
    → any p (map f (filter q (up_from a n))) ≡ any r (up_from a n)
unfolding any filter up_from
any_map_filter p f q r zero a h = refl
any_map_filter p f q r (suc n) a h = rw (
  ← h a (le_refl a) (omega arith),
  ← any_map_filter p f q r n (suc a)
      (λ k l u. h k (omega arith) (omega arith)),
) (go (q a))
  where
    go : (b : Bool) → any p (map f (cond b (a ∷ filter q (up_from (suc a) n)) (filter q (up_from (suc a) n)))) ≡ ((b && p (f a))
        || any p (map f (filter q (up_from (suc a) n))))
    go true = refl
    go false = refl

pub none_from : (p : ℕ → Bool) (n a : ℕ) → ((i : ℕ) → i < n → p (a + i) ≡ false) → filter p (up_from a n) ≡ []
unfolding filter up_from
none_from p zero a h = refl
none_from p (suc n) a h =
    let e : p a ≡ false = rw (← add-zero a) (h 0 (omega arith)) in
    rw e (none_from p n (suc a) (λ i l. let q : suc a + i ≡ a + suc i = omega arith in rw q (h (suc i) (omega arith))))

pub filter_length : {A : Type 0} (p : A → Bool) (xs : List A) → length (filter p xs) ≤ length xs
unfolding filter
filter_length p [] = omega arith
filter_length p (x ∷ xs) = go (p x) (filter_length p xs)
  where
    go : (b : Bool) → length (filter p xs) ≤ length xs → length (cond b (x ∷ filter p xs) (filter p xs)) ≤ suc (length xs)
    go true ih = omega arith
    go false ih = omega arith

-- where none is dropped, all are left
pub filter_full : {A : Type 0} (p : A → Bool) (xs : List A) → length xs ≤ length (filter p xs) → filter p xs ≡ xs
unfolding filter
filter_full p [] h = refl
filter_full p (x ∷ xs) h = go (p x) h (filter_full p xs)
  where
    go : (b : Bool) → suc (length xs) ≤ length (cond b (x ∷ filter p xs) (filter p xs))
        → (length xs ≤ length (filter p xs) → filter p xs ≡ xs) → cond b (x ∷ filter p xs) (filter p xs) ≡ x ∷ xs
    go true h ih = ap (◌∷◌ x) (ih (le_of_suc-le-suc h))
    go false h ih = absurd (omega (arith, filter_length p xs))

pub filter_both : {A : Type 0} (p q : A → Bool) (xs : List A) → filter (λ x. p x && q x) xs ≡ filter q (filter p xs)
unfolding filter
filter_both p q [] = refl
filter_both p q (x ∷ xs) = rw (filter_both p q xs) (go (p x))
  where
    go : (b : Bool) → cond (b && q x) (x ∷ filter q (filter p xs)) (filter q (filter p xs)) ≡ filter q
        (cond b (x ∷ filter p xs) (filter p xs))
    go true = refl
    go false = refl

---- how many pass

module _ {A : Type 0} (P : A → Bool) where
  -- how many elements of a list pass
  abbrev pub tally : List A → ℕ
  tally xs = length (filter P xs)

  tally_cons : (x : A) (xs : List A) → tally (x ∷ xs) ≡ cond (P x) 1 0 + tally xs
  unfolding filter
  tally_cons x xs = go (P x)
    where
      go : (b : Bool) → length (cond b (x ∷ filter P xs) (filter P xs)) ≡ cond b 1 0 + length (filter P xs)
      go true = omega arith
      go false = omega arith

  tally_append : (xs ys : List A) → tally (xs ++ ys) ≡ tally xs + tally ys
  tally_append xs ys = rw (filter_append P xs ys, length-append)

  pub tally_concat : (F G : ℕ → List A) (ns : List ℕ) → ((i : ℕ) → tally (F i) ≡ tally (G i))
      → tally (concat (map F ns)) ≡ tally (concat (map G ns))
  unfolding concat
  tally_concat F G [] h = refl
  tally_concat F G (n ∷ ns) h = rw (
    tally_append (F n) (concat (map F ns)),
    tally_append (G n) (concat (map G ns)),
    h n,
    tally_concat F G ns
        h,
  )

  ---- a list in parts, by a key

  module _ (key : A → ℕ) where
    abbrev pub of_key : List A → ℕ → List A
    of_key xs t = filter (λ x. eqb (key x) t) xs

    outside_up : (x : A) (xs : List A) (n a : ℕ) → key x < a
        → concat (map (of_key (x ∷ xs)) (up_from a n)) ≡ concat (map (of_key xs) (up_from a n))
    unfolding filter up_from concat
    outside_up x xs zero a h = refl
    outside_up x xs (suc n) a h = rw (ne_eqb (key x) a (λ e. omega arith))
        (ap (λ t. of_key xs a ++ t) (outside_up x xs n (suc a) (omega arith)))

    inside_up : (x : A) (xs : List A) (n a : ℕ) → a ≤ key x → key x < a + n
        → tally (concat (map (of_key (x ∷ xs)) (up_from a n))) ≡ cond (P x) 1 0 + tally (concat (map (of_key xs) (up_from a n)))
    unfolding filter up_from concat
    inside_up x xs zero a l u = absurd (omega arith)
    inside_up x xs (suc n) a l u = elim (ℕ_discrete (key x) a) [
      | yes e ↦ rw (eq-eqb (key x) a e, outside_up x xs n (suc a) (omega arith))
          (tally_cons x (of_key xs a ++ concat (map (of_key xs) (up_from (suc a) n))))
      | no ne ↦ rw (
        ne_eqb (key x) a ne,
        tally_append (of_key xs a) (concat (map (of_key (x ∷ xs)) (up_from (suc a) n))),
        tally_append
            (of_key xs a) (concat (map (of_key xs) (up_from (suc a) n))),
      ) (omega (arith, inside_up x xs n (suc a) (omega arith) (omega arith)))
    ]

    outside_down : (x : A) (xs : List A) (n : ℕ) → n < key x
        → concat (map (of_key (x ∷ xs)) (down_from n)) ≡ concat (map (of_key xs) (down_from n))
    unfolding filter down_from concat
    outside_down x xs zero h = refl
    outside_down x xs (suc n) h = rw (ne_eqb (key x) (suc n) (λ e. omega arith))
        (ap (λ t. of_key xs (suc n) ++ t) (outside_down x xs n (omega arith)))

    inside_down : (x : A) (xs : List A) (n : ℕ) → 1 ≤ key x → key x ≤ n
        → tally (concat (map (of_key (x ∷ xs)) (down_from n))) ≡ cond (P x) 1 0 + tally (concat (map (of_key xs) (down_from n)))
    unfolding filter down_from concat
    inside_down x xs zero l u = absurd (omega arith)
    inside_down x xs (suc n) l u = elim (ℕ_discrete (key x) (suc n)) [
      | yes e ↦ rw (eq-eqb (key x) (suc n) e, outside_down x xs n (omega arith))
          (tally_cons x (of_key xs (suc n) ++ concat (map (of_key xs) (down_from n))))
      | no ne ↦ rw (
        ne_eqb (key x) (suc n) ne,
        tally_append (of_key xs (suc n)) (concat (map (of_key (x ∷ xs)) (down_from n))),
        tally_append
            (of_key xs (suc n)) (concat (map (of_key xs) (down_from n))),
      ) (omega (arith, inside_down x xs n l (omega arith)))
    ]

    pub tally_up : (xs : List A) (n : ℕ) → all (λ x. leb 1 (key x) && leb (key x) n) xs ≡ true
        → tally (concat (map (of_key xs) (up_from 1 n))) ≡ tally xs
    unfolding all filter
    tally_up [] n h = rw (concat_nothing (of_key []) n 1 (λ i l u. refl))
    tally_up (x ∷ xs) n h =
        let e = and_left (leb 1 (key x) && leb (key x) n) _ h in
        let l = leb-true 1 (key x) (and_left (leb 1 (key x)) _ e) in
        let u = leb-true (key x) n (and_right (leb 1 (key x)) _ e) in
        inside_up x xs n 1 l (omega arith) ∙ rw (tally_up xs n (and_right (leb 1 (key x) && leb (key x) n) _ h)) (sym (tally_cons x xs))

    pub tally_down : (xs : List A) (n : ℕ) → all (λ x. leb 1 (key x) && leb (key x) n) xs ≡ true
        → tally (concat (map (of_key xs) (down_from n))) ≡ tally xs
    unfolding all filter
    tally_down [] n h = rw (concat_none (of_key []) n (λ i l u. refl))
    tally_down (x ∷ xs) n h =
        let e = and_left (leb 1 (key x) && leb (key x) n) _ h in
        let l = leb-true 1 (key x) (and_left (leb 1 (key x)) _ e) in
        let u = leb-true (key x) n (and_right (leb 1 (key x)) _ e) in
        inside_down x xs n l u ∙ rw (tally_down xs n (and_right (leb 1 (key x) && leb (key x) n) _ h)) (sym (tally_cons x xs))
