-- Laws of lists: sums, equal lists, lists of lists, parts and stores.
use Rattle.lists.proofs.BoolLaws.{and_left, and_right, both_ways, never}
use Rattle.lists.specs.Lists.{concat, same, sum}
use mathlib.Core.Bool.{true}
use mathlib.Core.List.{List, [], ◌++◌, ◌∷◌, append_assoc, map, map-append}
use Prim.Native.Nat.{◌+◌, ◌-◌, ◌<◌, ◌≤◌, suc, zero, ℕ}
use mathlib.Core.Path.{◌∙◌, ◌≡◌, ap, ap₂, refl, sym}
use native.Mathlib.Numerals.{add-one}
use native.Mathlib.Omega.{arith}
use lib.ListN.{length-append, length-set, drop, get_or, length, replicate, set, take, take-append-drop}
use lib.Seq.{drop-drop, drop-set-lt, take-nil, take-suc, take-suc-set}
use borrow.Author.Tests.{eq-eqb, eqb-true}
use lib.Dec.{eqb}
use native.Mathlib.Nat.{le_of_suc-le-suc, not-suc-le-zero, suc-add, zero-add}

---- sums

pub sum_suc : (c : List ℕ) (i : ℕ) → i < length c → sum (take (suc i) c) ≡ sum (take i c) + get_or c i 0
unfolding sum
sum_suc [] i h = absurd (not-suc-le-zero h)
sum_suc (x ∷ c) zero h = omega arith
sum_suc (x ∷ c) (suc i) h = omega (arith, sum_suc c i (le_of_suc-le-suc h))

pub sum_take : (c : List ℕ) (i : ℕ) → sum (take i c) + get_or c i 0 ≤ sum c
unfolding sum
sum_take [] zero = omega arith
sum_take [] (suc i) = omega arith
sum_take (x ∷ c) zero = omega arith
sum_take (x ∷ c) (suc i) = omega (arith, sum_take c i)

---- two lists of bytes that are the same

pub same_refl : (xs : List ℕ) → same xs xs ≡ true
unfolding same
same_refl [] = refl
same_refl (x ∷ xs) = rw (eq-eqb x x refl, same_refl xs)

pub same_eq : (a b : List ℕ) → same a b ≡ true → a ≡ b
unfolding same
same_eq [] [] e = refl
same_eq [] (y ∷ b) e = never e
same_eq (x ∷ a) [] e = never e
same_eq (x ∷ a) (y ∷ b) e = ap₂ ◌∷◌ (eqb-true x y (and_left (eqb x y) _ e)) (same_eq a b (and_right (eqb x y) _ e))

pub same_sym : (a b : List ℕ) → same a b ≡ same b a
same_sym a b =
    both_ways (same a b) (same b a) (λ e. rw (same_eq a b e) (same_refl b)) (λ e. rw (same_eq b a e) (same_refl a))

---- lists of lists

pub concat_append : {A : Type 0} (xs ys : List (List A)) → concat (xs ++ ys) ≡ concat xs ++ concat ys
unfolding concat
concat_append [] ys = refl
concat_append (x ∷ xs) ys = rw (concat_append xs ys, append_assoc)

pub length_concat : {A : Type 0} (F : ℕ → List A) (ns : List ℕ) → length (concat (map F ns)) ≡ sum (map (λ n. length (F n)) ns)
unfolding concat sum
length_concat F [] = refl
length_concat F (n ∷ ns) = rw (length-append, length_concat F ns)

pub map_concat : {A B C : Type 0} (f : B → C) (F : A → List B) (cs : List A)
    → map f (concat (map F cs)) ≡ concat (map (λ c. map f (F c)) cs)
unfolding concat
map_concat f F [] = refl
map_concat f F (c ∷ cs) = rw (map-append, map_concat f F cs)

-- the image at a place
pub map_at : {A B : Type 0} (f : A → B) (xs : List A) (i : ℕ) (e : B) (d : A) → i < length xs → get_or (map f xs) i e ≡ f (get_or xs i d)
map_at f [] i e d l = absurd (not-suc-le-zero l)
map_at f (x ∷ xs) zero e d l = refl
map_at f (x ∷ xs) (suc i) e d l = map_at f xs i e d (le_of_suc-le-suc l)

pub map_map : {A B C : Type 0} (f : B → C) (g : A → B) (xs : List A) → map f (map g xs) ≡ map (λ x. f (g x)) xs
map_map f g [] = refl
map_map f g (x ∷ xs) = ap (λ ys. f (g x) ∷ ys) (map_map f g xs)

pub map_take : {A B : Type 0} (g : A → B) (n : ℕ) (ys : List A) → map g (take n ys) ≡ take n (map g ys)
map_take g zero ys = refl
map_take g (suc n) [] = refl
map_take g (suc n) (y ∷ ys) = ap (◌∷◌ (g y)) (map_take g n ys)

pub map_drop : {A B : Type 0} (g : A → B) (n : ℕ) (ys : List A) → map g (drop n ys) ≡ drop n (map g ys)
map_drop g zero ys = refl
map_drop g (suc n) [] = refl
map_drop g (suc n) (y ∷ ys) = map_drop g n ys

---- parts and stores

pub no_length : {A : Type 0} (xs : List A) → length xs ≡ 0 → xs ≡ []
no_length [] e = refl
no_length (x ∷ xs) e = absurd (omega arith)

-- a turn of a loop that copies s to the front of v
pub copy_step : (v s : List ℕ) (i x : ℕ) → take i v ≡ take i s → i < length v → i < length s → x ≡ get_or s i 0
    → take (i + 1) (set v i x) ≡ take (i + 1) s
copy_step v s i x e hv hs ex = rw (add-one, take-suc-set, take-suc s i 0, e, ex)

---- a loop that stores entries one behind the other, from place n on

unfoldable pub stores : List ℕ → ℕ → List ℕ → List ℕ
stores t n [] = t
stores t n (x ∷ xs) = stores (set t n x) (n + 1) xs

pub stores_are : (xs t : List ℕ) (n : ℕ) → n + length xs ≤ length t → stores t n xs ≡ take n t ++ (xs ++ drop (n + length xs) t)
unfolding stores
stores_are [] t n h = let z : n + 0 ≡ n = omega arith in rw z (sym (take-append-drop n t))
stores_are (x ∷ xs) t n h =
    let more : n + 1 + length xs ≤ length (set t n x) = omega (arith, length-set t n x) in
    let end : n + suc (length xs) ≡ n + 1 + length xs = omega arith in
    stores_are xs (set t n x) (n + 1) more
    ∙ rw (add-one n, take-suc-set t n x (omega arith), ← add-one n, drop-set-lt (n + 1 + length xs) t n x (omega arith), end, append_assoc)

pub stores_append : (xs ys t : List ℕ) (n : ℕ) → stores t n (xs ++ ys) ≡ stores (stores t n xs) (n + length xs) ys
unfolding stores
stores_append [] ys t n = let e : n + 0 ≡ n = omega arith in rw e
stores_append (x ∷ xs) ys t n =
    let e : n + suc (length xs) ≡ n + 1 + length xs = omega arith in
    rw e (stores_append xs ys (set t n x) (n + 1))

pub stores_length : (xs t : List ℕ) (n : ℕ) → length (stores t n xs) ≡ length t
unfolding stores
stores_length [] t n = refl
stores_length (x ∷ xs) t n = stores_length xs (set t n x) (n + 1) ∙ length-set t n x

---- a loop that fills a table of n entries with x: the first i have it

---- parts of parts

pub drop_take : (m n : ℕ) (l : List ℕ) → drop m (take (m + n) l) ≡ take n (drop m l)
drop_take zero n l = rw zero-add
drop_take (suc m) n [] = rw (suc-add, take-nil)
drop_take (suc m) n (x ∷ l) = rw suc-add (drop_take m n l)

pub drop_past : (xs ys : List ℕ) (i j : ℕ) → i ≤ j → drop i xs ≡ drop i ys → drop j xs ≡ drop j ys
drop_past xs ys i j h e =
    let k : j ≡ i + (j - i) = omega arith in
    rw k (sym (drop-drop (j - i) i xs) ∙ ap (drop (j - i)) e ∙ drop-drop (j - i) i ys)

pub take_replicate : (a m n : ℕ) → m ≤ n → take m (replicate n a) ≡ replicate m a
take_replicate a zero n l = refl
take_replicate a (suc m) zero l = absurd (not-suc-le-zero l)
take_replicate a (suc m) (suc n) l = ap (◌∷◌ a) (take_replicate a m n (le_of_suc-le-suc l))

pub drop_replicate : (a m n : ℕ) → drop m (replicate n a) ≡ replicate (n - m) a
drop_replicate a zero n = let e : n - 0 ≡ n = omega arith in rw e
drop_replicate a (suc m) zero = let e : 0 - suc m ≡ 0 = omega arith in rw e
drop_replicate a (suc m) (suc n) = let e : suc n - suc m ≡ n - m = omega arith in rw e (drop_replicate a m n)

pub take_same : {A : Type 0} (d : A) (n : ℕ) (xs ys : List A) → n ≤ length xs → n ≤ length ys
    → ((i : ℕ) → i < n → get_or xs i d ≡ get_or ys i d)
    → take n xs ≡ take n ys
take_same d zero xs ys a b e = refl
take_same d (suc n) [] ys a b e = absurd (not-suc-le-zero a)
take_same d (suc n) (x ∷ xs) [] a b e = absurd (not-suc-le-zero b)
take_same d (suc n) (x ∷ xs) (y ∷ ys) a b e =
    ap₂ ◌∷◌ (e 0 (omega arith)) (take_same d n xs ys (le_of_suc-le-suc a) (le_of_suc-le-suc b) (λ i h. e (suc i) (omega arith)))
