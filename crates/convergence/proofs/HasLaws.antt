-- Laws of lists of ops: what a list has, how often, and what one list has and another lacks.
use mathlib.Core.Path.{◌≡◌, refl, sym, ap, ◌∙◌}
use mathlib.Core.Logic.{◌⊎◌, inl, inr, ⊎_elim}
use mathlib.Core.Bool.{Bool, true, false, cond, ◌||◌, not, or-false, or-true}
use mathlib.Core.List.{List, [], ◌∷◌, ◌++◌, map, append-nil}
use Prim.Native.Nat.{ℕ, zero, suc, ◌+◌, ◌≤◌, ◌<◌}
use native.Mathlib.Nat.{le_of_suc-le-suc, not-suc-le-zero}
use native.Mathlib.Decide.{ℕ_discrete}
use native.Mathlib.Omega.{arith}
use lib.ListN.{length, get_or, length-append}
use Rattle.lists.specs.Lists.{all, up_from, same, concat, any, filter, is_in}
use Rattle.rules.specs.Op.{Op}
use Rattle.convergence.specs.Exchange.{has, times, only_in}
use Rattle.lists.proofs.BoolLaws.{never, and_both, both_ways, or_cases}
use Rattle.lists.proofs.MemberLaws.{is_in_here, is_in_there}
use Rattle.lists.proofs.ListLaws.{same_refl, same_eq, same_sym}
use Rattle.lists.proofs.FilterLaws.{filter_append}
use Rattle.lists.proofs.AllLaws.{any_append}
use Rattle.lists.proofs.EachLaws.{Each}

---- has and times

pub has_head : (x : Op) (a : List Op) → has (x ∷ a) x ≡ true
unfolding has any
has_head x a = rw (same_refl x)

pub has_tail : (x : Op) (a : List Op) (r : Op) → has a r ≡ true → has (x ∷ a) r ≡ true
unfolding has any
has_tail x a r e = rw (e, or-true)

pub has_append : (a b : List Op) (r : Op) → has (a ++ b) r ≡ (has a r || has b r)
unfolding has
has_append a b r = any_append (same r) a b

pub has_last : (a : List Op) (x r : Op) → has (a ++ (x ∷ [])) r ≡ (has a r || same r x)
unfolding has any
has_last a x r = any_append (same r) a (x ∷ []) ∙ ap (λ t. any (same r) a || t) (or-false (same r x))

pub has_new : (a : List Op) (r : Op) → has (a ++ (r ∷ [])) r ≡ true
has_new a r = rw (has_last, same_refl, or-true)

pub has_old : (a b : List Op) (r : Op) → has a r ≡ true → has (a ++ b) r ≡ true
has_old a b r e = rw (has_append, e)

-- an op that it has, once more
pub has_again : (a : List Op) (r z : Op) → has a r ≡ true → has (a ++ (r ∷ [])) z ≡ has a z
has_again a r z h = both_ways (has (a ++ (r ∷ [])) z) (has a z)
    (λ e. ⊎_elim
    (λ (i : has a z ≡ true). i)
    (λ (i : same z r ≡ true). rw (same_eq z r i) h)
    (or_cases (has a z) (same z r) (sym (has_last a r z) ∙ e)))
    (λ e. has_old a (r ∷ []) z e)

pub has_none : {A : Type 0} (r : Op) → has [] r ≡ true → A
unfolding has any
has_none r e = never e

pub has_either : (a b : List Op) (r : Op) → has (a ++ b) r ≡ true → (has a r ≡ true) ⊎ (has b r ≡ true)
has_either a b r e = or_cases (has a r) (has b r) (sym (has_append a b r) ∙ e)

pub has_right : (a b : List Op) (r : Op) → has b r ≡ true → has (a ++ b) r ≡ true
has_right a b r e = rw (has_append, e, or-true)

pub has_cases : (x : Op) (a : List Op) (r : Op) → has (x ∷ a) r ≡ true → (r ≡ x) ⊎ (has a r ≡ true)
unfolding has any
has_cases x a r e = ⊎_elim (λ (z : same r x ≡ true). inl (same_eq r x z)) (λ (z : any (same r) a ≡ true). inr z)
    (or_cases (same r x) (any (same r) a) e)

-- with an op between a and b, and without
module _ (a b : List Op) (x : Op) where
  pub has_between : has (a ++ (x ∷ b)) x ≡ true
  has_between = has_right a (x ∷ b) x (has_head x b)

  pub has_more : (r : Op) → has (a ++ b) r ≡ true → has (a ++ (x ∷ b)) r ≡ true
  has_more r e = ⊎_elim (λ (z : has a r ≡ true). has_old a (x ∷ b) r z) (λ (z : has b r ≡ true). has_right a (x ∷ b) r (has_tail x b r z))
      (has_either a b r e)

  pub has_less : (r : Op) → has (a ++ (x ∷ b)) r ≡ true → (r ≡ x) ⊎ (has (a ++ b) r ≡ true)
  has_less r e = ⊎_elim
      (λ (z : has a r ≡ true). inr (has_old a b r z))
      (λ (z : has (x ∷ b) r ≡ true). ⊎_elim (λ (q : r ≡ x). inl q) (λ (q : has b r ≡ true). inr (has_right a b r q)) (has_cases x b r z))
      (has_either a (x ∷ b) r e)

pub times_append : (a b : List Op) (r : Op) → times (a ++ b) r ≡ times a r + times b r
unfolding times
times_append a b r = rw (filter_append, length-append)

pub times_none : (a : List Op) (r : Op) → has a r ≡ false → times a r ≡ 0
unfolding times has any filter
times_none [] r e = refl
times_none (x ∷ a) r e = go (same r x) e (times_none a r)
  where
    go : (b : Bool) → (b || any (same r) a) ≡ false → (any (same r) a ≡ false → length (filter (same r) a) ≡ 0)
        → length (cond b (x ∷ filter (same r) a) (filter (same r) a)) ≡ 0
    go true z ih = never (sym z)
    go false z ih = ih z

pub times_some : (a : List Op) (r : Op) → has a r ≡ true → 1 ≤ times a r
unfolding times has any filter
times_some [] r e = never e
times_some (x ∷ a) r e = go (same r x) e (times_some a r)
  where
    go : (b : Bool) → (b || any (same r) a) ≡ true → (any (same r) a ≡ true → 1 ≤ length (filter (same r) a))
        → 1 ≤ length (cond b (x ∷ filter (same r) a) (filter (same r) a))
    go true z ih = omega arith
    go false z ih = ih z

pub times_once : (a : List Op) (r : Op) → times a r ≤ 1 → times a r ≡ cond (has a r) 1 0
times_once a r h = go (has a r) refl
  where
    go : (b : Bool) → has a r ≡ b → times a r ≡ cond b 1 0
    go true e = omega (arith, times_some a r e)
    go false e = times_none a r e

pub once_last : (a : List Op) (x r : Op) → times a r ≤ 1 → has a x ≡ false → times (a ++ (x ∷ [])) r ≤ 1
unfolding times filter
once_last a x r h e = rw (times_append a (x ∷ []) r) (go (same r x) refl)
  where
    go : (b : Bool) → same r x ≡ b → length (filter (same r) a) + length (cond b (x ∷ []) []) ≤ 1
    go true q = let z : has a r ≡ false = rw (same_eq r x q) e in omega (arith, times_none a r z)
    go false q = omega arith

pub each_has : (P : Op → Type 0) (a : List Op) → ((r : Op) → has a r ≡ true → P r) → Each P a
each_has P [] h = tt
each_has P (x ∷ a) h = (h x (has_head x a), each_has P a (λ r e. h r (has_tail x a r e)))

---- tests of the ops of a list

module _ (p : Op → Bool) where
  pub any_has : (a : List Op) (r : Op) → has a r ≡ true → p r ≡ true → any p a ≡ true
  unfolding any
  any_has [] r h e = has_none r h
  any_has (x ∷ a) r h e = ⊎_elim
      (λ (z : r ≡ x). let px : p x ≡ true = rw z at e in rw px)
      (λ (z : has a r ≡ true). rw (any_has a r z e) (or-true (p x)))
      (has_cases x a r h)

  pub has_any : (a : List Op) → any p a ≡ true → (r : Op) × (has a r ≡ true) × (p r ≡ true)
  unfolding any
  has_any [] e = never e
  has_any (x ∷ a) e = ⊎_elim
      (λ (z : p x ≡ true). (x, has_head x a, z))
      (λ (z : any p a ≡ true). let (r, h, q) = has_any a z in (r, has_tail x a r h, q))
      (or_cases (p x) (any p a) e)

  pub all_has : (a : List Op) → ((r : Op) → has a r ≡ true → p r ≡ true) → all p a ≡ true
  unfolding all
  all_has [] h = refl
  all_has (x ∷ a) h = and_both (h x (has_head x a)) (all_has a (λ r e. h r (has_tail x a r e)))

pub map_has : (f : Op → ℕ) (a : List Op) (r : Op) → has a r ≡ true → is_in (f r) (map f a) ≡ true
map_has f [] r h = has_none r h
map_has f (x ∷ a) r h = ⊎_elim
    (λ (z : r ≡ x). rw z (is_in_here (f x) (map f a)))
    (λ (z : has a r ≡ true). is_in_there (f r) (f x) (map f a) (map_has f a r z))
    (has_cases x a r h)

---- where an op stands

pub has_at : (a : List Op) (r : Op) → has a r ≡ true → (i : ℕ) × (i < length a) × (get_or a i [] ≡ r)
unfolding has any
has_at [] r e = never e
has_at (x ∷ a) r e = ⊎_elim (λ (h : same r x ≡ true). (0, omega arith, sym (same_eq r x h))) (λ (h : has a r ≡ true). next (has_at a r h))
    (or_cases (same r x) (has a r) e)
  where
    next : (i : ℕ) × (i < length a) × (get_or a i [] ≡ r) → (i : ℕ) × (i < suc (length a)) × (get_or (x ∷ a) i [] ≡ r)
    next (i, l, g) = (suc i, omega arith, g)

pub at_has : (a : List Op) (i : ℕ) → i < length a → has a (get_or a i []) ≡ true
at_has [] i l = absurd (not-suc-le-zero l)
at_has (x ∷ a) zero l = has_head x a
at_has (x ∷ a) (suc i) l = has_tail x a _ (at_has a i (le_of_suc-le-suc l))

-- in a list of lists, one for each number from a on
module _ (F : ℕ → List Op) (r : Op) where
  pub has_part : (n a : ℕ) → has (concat (map F (up_from a n))) r ≡ true → (s : ℕ) × (a ≤ s) × (s < a + n) × (has (F s) r ≡ true)
  unfolding concat up_from has any
  has_part zero a e = never e
  has_part (suc n) a e = ⊎_elim (λ (h : has (F a) r ≡ true). (a, omega arith, omega arith, h))
      (λ (h : has (concat (map F (up_from (suc a) n))) r ≡ true). next (has_part n (suc a) h))
      (or_cases _ _ (sym (has_append (F a) _ r) ∙ e))
    where
      next : (s : ℕ) × (suc a ≤ s) × (s < suc a + n) × (has (F s) r ≡ true) → (s : ℕ) × (a ≤ s) × (s < a + suc n) × (has (F s) r ≡ true)
      next (s, l, u, h) = (s, omega arith, omega arith, h)

  pub part_has : (n a s : ℕ) → a ≤ s → s < a + n → has (F s) r ≡ true → has (concat (map F (up_from a n))) r ≡ true
  unfolding concat up_from
  part_has zero a s l u e = absurd (omega arith)
  part_has (suc n) a s l u e = rw (has_append (F a) (concat (map F (up_from (suc a) n))) r) (elim (ℕ_discrete s a) [
    | yes q ↦ rw (← q, e)
    | no nq ↦ rw (part_has n (suc a) s (omega arith) (omega arith) e, or-true)
  ])

---- what one list has and another lacks

-- b comes to have an op of a
pub only_in_less : (a b : List Op) (r : Op) → has b r ≡ false → length (only_in a b) ≡ length (only_in a (b ++ (r ∷ []))) + times a r
unfolding only_in times filter
only_in_less [] b r h = refl
only_in_less (x ∷ a) b r h = rw (has_last b r x, same_sym x r) (go (has b x) (same r x) refl refl (only_in_less a b r h))
  where
    go : (c d : Bool) → has b x ≡ c → same r x ≡ d → length (only_in a b) ≡ length (only_in a (b ++ (r ∷ []))) + times a r
        → length (cond (not c) (x ∷ only_in a b) (only_in a b)) ≡ length (cond (not (c || d)) (x ∷ only_in a (b ++ (r ∷ [])))
        (only_in a (b ++ (r ∷ [])))) + length (cond d (x ∷ filter (same r) a) (filter (same r) a))
    go true true p q ih = never (sym h ∙ rw (same_eq r x q) p)
    go true false p q ih = ih
    go false true p q ih = omega arith
    go false false p q ih = omega arith

-- a comes to have an op of b
pub only_in_same : (a b : List Op) (r : Op) → has b r ≡ true → only_in (a ++ (r ∷ [])) b ≡ only_in a b
unfolding only_in filter
only_in_same a b r h = rw (filter_append, h) (append-nil (only_in a b))

pub some_only_in : (a b : List Op) → 1 ≤ length (only_in a b) → (r : Op) × (has a r ≡ true) × (has b r ≡ false)
unfolding only_in filter has any
some_only_in [] b h = absurd (omega arith)
some_only_in (x ∷ a) b h = go (has b x) refl h (some_only_in a b)
  where
    go : (c : Bool) → has b x ≡ c → 1 ≤ length (cond (not c) (x ∷ only_in a b) (only_in a b))
        → (1 ≤ length (only_in a b) → (r : Op) × (has a r ≡ true) × (has b r ≡ false))
        → (r : Op) × ((same r x || has a r) ≡ true) × (has b r ≡ false)
    go true e l ih = let (r, i, n) = ih l in (r, rw (i, or-true), n)
    go false e l ih = (x, rw (same_refl x), e)

pub none_only_in : (a b : List Op) → only_in a b ≡ [] → (r : Op) → has a r ≡ true → has b r ≡ true
unfolding only_in filter has any
none_only_in [] b h r e = never e
none_only_in (x ∷ a) b h r e = go (has b x) refl h (none_only_in a b)
  where
    go : (c : Bool) → has b x ≡ c → cond (not c) (x ∷ only_in a b) (only_in a b) ≡ [] → (only_in a b ≡ [] → (r : Op) → has a r ≡ true
        → has b r ≡ true) → has b r ≡ true
    go true i z ih = ⊎_elim (λ (q : same r x ≡ true). rw (same_eq r x q) i) (λ (q : has a r ≡ true). ih z r q)
        (or_cases (same r x) (has a r) e)
    go false i z ih = let z : ◌≡◌ {A = ℕ} 0 1 = cc in absurd (omega arith)
