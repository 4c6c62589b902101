-- Two moves that are issued from one log: the order of their replay, and what each does.
use Prim.Native.Nat.{ℕ, ◌≤◌, ◌<◌}
use borrow.Author.Tests.{lt-ltb, le-ltb}
use lib.Dec.{eqb, ltb}
use mathlib.Core.Bool.{Bool, cond, true, false}
use mathlib.Core.List.{map, List, [], ◌++◌, ◌∷◌}
use mathlib.Core.Path.{◌≡◌, ◌∙◌}
use native.Mathlib.Decide.{dec_le}
use native.Mathlib.Omega.{arith}
use Rattle.lists.proofs.BoolLaws.{never}
use Rattle.lists.specs.Lists.{down_from, concat, up_from}
use Rattle.lists.proofs.RangeLaws.{two_down}
use Rattle.rules.proofs.ClimbLaws.{up}

---- two entries in the order of a level

-- upward is kind 3, downward 4
abbrev kind : Bool → ℕ
kind up = cond up 3 4

-- replica s has one entry, of this kind
abbrev Single : {A : Type 0} → (ℕ → ℕ → List A) → ℕ → Bool → A → Type 0
Single F s up x = (k : ℕ) → F k s ≡ cond (eqb (kind up) k) (x ∷ []) []

module _ {A : Type 0} (F : ℕ → ℕ → List A) (a b : ℕ) (la : 1 ≤ a) (ua : a ≤ 8) (lb : 1 ≤ b) (ub : b ≤ 8) (x y : A)
    (rest : (k s : ℕ) → 1 ≤ s → s ≤ 8 → (s ≡ a → ⊥) → (s ≡ b → ⊥) → F k s ≡ []) where
  abbrev kinds_in_order : List A
  kinds_in_order = concat (map (λ k. concat (map (F k) (down_from 8))) (up_from 1 4))

  module _ (u v : Bool) (fa : Single F a u x) (fb : Single F b v y) where
    higher : b < a → (k : ℕ) → concat (map (F k) (down_from 8)) ≡ cond (eqb (kind u) k) (x ∷ []) [] ++ cond (eqb (kind v) k) (y ∷ []) []
    higher h k = two_down (F k) 8 a b lb h ua (rest k) ∙ rw (fa k, fb k)

    lower : a < b → (k : ℕ) → concat (map (F k) (down_from 8)) ≡ cond (eqb (kind v) k) (y ∷ []) [] ++ cond (eqb (kind u) k) (x ∷ []) []
    lower h k = two_down (F k) 8 b a la h ub (λ s l t p q. rest k s l t q p) ∙ rw (fa k, fb k)

  higher_first : (u v : Bool) → Single F a u x → Single F b v y → b < a → cond (eqb (kind u) (kind v)) true (eqb (kind u) 3) ≡ true
      → kinds_in_order ≡ x ∷ y ∷ []
  unfolding concat up_from
  higher_first true true fa fb h w = let e = higher true true fa fb h in rw (e 1, e 2, e 3, e 4)
  higher_first true false fa fb h w = let e = higher true false fa fb h in rw (e 1, e 2, e 3, e 4)
  higher_first false true fa fb h w = never w
  higher_first false false fa fb h w = let e = higher false false fa fb h in rw (e 1, e 2, e 3, e 4)

  lower_first : (u v : Bool) → Single F a u x → Single F b v y → a < b → cond (eqb (kind u) (kind v)) false (eqb (kind u) 3) ≡ true
      → kinds_in_order ≡ x ∷ y ∷ []
  unfolding concat up_from
  lower_first true true fa fb h w = never w
  lower_first true false fa fb h w = let e = lower true false fa fb h in rw (e 1, e 2, e 3, e 4)
  lower_first false true fa fb h w = never w
  lower_first false false fa fb h w = never w

  pub winner_first : (u v : Bool) → Single F a u x → Single F b v y → (a ≡ b → ⊥)
      → cond (eqb (kind u) (kind v)) (ltb b a) (eqb (kind u) 3) ≡ true → kinds_in_order ≡ x ∷ y ∷ []
  winner_first u v fa fb ne w = elim (dec_le a b) [
    | yes h ↦ lower_first u v fa fb (omega arith) (rw (le-ltb b a h) at w)
    | no h ↦ higher_first u v fa fb (omega arith) (let l : b < a = omega arith in rw (lt-ltb b a l) at w)
  ]
