-- Laws of truth values.
use mathlib.Core.Bool.{Bool, ◌&&◌, ◌||◌, false, not, true}
use mathlib.Core.Path.{◌≡◌, refl, sym, ◌∙◌}
use borrow.Author.Tests.{not-true, not-false}
use mathlib.Core.Logic.{◌⊎◌, inl, inr}
use native.Mathlib.Omega.{arith}
use Prim.Native.Nat.{ℕ}

pub never : {A : Type 0} → ◌≡◌ {A = Bool} false true → A
never e = let z : ◌≡◌ {A = ℕ} 0 1 = cc in absurd (omega arith)

pub and_left : (a b : Bool) → (a && b) ≡ true → a ≡ true
and_left true b e = refl
and_left false b e = never e

pub and_right : (a b : Bool) → (a && b) ≡ true → b ≡ true
and_right true b e = e
and_right false b e = never e

pub and_both : {a b : Bool} → a ≡ true → b ≡ true → (a && b) ≡ true
and_both p q = rw (p, q)

-- the second test only counts where the first leaves it to
pub and_under : (a b c : Bool) → (a ≡ true → b ≡ c) → (a && b) ≡ (a && c)
and_under true b c h = h refl
and_under false b c h = refl

pub or_under : (a b c : Bool) → (a ≡ false → b ≡ c) → (a || b) ≡ (a || c)
or_under true b c h = refl
or_under false b c h = h refl

pub or_again : (a b : Bool) → (a || (a || b)) ≡ (a || b)
or_again true b = refl
or_again false b = refl

pub or_then : (a b c : Bool) → (b ≡ true → c ≡ true) → (a || b) ≡ true → (a || c) ≡ true
or_then true b c h e = refl
or_then false b c h e = h e

pub and_true : (a : Bool) → (a && true) ≡ a
and_true true = refl
and_true false = refl

pub and_false : (a : Bool) → (a && false) ≡ false
and_false true = refl
and_false false = refl

pub or_cases : (a b : Bool) → (a || b) ≡ true → (a ≡ true) ⊎ (b ≡ true)
or_cases true b e = inl refl
or_cases false b e = inr e

pub fails : (a : Bool) → (a ≡ true → ⊥) → a ≡ false
fails true h = absurd (h refl)
fails false h = refl

-- two tests that pass alike
pub both_ways : (a b : Bool) → (a ≡ true → b ≡ true) → (b ≡ true → a ≡ true) → a ≡ b
both_ways true b f g = sym (f refl)
both_ways false true f g = g refl
both_ways false false f g = refl

pub and_swap : (a b : Bool) → (a && b) ≡ (b && a)
and_swap true true = refl
and_swap true false = refl
and_swap false true = refl
and_swap false false = refl

pub and_turn : (h i z : Bool) → (h && (i && z)) ≡ ((h && z) && i)
and_turn false i z = refl
and_turn true i z = and_swap i z

pub and_regroup : (a b c d : Bool) → (a && b && c && d) ≡ ((b && c) && (a && d))
and_regroup true true true d = refl
and_regroup true true false d = refl
and_regroup true false c d = refl
and_regroup false b c d = sym (and_false (b && c))

pub not_not : (b : Bool) → not (not b) ≡ b
not_not true = refl
not_not false = refl

pub under_and : (a b : Bool) → (b ≡ true → a ≡ true) → b ≡ (a && b)
under_and true b h = refl
under_and false true h = sym (h refl)
under_and false false h = refl

---- r, which the code tests, is what b defines

module _ {r b : Bool} (e : r ≡ b) where
  pub is_so : r ≡ true → b ≡ true
  is_so h = sym e ∙ h

  pub is_not_so : r ≡ false → b ≡ false
  is_not_so h = sym e ∙ h

  pub so_by_not : not r ≡ false → b ≡ true
  so_by_not h = sym e ∙ not-false _ h

  pub not_so_by_not : not r ≡ true → b ≡ false
  not_so_by_not h = sym e ∙ not-true _ h

pub ruleset tested = (is_so, is_not_so, so_by_not, not_so_by_not)
