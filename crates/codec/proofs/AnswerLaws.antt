-- What a call leaves behind, by whether it was accepted.
use mathlib.Core.Path.{◌≡◌, refl, sym}
use mathlib.Core.Bool.{true, false}
use Prim.Native.Nat.{ℕ}
use Rattle.rules.specs.Answer.{Answer, refused, had_it, waiting, done, accepted, if_accepted}
use Rattle.lists.proofs.BoolLaws.{never}
use Rattle.codec.specs.Asked.{is_accepted}

module _ {A : Type 0} (new old : A) where
  pub if_accepted_law : (a : Answer) → is_accepted a ≡ true → if_accepted a new old ≡ new
  if_accepted_law (refused n) e = never e
  if_accepted_law had_it e = never e
  if_accepted_law waiting e = never e
  if_accepted_law done e = never e
  if_accepted_law (accepted n) e = refl

  pub if_not_accepted : (a : Answer) → is_accepted a ≡ false → if_accepted a new old ≡ old
  if_not_accepted (refused n) e = refl
  if_not_accepted had_it e = refl
  if_not_accepted waiting e = refl
  if_not_accepted done e = refl
  if_not_accepted (accepted n) e = never (sym e)

pub accepted_with : (a : Answer) → is_accepted a ≡ true → (n : ℕ) × (a ≡ accepted n)
accepted_with (refused n) e = never e
accepted_with had_it e = never e
accepted_with waiting e = never e
accepted_with done e = never e
accepted_with (accepted n) e = (n, refl)
