-- What the answers of a delivery with a holdback say.
use mathlib.Core.Path.{◌≡◌, refl, sym, ap}
use mathlib.Core.Bool.{Bool, true, false, cond, ◌||◌}
use mathlib.Core.List.{List}
use Prim.Native.Nat.{ℕ}
use native.Mathlib.Omega.{arith}
use lib.Dec.{eqb, ltb}
use Rattle.lists.proofs.BoolLaws.{never}
use Rattle.rules.specs.Answer.{Answer, refused, had_it, waiting, done, accepted, require, if_accepted}
use Rattle.rules.specs.Bytes.{byte}
use Rattle.rules.specs.Deliver.{deliver_answer, deliver_buffer}
use Rattle.rules.specs.File.{file_end}
use Rattle.rules.specs.Holdback.{places, holdback_ops, sound_holdback, waits, early_answer, released, answer_on, holdback_answer, holdback_after}
use Rattle.rules.specs.Sound.{sound}
use Rattle.rules.proofs.DeliverLaws.{accepted_same, deliver_sound, required}
use Rattle.rules.proofs.SearchLaws.{SearchAlike, search_alike, search_sound}
use Rattle.rules.proofs.TurnLaws.{OneLog, one_end, deliver_alike, delivered_alike}

---- what acceptance says

-- an early op is not accepted
pub early_kept : {A : Type 0} (w : ℕ) (r h : List ℕ) (new old : A) → if_accepted (early_answer w r h) new old ≡ old
unfolding early_answer require
early_kept w r h new old = go (waits w r h || ltb (byte h 0) places)
  where
    go : (b : Bool) → if_accepted (require b 13 waiting) new old ≡ old
    go true = refl
    go false = refl

early_not : (w : ℕ) (r h : List ℕ) (n : ℕ) → early_answer w r h ≡ accepted n → ⊥
early_not w r h n e = let z = rw e at (early_kept w r h true false) in never (sym z)

pub record Released (w : ℕ) (f r h : List ℕ) (n : ℕ) : Type 0 where
  pub is_sound_so : sound w f ≡ true
  pub is_holdback : sound_holdback w h ≡ true
  pub first : ℕ
  pub takes : deliver_answer w f r ≡ accepted first
  pub end : file_end w (released w f r h).buffer ≡ n

module _ (w : ℕ) (f r h : List ℕ) where
  pub accepted_says : (n : ℕ) → holdback_answer w f r h ≡ accepted n → Released w f r h n
  unfolding holdback_answer answer_on
  accepted_says n e =
      let a = required _ _ _ n e in
      let b = required _ _ _ n a.1 in
      go a.0 b.0 (deliver_answer w f r) refl b.1
    where
      go : sound w f ≡ true → sound_holdback w h ≡ true → (a : Answer) → deliver_answer w f r ≡ a → answer_on a w f r h ≡ accepted n
          → Released w f r h n
      go s t (refused m) q e = absurd (not_five (eqb m 5) e)
        where
          not_five : (b : Bool) → cond b (early_answer w r h) (refused m) ≡ accepted n → ⊥
          not_five true z = early_not w r h n z
          not_five false z = let z : ◌≡◌ {A = ℕ} 0 1 = cc in omega arith
      go s t had_it q e = let z : ◌≡◌ {A = ℕ} 0 1 = cc in absurd (omega arith)
      go s t waiting q e = let z : ◌≡◌ {A = ℕ} 0 1 = cc in absurd (omega arith)
      go s t done q e = let z : ◌≡◌ {A = ℕ} 0 1 = cc in absurd (omega arith)
      go s t (accepted m) q e = record { is_sound_so = s; is_holdback = t; first = m; takes = q; end = accepted_same _ n e }

  pub released_sound : sound w f ≡ true → sound w (released w f r h).buffer ≡ true
  unfolding released
  released_sound s = search_sound w (deliver_buffer w f r) (holdback_ops w h) (deliver_sound w f r s)

---- the log and the buffer's length settle it

module _ (w : ℕ) (f g : List ℕ) (o : OneLog w f g) (r h : List ℕ) where
  pub released_alike : SearchAlike w (released w f r h) (released w g r h)
  unfolding released
  released_alike = search_alike w (deliver_buffer w f r) (deliver_buffer w g r) (delivered_alike w f g o r) (holdback_ops w h)

  on_alike : (a : Answer) → answer_on a w f r h ≡ answer_on a w g r h
  unfolding answer_on
  on_alike (refused n) = refl
  on_alike had_it = refl
  on_alike waiting = refl
  on_alike done = refl
  on_alike (accepted n) =
      ap accepted (one_end w (released w f r h).buffer (released w g r h).buffer released_alike.one_log.log)

  pub answer_alike : holdback_answer w f r h ≡ holdback_answer w g r h
  unfolding holdback_answer
  answer_alike = rw (o.first, o.second, deliver_alike w f g o r, on_alike (deliver_answer w g r))

  pub after_alike : holdback_after w f r h ≡ holdback_after w g r h
  unfolding holdback_after
  after_alike = rw (answer_alike, released_alike.same_left)
