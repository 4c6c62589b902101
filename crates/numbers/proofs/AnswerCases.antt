-- The numbers of answers, as the code meets them.
use Prim.Native.Nat.{ℕ, ◌+◌, ◌*◌, ◌≤◌, ◌<◌}
use borrow.Author.Rules.{rules}
use mathlib.Core.Path.{◌≡◌, refl}
use native.Mathlib.Omega.{arith}
use Rattle.codec.specs.Answers.{number_of}
use Rattle.codec.specs.declared.answer.Refusal.{Refusal}
use Rattle.rules.specs.Answer.{Answer, refused, had_it, waiting, done, accepted}
use Rattle.numbers.specs.Fits.{PageFits, fits}
use Rattle.numbers.specs.Number.{number, page_number}

---- the number of an answer

pub refused_number : (why : Refusal) → number_of why ≡ number (refused (number_of why))
unfolding number
refused_number why = refl

pub had_it_number : 128 ≡ number had_it
unfolding number
had_it_number = refl

pub waiting_number : 130 ≡ number waiting
unfolding number
waiting_number = refl

pub done_number : 129 ≡ number done
unfolding number
done_number = refl

pub accepted_number : (n : ℕ) → 256 + n ≡ number (accepted n)
unfolding number
accepted_number n = refl

pub accepted_fits : (n : ℕ) → fits (accepted n) → n ≤ 9223372036854775807
unfolding fits
accepted_fits n h = h

---- with the ops that were taken back

module _ (a : Answer) (t : ℕ) (x : PageFits a t) where
  pub answer_fits : fits a
  unfolding fits number
  answer_fits = go a x.low
    where
      go : (a : Answer) → number a < 65536 → fits a
      go (refused n) h = tt
      go had_it h = tt
      go waiting h = tt
      go done h = tt
      go (accepted n) h = omega arith

  pub page_sum : (n : ℕ) → n ≡ number a → n + 65536 * t ≡ page_number a t
  unfolding page_number
  page_sum n is = rw is

---- what the code of answers needs: search answering

pub ruleset answers = (refused_number, had_it_number, waiting_number, done_number, accepted_number, accepted_fits)

pub ruleset answering = (rules, answers, answer_fits, page_sum)
