-- The cases of putting a text or a path into lent memory, as the code meets them.
use Prim.Native.Nat.{◌<◌, ◌≤◌, ℕ}
use borrow.Author.Tests.{le-leb, lt-leb}
use lib.ListN.{length}
use mathlib.Core.List.{List}
use mathlib.Core.Path.{◌≡◌}
use Rattle.rules.specs.Answer.{accepted, refused, require}
use Rattle.rules.specs.Path.{Written}
use Rattle.view.specs.Answers.{put_answer, put_in}
use Rattle.view.specs.Tables.{put_front}

module _ (content out : List ℕ) (n : ℕ) (is : n ≡ length content) where
  pub put_short : length out < n → ◌≡◌ {A = Written} (record { answer = refused 8; out = out }) (put_in content out)
  unfolding put_in put_answer require
  put_short h = rw (← is, lt-leb n (length out) h)

  pub put_all :
      n ≤ length out → (o : List ℕ) → o ≡ put_front content out →
      ◌≡◌ {A = Written} (record { answer = accepted n; out = o }) (put_in content out)
  unfolding put_in put_answer put_front require
  put_all h o e = rw (← is, le-leb n (length out) h, e, ← is)
