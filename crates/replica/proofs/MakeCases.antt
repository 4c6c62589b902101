-- The cases of making, as the code meets them.
use mathlib.Core.Path.{◌≡◌, ◌∙◌}
use mathlib.Core.List.{List, [], ◌++◌, append_assoc}
use Prim.Native.Nat.{ℕ, ◌≤◌, ◌<◌}
use lib.ListN.{length, replicate, drop}
use borrow.Author.Rules.{rules}
use borrow.Author.Tests.{le-leb, lt-leb}
use Rattle.rules.specs.Answer.{Answer, accepted, refused, require}
use Rattle.lists.specs.Lists.{concat}
use Rattle.rules.specs.Deliver.{Result, make, make_answer, make_buffer}
use Rattle.rules.specs.File.{width, counts_of, empty_log, file_of, header_of}

empty_file : (w : ℕ) (t : List ℕ) → header_of w (replicate 8 0) ++ t ≡ file_of w empty_log ++ t
unfolding file_of counts_of empty_log concat
empty_file w t = rw (append_assoc (header_of w (replicate 8 0)) [] t)

-- what a call hands back
abbrev handed : Answer → (buffer : List ℕ) → Result
handed a b = record { answer = a; buffer = b }

module _ (f : List ℕ) where
  pub made_short : length f < 32 → handed (refused 8) f ≡ make width f
  unfolding make_answer make_buffer require
  made_short h = rw (lt-leb 32 (length f) h)

  pub made_long : 32 ≤ length f → (b : List ℕ) → b ≡ header_of width (replicate 8 0) ++ drop 32 f → handed (accepted 32) b ≡ make width f
  unfolding make_answer make_buffer require
  made_long h b e = rw (le-leb 32 (length f) h, e ∙ empty_file width (drop 32 f))

---- what the code of making needs: search making
pub ruleset making = (rules, made_short, made_long)
