-- The cases of judging, as the code meets them.
use mathlib.Core.Path.{◌≡◌}
use mathlib.Core.Bool.{true, false}
use mathlib.Core.List.{List, ◌++◌}
use Prim.Native.Nat.{ℕ, ◌≤◌, ◌<◌}
use lib.ListN.{length, drop}
use borrow.Author.Rules.{rules}
use borrow.Author.Tests.{le-leb, lt-leb}
use Rattle.rules.specs.Answer.{Answer, done, refused, require}
use Rattle.rules.specs.Judge.{Judgement, judge_answer, judge}
use Rattle.rules.specs.File.{width, log_of}
use Rattle.rules.specs.Replay.{parents_of, outcomes_of}
use Rattle.rules.specs.Sound.{sound}
use Rattle.rules.specs.Tree.{slots}
use Rattle.lists.proofs.BoolLaws.{tested}
use Rattle.rules.proofs.SoundLaws.{sound_structural}

-- what a call hands back
abbrev handed : Answer → (parents outcomes : List ℕ) → Judgement
handed a p o = record { answer = a; parents = p; outcomes = o }

module _ (f p o : List ℕ) where
  pub judge_unsound : sound width f ≡ false → handed (refused 1) p o ≡ judge width f p o
  unfolding judge judge_answer require
  judge_unsound e = rw e

  module _ (a : sound width f ≡ true) where
    pub judge_parents : length p < slots → handed (refused 2) p o ≡ judge width f p o
    unfolding judge judge_answer require
    judge_parents h = rw (a, lt-leb slots (length p) h)

    module _ (l : slots ≤ length p) where
      pub judge_outcomes : length o < slots → handed (refused 2) p o ≡ judge width f p o
      unfolding judge judge_answer require
      judge_outcomes h = rw (a, le-leb slots (length p) l, lt-leb slots (length o) h)

      pub judge_done :
          slots ≤ length o → (x y : List ℕ) → (x ≡ parents_of (log_of width f)) × (y ≡ outcomes_of (log_of width f)) →
          handed done (x ++ drop slots p) (y ++ drop slots o) ≡ judge width f p o
      unfolding judge judge_answer require
      judge_done h x y i = rw (a, le-leb slots (length p) l, le-leb slots (length o) h, i.0, i.1)

---- what the code of judging needs: search judging
pub ruleset judging = (rules, tested, sound_structural, judge_unsound, judge_parents, judge_outcomes, judge_done)
