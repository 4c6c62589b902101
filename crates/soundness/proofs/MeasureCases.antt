-- The cases of the end and of the counts, as the code meets them.
use Rattle.soundness.proofs.SoundCases.{end_asks, header_of}
use Prim.Native.Nat.{◌<◌, ◌≤◌, ℕ}
use borrow.Author.Rules.{rules}
use borrow.Author.Tests.{le-leb, lt-leb}
use lib.ListN.{drop, length}
use mathlib.Core.Bool.{false, true}
use mathlib.Core.List.{◌++◌, List}
use mathlib.Core.Path.{◌≡◌}
use Rattle.lists.proofs.BoolLaws.{tested}
use Rattle.oplog.proofs.HeaderLaws.{end_is}
use Rattle.rules.proofs.FileLaws.{counts_log_of, length_counts}
use Rattle.rules.specs.Answer.{Answer, accepted, refused, require}
use Rattle.rules.specs.File.{header_counts, start_of, width}
use Rattle.rules.specs.Measure.{counts_answer, counts_call, end_answer}
use Rattle.rules.specs.Op.{Vector}
use Rattle.rules.specs.Path.{Written}
use Rattle.rules.specs.Sound.{sound}

-- what a call hands back
abbrev handed : Answer → (out : List ℕ) → Written
handed a o = record { answer = a; out = o }

module _ (f : List ℕ) where
  pub end_unsound : sound width f ≡ false → refused 1 ≡ end_answer width f
  unfolding end_answer require
  end_unsound e = rw e

  pub end_sound : sound width f ≡ true → (n : ℕ) → n ≡ start_of width (header_counts f) 9 → accepted n ≡ end_answer width f
  unfolding end_answer require
  end_sound a n is = rw (a, is, end_is width f)

  module _ (out : List ℕ) where
    pub counts_unsound : sound width f ≡ false → handed (refused 1) out ≡ counts_call width f out
    unfolding counts_call counts_answer require
    counts_unsound e = rw e

    module _ (a : sound width f ≡ true) where
      pub counts_short : length out < 8 → handed (refused 8) out ≡ counts_call width f out
      unfolding counts_call counts_answer require
      counts_short h = rw (a, lt-leb 8 (length out) h)

      pub counts_put :
          8 ≤ length out → (v : Vector) → v ≡ header_counts f → (o : List ℕ) → o ≡ v ++ drop (length v) out →
          handed (accepted 8) o ≡ counts_call width f out
      unfolding counts_call counts_answer require
      counts_put h v is o e =
          let eight : length v ≡ 8 = rw is (length_counts f) in
          rw (a, le-leb 8 (length out) h, counts_log_of width f, e, eight, is)

---- what the code of the end and the counts needs: search measuring
pub ruleset measuring = (rules, tested, end_asks, header_of, end_unsound, end_sound, counts_unsound, counts_short, counts_put)
