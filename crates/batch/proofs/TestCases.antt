-- The tests 1, 2 and 3 of a batch, as the code meets them.
use mathlib.Core.Path.{◌≡◌}
use mathlib.Core.Bool.{true, false}
use mathlib.Core.List.{List}
use Prim.Native.Nat.{ℕ, ◌*◌, ◌≤◌, ◌<◌}
use lib.Dec.{leb}
use lib.ListN.{length}
use borrow.Author.Rules.{rules}
use borrow.Author.Tests.{le-leb, leb-true, lt-leb}
use Rattle.lists.proofs.BoolLaws.{and_left, and_right, tested}
use Rattle.rules.specs.Answer.{refused, require}
use Rattle.rules.specs.File.{width}
use Rattle.rules.specs.Op.{is_replica}
use Rattle.rules.specs.Sound.{sound}
use Rattle.issue.proofs.IssueCases.{handed}
use Rattle.batch_rules.specs.Batch.{batch_answer, batch_buffer, batch_fits, batch_out, most_moves}
use Rattle.batch_rules.specs.Claims.{Tested}
use Rattle.batch_rules.specs.Batch as rules

module _ (n room : ℕ) where
  pub too_many : 16 < n → false ≡ batch_fits width n room
  unfolding batch_fits
  too_many h = rw (lt-leb n most_moves h)

  pub few_enough : n ≤ 16 → leb (width * n) room ≡ batch_fits width n room
  unfolding batch_fits
  few_enough h = rw (le-leb n most_moves h)

module _ (f out : List ℕ) (s : ℕ) (ns : List ℕ) (p : ℕ) where
  pub batch_unsound : sound width f ≡ false → handed (refused 1) f out ≡ rules.issue_moves width f out s ns p
  unfolding batch_answer batch_buffer batch_out require
  batch_unsound a = rw a

  module _ (a : sound width f ≡ true) where
    pub batch_short : batch_fits width (length ns) (length out) ≡ false
        → handed (refused 2) f out ≡ rules.issue_moves width f out s ns p
    unfolding batch_answer batch_buffer batch_out require
    batch_short b = rw (a, b)

    pub batch_no_replica : batch_fits width (length ns) (length out) ≡ true → is_replica s ≡ false
        → handed (refused 3) f out ≡ rules.issue_moves width f out s ns p
    unfolding batch_answer batch_buffer batch_out require
    batch_no_replica b c = rw (a, b, c)

pub batch_tested : (f : List ℕ) (room s : ℕ) (ns : List ℕ) → sound width f ≡ true → batch_fits width (length ns) room ≡ true
    → is_replica s ≡ true → Tested f room s ns
unfolding batch_fits
batch_tested f room s ns a b c = record {
  is_sound_so = a;
  few = leb-true _ _ (and_left (leb (length ns) most_moves) _ b);
  space = leb-true _ _ (and_right (leb (length ns) most_moves) _ b);
  is_replica_so = c;
}

---- what the code of the tests needs: search fitting, search testing
pub ruleset fitting = (rules, too_many, few_enough)

pub ruleset testing = (rules, tested, fitting, batch_unsound, batch_short, batch_no_replica, batch_tested)
