-- The tests 2 and 3 of issuing.
use mathlib.Core.Path.{◌≡◌}
use mathlib.Core.Bool.{true, false}
use mathlib.Core.List.{List}
use Prim.Native.Nat.{ℕ, ◌≤◌, ◌<◌}
use lib.ListN.{length}
use borrow.Author.Rules.{rules}
use borrow.Author.Tests.{lt-leb, le-leb}
use Rattle.rules.specs.Answer.{refused, require}
use Rattle.rules.specs.Issue.{Request, issue_answer, issue_buffer, issue_out}
use Rattle.rules.specs.File.{width}
use Rattle.rules.specs.Op.{is_replica}
use Rattle.rules.specs.Sound.{sound}
use Rattle.lists.proofs.BoolLaws.{tested}
use Rattle.issue.specs.Issuing.{Lent}
use Rattle.issue.proofs.IssueCases.{handed}
use Rattle.rules.specs.Issue as rules

module _ (f out : List ℕ) (s : ℕ) (q : Request) (a : sound width f ≡ true) where
  pub issue_short : length out < width → handed (refused 2) f out ≡ rules.issue width f out s q
  unfolding issue_answer issue_buffer issue_out require
  issue_short h = rw (a, lt-leb width (length out) h)

  pub no_replica : width ≤ length out → is_replica s ≡ false → handed (refused 3) f out ≡ rules.issue width f out s q
  unfolding issue_answer issue_buffer issue_out require
  no_replica b e = rw (a, le-leb width (length out) b, e)

pub lent : (f : List ℕ) (room s : ℕ) → sound width f ≡ true → width ≤ room → is_replica s ≡ true → Lent f room s
lent f room s a b e = record { issuer = record { is_sound_so = a; is_replica_so = e }; space = b }

---- what the code of the first tests needs: search opening

pub ruleset opening = (rules, tested, lent, issue_short, no_replica)
