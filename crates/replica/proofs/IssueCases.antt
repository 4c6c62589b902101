-- The test 1 of issuing.
use mathlib.Core.Path.{◌≡◌}
use mathlib.Core.Bool.{false}
use mathlib.Core.List.{List}
use Prim.Native.Nat.{ℕ}
use borrow.Author.Rules.{rules}
use Rattle.rules.specs.Answer.{refused, require}
use Rattle.rules.specs.Issue.{Request, issue_answer, issue_buffer, issue_out}
use Rattle.rules.specs.File.{width}
use Rattle.rules.specs.Sound.{sound}
use Rattle.lists.proofs.BoolLaws.{tested}
use Rattle.rules.specs.Issue as rules

pub issue_unsound : (f out : List ℕ) (s : ℕ) (q : Request) → sound width f ≡ false
    → record { answer = refused 1; buffer = f; out = out } ≡ rules.issue width f out s q
unfolding issue_answer issue_buffer issue_out require
issue_unsound f out s q e = rw e

---- what the code of issuing needs: search issuing
pub ruleset issuing = (rules, tested, issue_unsound)
