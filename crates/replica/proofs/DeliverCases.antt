-- The test 1 of delivering.
use mathlib.Core.Path.{◌≡◌}
use mathlib.Core.Bool.{false}
use mathlib.Core.List.{List}
use Prim.Native.Nat.{ℕ}
use borrow.Author.Rules.{rules}
use Rattle.rules.specs.Answer.{refused, require}
use Rattle.rules.specs.Deliver.{deliver, deliver_answer, deliver_buffer}
use Rattle.rules.specs.File.{width}
use Rattle.rules.specs.Sound.{sound}
use Rattle.lists.proofs.BoolLaws.{tested}

pub deliver_unsound : (f op : List ℕ) → sound width f ≡ false → record { answer = refused 1; buffer = f } ≡ deliver width f op
unfolding deliver_answer deliver_buffer require
deliver_unsound f op e = rw e

---- what the code of delivering needs: search delivering
pub ruleset delivering = (rules, tested, deliver_unsound)
