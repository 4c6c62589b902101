-- `structure::closed::changes_closed` meets its contract.
use Rattle.std.proofs.Common.{refl, rules}
use borrow.Author.Tests.{tests}
use Rattle.std.proofs.lemmas.Iterator.{YieldsList-from_range}
use Rattle.lists.specs.Lists.{up_from}
use Rattle.lists.proofs.LibraryLaws.{all_gives}
use Rattle.rules.specs.File.{log_of}
use Rattle.rules.specs.Op.{replicas}
use Rattle.structure.specs.Tests.{change_closed, changes_closed}
use Rattle.structure.proofs.closed.changes_closed.Goals as goal

pub returns : goal.returns
unfolding changes_closed replicas up_from
returns c =
    let a = c.args in
    all_gives (change_closed (log_of a.width a.file.now) a.before a.v a.own) _ _ c.all.result c.all.ensures.ran
    (YieldsList-from_range 1 9 8 refl refl) (λ x b q k. search (rules, tests))
