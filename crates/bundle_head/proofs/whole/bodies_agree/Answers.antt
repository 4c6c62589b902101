-- `bundle_head::whole::bodies_agree` meets its contract.
use Rattle.std.proofs.Common.{rules, tests, refl}
use Rattle.std.proofs.lemmas.Iterator.{YieldsList-from_range}
use Rattle.lists.specs.Lists.{up_from}
use Rattle.lists.proofs.LibraryLaws.{all_gives}
use Rattle.rules.specs.File.{chunks, width}
use Rattle.rules.specs.Op.{replicas}
use Rattle.bundle_head.specs.Head.{agrees, agrees_at}
use Rattle.bundle_head.proofs.whole.bodies_agree.Goals as goal

pub returns : goal.returns
unfolding agrees replicas up_from
returns c =
    all_gives (agrees_at (chunks width c.args.n c.args.bodies.now) c.args.counts) _ _ c.all.result c.all.ensures.ran
    (YieldsList-from_range 1 9 8 refl refl) (λ x b q k. search (rules, tests))
