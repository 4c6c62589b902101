-- `printing::refuse` meets its contract.
use Rattle.rules.specs.Listing.{refused_line}
use Rattle.printing.proofs.OutlineCases.{printing, refuse_put}
use Rattle.printing.proofs.refuse.Goals as goal

pub returns-then-out-lt10 : goal.returns-then-out-lt10
returns-then-out-lt10 c = search printing

pub returns : goal.returns
unfolding refused_line
returns c = refuse_put _ c.if-out-lt10.false _ c.copy_from_slice.ensures.after
