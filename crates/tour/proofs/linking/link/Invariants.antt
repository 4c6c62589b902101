-- `tour::linking::link`: what its loops keep.
use Rattle.std.proofs.Common.{◌-◌}
use Rattle.rules.specs.Tree.{slots}
use Rattle.tour.proofs.LinkingCases.{LinkingFrom}
use Rattle.tour.proofs.linking.link.Given as goal

abbrev pub invariant-loop-i : goal.invariant-loop-i
invariant-loop-i l = LinkingFrom l.parents l.hidden l.initial.first l.initial.next l.first l.next l.i

abbrev pub decreases-loop-i : goal.decreases-loop-i
decreases-loop-i l = slots - 1 - l.i
