-- `bundle::bodies::write_along`: what its loop keeps.
use Rattle.rules.specs.File.{log_of, width}
use Rattle.bundle.proofs.BodyCases.{WrittenTo}
use Rattle.bundle.proofs.bodies.write_along.Given as goal

abbrev pub invariant-loop-entry : goal.invariant-loop-entry
invariant-loop-entry l = WrittenTo (log_of width l.file) l.counts l.entries l.initial.out l.out l.at l.entry-index
