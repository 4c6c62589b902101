-- `bundle::bodies::write_along` meets its contract.
use Rattle.bundle.proofs.BodyCases.{along_on}
use Rattle.bundle.proofs.bodies.write_along.Goals as goal

pub loop-entry-preserved : goal.loop-entry-preserved
loop-entry-preserved c = along_on _ _ _ _ c.requires _ _ _ c.loop-entry.invariant _ c.loop-entry-test.true _ _ c.write_body-at.ensures
