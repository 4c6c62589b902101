-- `bundle::opening::take_bodies`: what its loop keeps.
use Rattle.bundle.proofs.OpenCases.{TakenTo}
use Rattle.bundle.proofs.opening.take_bodies.Given as goal

abbrev pub invariant-loop-body : goal.invariant-loop-body
invariant-loop-body l = TakenTo l.initial.buf l.bodies l.buf l.body-iterator.rest.now l.body-iterator.size
