-- `vectors::print::digest`: what its loop keeps.
use Rattle.std.proofs.Common.{◌<◌}
use Rattle.vectors.proofs.print.digest.Given as goal

abbrev pub invariant-loop-byte : goal.invariant-loop-byte
invariant-loop-byte l = l.h < 4294967291
