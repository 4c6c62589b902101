-- `vectors::print::digest_words`: what its loop keeps.
use Rattle.std.proofs.Common.{◌<◌}
use Rattle.vectors.proofs.print.digest_words.Given as goal

abbrev pub invariant-loop-word : goal.invariant-loop-word
invariant-loop-word l = l.h < 4294967291
