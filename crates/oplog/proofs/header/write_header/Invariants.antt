-- `oplog::header::write_header`: what its loops keep.
use Rattle.oplog.proofs.HeaderLaws.{HeaderWritten}
use Rattle.oplog.proofs.header.write_header.Given as goal

abbrev pub invariant-loop-i : goal.invariant-loop-i
invariant-loop-i l = HeaderWritten l.width l.counts l.initial.buf l.buf l.start l.i
