-- `oplog::header::header_right`: what its loops keep.
use Rattle.oplog.proofs.HeaderLaws.{EntriesRight}
use Rattle.oplog.proofs.header.header_right.Given as goal

abbrev pub invariant-loop-i : goal.invariant-loop-i
invariant-loop-i l = EntriesRight l.width l.file l.start l.i
