-- `bundle_head::head::head_counts`: what its loops keep.
use Rattle.bundle_head.proofs.HeadCases.{ReadAt}
use Prim.Native.Nat.{◌-◌}
use Rattle.bundle_head.proofs.head.head_counts.Given as goal

abbrev pub invariant-loop-bits : goal.invariant-loop-bits
invariant-loop-bits l = ReadAt l.bundle l.counts l.bits l.index l.at

abbrev pub decreases-loop-bits : goal.decreases-loop-bits
decreases-loop-bits l = 8 - l.index
