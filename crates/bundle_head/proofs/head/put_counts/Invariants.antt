-- `bundle_head::head::put_counts`: what its loops keep.
use Rattle.bundle_head.proofs.HeadCases.{PutAt}
use Prim.Native.Nat.{◌-◌}
use Rattle.bundle_head.proofs.head.put_counts.Given as goal

abbrev pub invariant-loop-bits : goal.invariant-loop-bits
invariant-loop-bits l = PutAt l.counts l.initial.out l.out l.bits l.index l.at

abbrev pub decreases-loop-bits : goal.decreases-loop-bits
decreases-loop-bits l = 8 - l.index
