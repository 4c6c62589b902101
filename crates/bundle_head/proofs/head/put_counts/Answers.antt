-- `bundle_head::head::put_counts` meets its contract.
use Rattle.bundle_head.proofs.HeadCases.{heading}
use Rattle.bundle_head.proofs.head.put_counts.Goals as goal

pub bounds-counts-next : goal.bounds-counts-next
bounds-counts-next c = search heading

pub bounds-out-at : goal.bounds-out-at
bounds-out-at c = search heading

pub bits_above-bits-requires : goal.bits_above-bits-requires
bits_above-bits-requires c = search heading

pub loop-bits-smaller : goal.loop-bits-smaller
loop-bits-smaller c = search heading

pub loop-bits-preserved : goal.loop-bits-preserved
loop-bits-preserved c = search heading

pub returns : goal.returns
returns c = search heading
