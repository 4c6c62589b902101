-- `bundle_head::head::head_counts` meets its contract.
use Rattle.bundle_head.proofs.HeadCases.{heading, read_starts}
use native.Mathlib.Omega.{arith}
use Rattle.bundle_head.proofs.head.head_counts.Goals as goal

pub loop-bits-init : goal.loop-bits-init
loop-bits-init c = read_starts _ _ (search heading) (omega arith)

pub bounds-bundle-at : goal.bounds-bundle-at
bounds-bundle-at c = search heading

pub bounds-counts-next : goal.bounds-counts-next
bounds-counts-next c = search heading

pub loop-bits-preserved : goal.loop-bits-preserved
loop-bits-preserved c = search heading

pub returns : goal.returns
returns c = search heading
