-- `vector::counts::within` meets its contract.
use native.Mathlib.Omega.{arith}
use Rattle.vector.proofs.VectorLaws.{spread_small, within_if_even, without_even}
use Rattle.vector.proofs.counts.within.Goals as goal

pub overflow_sub-odd : goal.overflow_sub-odd
overflow_sub-odd c = omega (arith, spread_small _ _ _ _ _ c.spread-4.ensures)

pub returns-then-all_marked : goal.returns-then-all_marked
returns-then-all_marked c =
    within_if_even _ _ _ _ _ _ c.spread.ensures c.spread-2.ensures c.spread-3.ensures c.spread-4.ensures _ c.all_marked.ensures
    c.if-all_marked.true _ c.all_marked-then-all_marked.ensures

pub returns-else-all_marked : goal.returns-else-all_marked
returns-else-all_marked c =
    without_even _ _ _ _ _ _ c.spread.ensures c.spread-2.ensures c.spread-3.ensures c.spread-4.ensures _ c.all_marked.ensures
    c.if-all_marked.false
