-- `outline_c::batches::outline_issue_moves` meets its contract.
use native.Mathlib.Omega.{arith}
use Rattle.outline_c.proofs.NumberCases.{batched_fits}
use Rattle.outline_c.proofs.batches.outline_issue_moves.Goals as goal

pub number-requires : goal.number-requires
number-requires c =
    let called = c.before.before.before in
    batched_fits _ _ _ _ _ _ _ _ called.before.issue_moves.ensures (omega arith)
