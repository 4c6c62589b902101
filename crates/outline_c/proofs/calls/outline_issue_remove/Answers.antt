-- `outline_c::calls::outline_issue_remove` meets its contract.
use native.Mathlib.Omega.{arith}
use Rattle.outline_c.proofs.NumberCases.{issued_fits}
use Rattle.outline_c.proofs.calls.outline_issue_remove.Goals as goal

pub number-requires : goal.number-requires
number-requires c =
    let called = c.before.before.before in
    issued_fits _ _ _ _ _ _ _ called.before.issue_remove.ensures (omega arith)
