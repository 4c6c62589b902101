-- `page::delivering::deliver_ready` meets its contract.
use mathlib.Core.Path.{refl}
use Rattle.std.proofs.lemmas.Result.{err_from_is_err_and}
use Rattle.lists.proofs.BoolLaws.{is_not_so, is_so}
use Rattle.page.proofs.CallCases.{deliver_kept, deliver_renewed, deliver_renews}
use Rattle.page.proofs.delivering.deliver_ready.Goals as goal

pub returns-in_err-answer : goal.returns-in_err-answer
returns-in_err-answer c =
    let p = err_from_is_err_and c.from_residual.result c.from_residual.ensures.1 in
    rw (p.1, p.2) (deliver_kept _ _ _ _ _ c.requires _ _ c.in_err-answer.ensures refl)

pub returns-then-not-is_accepted : goal.returns-then-not-is_accepted
returns-then-not-is_accepted c =
    deliver_kept _ _ _ _ _ c.requires _ _ c.in_ok-answer.ensures (is_not_so c.is_accepted.ensures c.if-not-is_accepted.true)

pub renew-taken-requires : goal.renew-taken-requires
renew-taken-requires c =
    deliver_renews _ _ _ _ _ c.requires _ _ c.in_ok-answer.ensures (is_so c.is_accepted.ensures c.if-not-is_accepted.false) _
    c.counts_of-old.ensures

pub returns : goal.returns
returns c =
    deliver_renewed _ _ _ _ _ c.requires _ _ c.in_ok-answer.ensures (is_so c.is_accepted.ensures c.if-not-is_accepted.false) _
    c.counts_of-old.ensures _ c.renew-taken.ensures.0 _ c.renew-taken.ensures.1
