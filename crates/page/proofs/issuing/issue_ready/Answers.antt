-- `page::issuing::issue_ready` meets its contract.
use mathlib.Core.Path.{refl}
use Rattle.std.proofs.lemmas.Result.{err_from_is_err_and}
use Rattle.page.proofs.CallCases.{issue_kept, issue_renewed, issue_renews}
use Rattle.page.proofs.issuing.issue_ready.Goals as goal

pub returns-in_err-answer : goal.returns-in_err-answer
returns-in_err-answer c =
    let p = err_from_is_err_and c.from_residual.result c.from_residual.ensures.1 in
    rw (p.1, p.2) (issue_kept _ _ _ _ _ _ _ c.requires _ _ _ c.in_err-answer.ensures refl)

pub renew-taken-requires : goal.renew-taken-requires
renew-taken-requires c = issue_renews _ _ _ _ _ _ _ c.requires _ _ _ c.in_ok-answer.ensures refl _ c.counts_of-old.ensures

pub returns : goal.returns
returns c =
    issue_renewed _ _ _ _ _ _ _ c.requires _ _ _ c.in_ok-answer.ensures refl _ c.counts_of-old.ensures _ c.renew-taken.ensures.0 _
    c.renew-taken.ensures.1
