-- `bundle::opening::open_in` meets its contract.
use mathlib.Core.Path.{refl}
use Rattle.std.proofs.lemmas.Result.{err_from_is_err_and}
use Rattle.bundle.proofs.OpenCases.{open_refused, trial_ended, opening}
use Rattle.bundle.proofs.opening.open_in.Goals as goal

pub returns-in_err-end : goal.returns-in_err-end
returns-in_err-end c = let p = err_from_is_err_and c.from_residual.result c.from_residual.ensures.1 in rw (p.1, p.2)
    (open_refused _ _ _ _ (trial_ended _ _ _ c.requires _ _ c.in_err-end.ensures c.try_bodies-tried.auto.copy) refl)

pub returns : goal.returns
returns c = search (opening, c.in_ok-end.ensures)
