-- `bundle::opening::take_body` meets its contract.
use Rattle.soundness.proofs.SoundCases.{end_asks}
use Rattle.std.proofs.lemmas.Result.{err_from_is_err_and}
use Rattle.bundle.proofs.OpenCases.{body_passed, body_sound, opening}
use Rattle.bundle.proofs.opening.take_body.Goals as goal

pub returns-in_err-deliver_next : goal.returns-in_err-deliver_next
returns-in_err-deliver_next c =
    let p = err_from_is_err_and c.from_residual.result c.from_residual.ensures.1 in
    rw (p.1, p.2) (search (opening, c.in_err-deliver_next.ensures))

pub end_of-requires : goal.end_of-requires
end_of-requires c = end_asks _ (body_sound _ _ _ _ c.deliver_next.ensures c.requires)

pub returns : goal.returns
returns c = body_passed _ _ _ _ c.in_ok-deliver_next.ensures _ c.end_of.ensures
