-- `bundle::opening::take_bodies` meets its contract.
use Rattle.std.proofs.lemmas.Result.{err_from_is_err_and}
use Rattle.soundness.proofs.SoundCases.{end_asks}
use Rattle.bundle.proofs.OpenCases.{taking}
use Rattle.bundle.proofs.opening.take_bodies.Goals as goal

pub loop-body-init : goal.loop-body-init
loop-body-init c = search taking

pub take_body-requires : goal.take_body-requires
take_body-requires c = c.loop-body.invariant.is_sound_so

pub loop-body-preserved : goal.loop-body-preserved
loop-body-preserved c = search (taking, c.in_ok-take_body.ensures, c.in-Some.ensures)

pub returns-in_err-take_body : goal.returns-in_err-take_body
returns-in_err-take_body c = let p = err_from_is_err_and c.from_residual.result c.from_residual.ensures.1 in
    rw (p.1, p.2) (search (taking, c.in_err-take_body.ensures, c.in-Some.ensures))

pub end_of-requires : goal.end_of-requires
end_of-requires c = end_asks _ c.loop-body.invariant.is_sound_so

pub returns : goal.returns
returns c = search (taking, c.in-None.ensures)
