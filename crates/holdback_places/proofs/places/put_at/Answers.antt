-- `holdback_places::places::put_at` meets its contract.
use Rattle.std.proofs.Common.{◌≡◌, ◌+◌, ◌-◌, length, arith}
use Rattle.std.proofs.Math.Seq.{drop-drop}
use Rattle.holdback_places.specs.Places.{put_at}
use Rattle.holdback_places.proofs.places.put_at.Goals as goal

pub returns : goal.returns
unfolding put_at
returns c =
    let e : c.args.at + length c.args.op.now - c.args.at ≡ length c.args.op.now = omega arith in
    rw (c.copy_from_slice.ensures.after, e, drop-drop)
