-- `bundle::making::write_bundle` meets its contract.
use Rattle.bundle.proofs.MakeCases.{making}
use Rattle.bundle.proofs.making.write_bundle.Goals as goal

pub slice_bounds-write_bodies-count : goal.slice_bounds-write_bodies-count
slice_bounds-write_bodies-count c = search making

pub slice_bounds-write_bodies-start : goal.slice_bounds-write_bodies-start
slice_bounds-write_bodies-start c = search making
