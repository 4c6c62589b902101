-- `bundle::bodies::write_bodies` meets its contract.
use Rattle.std.proofs.Common.{◌∙◌}
use Rattle.bundle.proofs.BodyCases.{along_asks, bodies_written, bodying, order_asks}
use Rattle.soundness.proofs.SoundCases.{header_of}
use Rattle.bundle.proofs.bodies.write_bodies.Goals as goal

pub counts_of-held-requires : goal.counts_of-held-requires
counts_of-held-requires c = header_of _ (search bodying)

pub write_order-requires : goal.write_order-requires
write_order-requires c = order_asks _ _ _ c.requires _ c.counts_of-held.ensures

pub write_along-requires : goal.write_along-requires
write_along-requires c =
    along_asks _ _ _ c.requires _ c.counts_of-held.ensures _ (c.entries.ensures ∙ c.write_order.ensures)

pub returns : goal.returns
returns c =
    bodies_written _ _ _ c.requires _ c.counts_of-held.ensures _ (c.entries.ensures ∙ c.write_order.ensures) _
    c.write_along.ensures
