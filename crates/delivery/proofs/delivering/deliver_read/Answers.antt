-- `delivery::delivering::deliver_read` meets its contract.
use Rattle.soundness.proofs.SoundCases.{header_of}
use Rattle.delivery.proofs.DeliverCases.{acceptable}
use Rattle.delivery.proofs.delivering.deliver_read.Goals as goal

pub counts_of-counts-requires : goal.counts_of-counts-requires
counts_of-counts-requires c = header_of _ c.requires.is_sound_so

pub accept-requires : goal.accept-requires
accept-requires c = acceptable _ _ _ c.requires _ c.counts_of-counts.ensures _ c.in_ok-end.ensures
