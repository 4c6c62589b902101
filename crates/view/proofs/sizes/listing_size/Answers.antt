-- `view::sizes::listing_size` meets its contract.
use Rattle.view.proofs.SizeCases.{sizing}
use Rattle.view.proofs.sizes.listing_size.Goals as goal

pub returns-then-not-is_sound : goal.returns-then-not-is_sound
returns-then-not-is_sound c = search sizing

pub arrange_view-count-requires : goal.arrange_view-count-requires
arrange_view-count-requires c = search sizing

pub returns : goal.returns
returns c = search sizing
