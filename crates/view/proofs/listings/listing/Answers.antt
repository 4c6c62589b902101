-- `view::listings::listing` meets its contract.
use Rattle.view.proofs.ListingCases.{listings}
use Rattle.view.proofs.listings.listing.Goals as goal

pub returns-then-not-is_sound : goal.returns-then-not-is_sound
returns-then-not-is_sound c = search listings

pub arrange_view-count-requires : goal.arrange_view-count-requires
arrange_view-count-requires c = search listings

pub returns : goal.returns
returns c = search listings
