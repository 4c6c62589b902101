-- `view::listings::arrange_view` meets its contract.
use Rattle.view.proofs.ListingCases.{listings}
use Rattle.view.proofs.listings.arrange_view.Goals as goal

pub replay_all-requires : goal.replay_all-requires
replay_all-requires c = search listings

pub order_view-requires : goal.order_view-requires
order_view-requires c = search listings
