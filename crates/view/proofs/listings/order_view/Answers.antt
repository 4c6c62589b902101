-- `view::listings::order_view` meets its contract.
use Rattle.view.proofs.ListingCases.{listings}
use Rattle.view.proofs.listings.order_view.Goals as goal

pub returns : goal.returns
returns c = search listings
