-- `view::listings::put_lines` meets its contract.
use Rattle.view.proofs.ListingCases.{listings}
use Rattle.view.proofs.listings.put_lines.Goals as goal

pub returns-then-out-size : goal.returns-then-out-size
returns-then-out-size c = search listings

pub returns : goal.returns
returns c = search listings
