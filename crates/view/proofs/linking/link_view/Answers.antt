-- `view::linking::link_view` meets its contract.
use Rattle.view.proofs.LinkingCases.{linking}
use Rattle.view.proofs.linking.link_view.Goals as goal

pub returns-in-Skipping : goal.returns-in-Skipping
returns-in-Skipping c = search linking

pub returns-in-Keeping : goal.returns-in-Keeping
returns-in-Keeping c = search linking
