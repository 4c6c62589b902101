-- `holdback_places::places::all_zero` meets its contract.
use Rattle.std.proofs.Common.{rules, tests, eqb}
use Rattle.std.proofs.lemmas.Iterator.{YieldsList-from_slice}
use Rattle.lists.proofs.LibraryLaws.{all_gives}
use Rattle.holdback_places.proofs.places.all_zero.Goals as goal

pub returns : goal.returns
returns c = all_gives (eqb 0) _ _ _ c.all.ensures.ran (YieldsList-from_slice _ cc) (λ x b q k. search (rules, tests))
