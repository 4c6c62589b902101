-- `bundle_head::whole::none_zero` meets its contract.
use Rattle.std.proofs.Common.{rules, tests, ltb}
use Rattle.std.proofs.lemmas.Iterator.{YieldsList-from_slice}
use Rattle.lists.proofs.LibraryLaws.{all_gives}
use Rattle.bundle_head.proofs.whole.none_zero.Goals as goal

pub returns : goal.returns
returns c = all_gives (ltb 0) _ _ _ c.all.ensures.ran (YieldsList-from_slice _ cc) (λ x b q k. search (rules, tests))
