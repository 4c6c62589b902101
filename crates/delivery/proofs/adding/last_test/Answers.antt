-- `delivery::adding::last_test` meets its contract.
use borrow.Author.Rules.{rules}
use Rattle.soundness.proofs.SoundCases.{end_asks}
use Rattle.delivery.proofs.adding.last_test.Goals as goal

pub end_of-end-requires : goal.end_of-end-requires
end_of-end-requires c = end_asks _ (search rules)
