-- `batch::putting::issue_some` meets its contract.
use borrow.Author.Rules.{rules}
use mathlib.Core.Path.{refl}
use Rattle.batch.proofs.PutCases.{all_issued, puttable}
use Rattle.batch.proofs.putting.issue_some.Goals as goal

pub put_all-requires : goal.put_all-requires
put_all-requires c =
    puttable _ _ _ c.args.ops.now _ (search rules) _ _ _ c.in_ok-end.ensures refl (search rules) _ refl

pub returns : goal.returns
returns c = all_issued _ _ _ c.args.ops.now _ (search rules) _ _ _ c.in_ok-end.ensures refl _ refl _ _ c.put_all.ensures
