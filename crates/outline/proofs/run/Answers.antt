-- `outline::run` meets its contract.
use borrow.Author.Rules.{rules}
use Rattle.outline.proofs.TextCases.{text_printed}
use Rattle.outline.proofs.run.Goals as goal

pub print-requires : goal.print-requires
print-requires g c = text_printed _ _ _ _ (search rules) c.text-size.ensures.0
