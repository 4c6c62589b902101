-- `outline::text` meets its contract.
use Rattle.outline.proofs.TextCases.{text_put}
use Rattle.outline.proofs.text.Goals as goal

pub returns : goal.returns
returns c = text_put _ _ _ c.requires _ _ c.outline-answer.ensures _ c.counted.ensures
