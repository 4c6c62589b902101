-- `numbers::answer::page_number` meets its contract.
use Rattle.numbers.proofs.AnswerCases.{answer_fits}
use Rattle.numbers.proofs.answer.page_number.Goals as goal

pub number-requires : goal.number-requires
number-requires g c = answer_fits _ _ c.requires
