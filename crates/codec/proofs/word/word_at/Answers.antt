-- `codec::word::word_at` meets its contract.
use Rattle.rules.specs.Bytes.{word_at}
use Rattle.codec.proofs.word.word_at.Goals as goal

pub returns : goal.returns
unfolding word_at
returns c = c.from_be_bytes.ensures
