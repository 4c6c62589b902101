-- `printing::outline` meets its contract.
use Rattle.soundness.proofs.SoundCases.{end_asks}
use Rattle.printing.proofs.OutlineCases.{printing}
use Rattle.printing.proofs.outline.Goals as goal

pub returns-then-input-eq0 : goal.returns-then-input-eq0
returns-then-input-eq0 c = search printing

pub returns-then-not-is_sound : goal.returns-then-not-is_sound
returns-then-not-is_sound c = search printing

pub end_of-requires : goal.end_of-requires
end_of-requires c = end_asks _ (search printing)

pub returns-then-end_of-input : goal.returns-then-end_of-input
returns-then-end_of-input c = search printing

pub returns : goal.returns
returns c = search printing
