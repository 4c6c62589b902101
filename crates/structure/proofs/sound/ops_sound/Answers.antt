-- `structure::sound::ops_sound` meets its contract.
use Rattle.structure.proofs.WalkLaws.{walking}
use Rattle.structure.proofs.sound.ops_sound.Goals as goal

pub loop-turn-init : goal.loop-turn-init
loop-turn-init c = search walking

pub returns-then-not-here_sound : goal.returns-then-not-here_sound
returns-then-not-here_sound c = search walking

pub loop-turn-smaller : goal.loop-turn-smaller
loop-turn-smaller c = search walking

pub loop-turn-preserved : goal.loop-turn-preserved
loop-turn-preserved c = search walking

pub returns : goal.returns
returns c = search walking
