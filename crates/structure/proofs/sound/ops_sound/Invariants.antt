-- `structure::sound::ops_sound`: what its loops keep.
use Rattle.oplog.proofs.MarkerLaws.{togo}
use Rattle.structure.proofs.WalkLaws.{Walked}
use Rattle.structure.proofs.sound.ops_sound.Given as goal

abbrev pub invariant-loop-turn : goal.invariant-loop-turn
invariant-loop-turn l = Walked l.width l.file l.turn.marker l.turn.at l.turn.before

abbrev pub decreases-loop-turn : goal.decreases-loop-turn
decreases-loop-turn l = togo l.turn.marker
