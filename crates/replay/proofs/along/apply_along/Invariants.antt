-- `replay::along::apply_along`: what its loop keeps.
use Rattle.std.proofs.Common.{◌≡◌, take}
use Rattle.rules.specs.File.{log_of}
use Rattle.effect.specs.Effects.{state_of}
use Rattle.replay.specs.Tables.{applied_along}
use Rattle.replay.proofs.along.apply_along.Given as goal

abbrev pub invariant-loop-entry : goal.invariant-loop-entry
invariant-loop-entry l =
    state_of l.tables ≡ applied_along (log_of l.width l.file) (take l.entry-index l.entries) (state_of l.initial.tables)
