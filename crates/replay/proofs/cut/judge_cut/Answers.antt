-- `replay::cut::judge_cut` meets its contract.
use Rattle.std.proofs.Common.{◌∙◌}
use Rattle.replay.proofs.CutLaws.{along_asks, replayed}
use Rattle.replay.proofs.cut.judge_cut.Goals as goal

pub apply_along-requires : goal.apply_along-requires
apply_along-requires c = along_asks _ _ _ c.requires.0 _ (c.entries.ensures ∙ c.write_order.ensures)

pub returns : goal.returns
returns c = replayed _ _ _ c.requires.0 _ (c.entries.ensures ∙ c.write_order.ensures) _ c.requires.1 _ c.apply_along.ensures
