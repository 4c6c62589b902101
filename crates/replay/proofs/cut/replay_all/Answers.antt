-- `replay::cut::replay_all` meets its contract.
use Rattle.replay.proofs.CutLaws.{whole_asks, whole_header, whole_outcomes, whole_parents, whole_sound}
use Rattle.replay.proofs.cut.replay_all.Goals as goal

pub counts_of-cut-requires : goal.counts_of-cut-requires
counts_of-cut-requires c = (whole_header _ _ c.requires.1, whole_sound _ _ c.requires.1)

pub replay_cut-requires : goal.replay_cut-requires
replay_cut-requires c = whole_asks _ _ _ c.counts_of-cut.ensures c.requires.1 c.requires.0

pub returns : goal.returns
returns c = (
  whole_parents _ _ _ c.counts_of-cut.ensures _ c.replay_cut.ensures,
  whole_outcomes _ _ _ c.counts_of-cut.ensures _ c.replay_cut.ensures,
)
