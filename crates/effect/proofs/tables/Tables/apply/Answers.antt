-- `effect::tables::Tables::apply` meets its contract.
use Rattle.std.proofs.Common.{◌∙◌}
use Rattle.effect.proofs.EffectLaws.{applied, kind_known}
use Rattle.effect.proofs.tables.Tables.apply.Goals as goal

pub known_kind-kind-requires : goal.known_kind-kind-requires
known_kind-kind-requires c = kind_known _ _ _ c.requires _ c.slot_place-at.ensures.0 _ c.kind_at.ensures

pub returns : goal.returns
returns c =
    applied _ _ _ c.requires _ c.slot_place-at.ensures.0 _ _ c.node_at-node.ensures c.slot_of-named.ensures _ _ _ _
    (c.known_kind-kind.ensures ∙ c.kind_at.ensures) c.parent_at-parent.ensures _ c.outcome_of-outcome.ensures c.from.ensures _
    (rw c.hang.ensures at c.note_time.ensures)
