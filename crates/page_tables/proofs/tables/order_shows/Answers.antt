-- `page_tables::tables::order_shows` meets its contract.
use Rattle.std.proofs.Common.{sym, ◌∙◌}
use Rattle.page_tables.proofs.TableLaws.{front_fails, front_holds, order_parts}
use Rattle.page_tables.proofs.tables.order_shows.Goals as goal

pub returns-then-ne : goal.returns-then-ne
returns-then-ne c = front_fails _ _ (order_parts _ _ _ c.requires) c.if-ne.ensures

pub returns-then-eq : goal.returns-then-eq
returns-then-eq c = sym (front_holds _ _ (order_parts _ _ _ c.requires) c.if-ne.ensures ∙ rw (sym c.if-eq.ensures))

pub returns-else-eq : goal.returns-else-eq
returns-else-eq c =
    c.if-eq.false ∙ sym (front_holds _ _ (order_parts _ _ _ c.requires) c.if-ne.ensures ∙ rw (sym c.if-eq.ensures))
