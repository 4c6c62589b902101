-- `page::renewing::rejudge` meets its contract.
use mathlib.Core.Path.{refl}
use native.Mathlib.Omega.{arith}
use Rattle.page.proofs.RenewLaws.{along, carry_asks, few, fill_asks, page_new, shows_asks, slots_ask, some, took_all, took_back}
use Rattle.page.proofs.renewing.rejudge.Goals as goal

pub put_slots-requires : goal.put_slots-requires
put_slots-requires c = (few _ _ _ _ _ _ _ c.requires, refl)

pub judge_along-requires : goal.judge_along-requires
judge_along-requires c = along _ _ _ _ _ _ _ c.requires

pub first_beyond-place-requires : goal.first_beyond-place-requires
first_beyond-place-requires c = slots_ask _ _ _ _ _ _ _ c.requires

pub shows-is_true-requires : goal.shows-is_true-requires
shows-is_true-requires c =
    shows_asks _ _ _ _ _ _ _ c.requires _ _ c.new-judged.ensures c.judge_along.ensures _ c.first_beyond-place.ensures _
    c.put_slots.ensures

pub carry-taken-requires : goal.carry-taken-requires
carry-taken-requires c =
    carry_asks _ _ _ _ _ _ _ c.requires _ _ c.new-judged.ensures c.judge_along.ensures _ c.first_beyond-place.ensures

pub fill-requires : goal.fill-requires
fill-requires c = fill_asks _ _ _ _ _ _ _ c.requires _ c.carry-taken.ensures.0 _ c.put_slots.ensures

pub returns-then-is_true : goal.returns-then-is_true
returns-then-is_true c = (
  page_new _ _ _ _ _ _ _ c.requires _ c.carry-taken.ensures.0 _ c.put_slots.ensures _ c.fill.ensures,
  took_back _ _ _ _ _ _ _ c.requires _ _ c.new-judged.ensures c.judge_along.ensures _ c.first_beyond-place.ensures _
      c.put_slots.ensures _ c.shows-is_true.ensures c.if-is_true.true _ c.carry-taken.ensures.1,
)

pub overflow_sub-result : goal.overflow_sub-result
overflow_sub-result c = let one = some _ _ _ _ _ _ _ c.requires in omega arith

pub returns : goal.returns
returns c = (
  page_new _ _ _ _ _ _ _ c.requires _ c.carry-taken.ensures.0 _ c.put_slots.ensures _ c.fill.ensures,
  took_all _ _ _ _ _ _ _ c.requires _ _ c.new-judged.ensures c.judge_along.ensures _ c.first_beyond-place.ensures _
      c.put_slots.ensures _ c.shows-is_true.ensures c.if-is_true.false,
)
