-- `page::renewing::put_slots`: what its loop keeps.
use Rattle.std.proofs.Common.{◌≡◌, take, map}
use Rattle.page_rules.specs.Page.{padded}
use Rattle.page.specs.Renewing.{slot_in_entry}
use Rattle.page.proofs.renewing.put_slots.Given as goal

abbrev pub invariant-loop-place : goal.invariant-loop-place
invariant-loop-place l = l.slots ≡ padded (map slot_in_entry (take l.place l.entries))
