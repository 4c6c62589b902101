-- `page::renewing::renew` meets its contract.
use Rattle.page.proofs.RenewLaws.{file_header, file_sound, order_asks}
use Rattle.page.proofs.renewing.renew.Goals as goal

pub counts_of-all-requires : goal.counts_of-all-requires
counts_of-all-requires c = (file_header _ _ c.requires.grown, file_sound _ _ c.requires.grown)

pub write_order-requires : goal.write_order-requires
write_order-requires c = order_asks _ _ c.requires.grown _ c.counts_of-all.ensures
