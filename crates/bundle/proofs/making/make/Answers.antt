-- `bundle::making::make` meets its contract.
use Rattle.soundness.proofs.SoundCases.{header_of}
use Rattle.bundle.proofs.MakeCases.{making}
use Rattle.soundness.proofs.SoundCases.{header_of}
use Rattle.bundle.proofs.making.make.Goals as goal

pub counts_of-requires : goal.counts_of-requires
counts_of-requires c = header_of _ (search making)

pub write_bundle-requires : goal.write_bundle-requires
write_bundle-requires c = search making
