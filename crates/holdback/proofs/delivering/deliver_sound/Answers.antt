-- `holdback::delivering::deliver_sound` meets its contract.
use mathlib.Core.Path.{refl}
use Rattle.holdback.proofs.HoldbackCases.{not_early, then_search, then_released, then_early, then_held, then_same}
use Rattle.holdback.proofs.delivering.deliver_sound.Goals as goal

pub release-requires : goal.release-requires
release-requires c =
    let e = rw c.in-Ok-Accepted.field-0-is at c.in-Ok-Accepted.ensures in
    then_search _ _ _ c.requires _ _ e refl

pub returns-in-Ok-Accepted : goal.returns-in-Ok-Accepted
returns-in-Ok-Accepted c =
    let e = rw c.in-Ok-Accepted.field-0-is at c.in-Ok-Accepted.ensures in
    then_released _ _ _ c.requires _ _ e refl _ _ _ c.release.ensures

pub returns-in-Ok-HadIt : goal.returns-in-Ok-HadIt
returns-in-Ok-HadIt c =
    let e = rw c.in-Ok-HadIt.field-0-is at c.in-Ok-HadIt.ensures in
    then_same _ _ _ c.requires _ _ e refl refl

pub returns-in-Ok-Waiting : goal.returns-in-Ok-Waiting
returns-in-Ok-Waiting c =
    let e = rw c.in-Ok-Waiting.field-0-is at c.in-Ok-Waiting.ensures in
    then_same _ _ _ c.requires _ _ e refl refl

pub hold-requires : goal.hold-requires
hold-requires c =
    let e = rw c.in-Early.is at c.in-Err.ensures in
    then_early _ _ _ c.requires _ _ e refl refl

pub returns-in-Early : goal.returns-in-Early
returns-in-Early c =
    let e = rw c.in-Early.is at c.in-Err.ensures in
    then_held _ _ _ c.requires _ _ e refl refl _ _ c.hold.ensures

pub returns-in_default : goal.returns-in_default
returns-in_default c = then_same _ _ _ c.requires _ _ c.in-Err.ensures refl (not_early _ c.in_default.not-Early)
