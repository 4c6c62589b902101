-- `replica::judging::judge` meets its contract.
use native.Mathlib.Omega.{arith}
use lib.ListN.{length-take}
use Rattle.replica.proofs.JudgeCases.{judging}
use Rattle.replica.proofs.judging.judge.Goals as goal

pub returns-then-not-is_sound : goal.returns-then-not-is_sound
returns-then-not-is_sound c = search judging

pub returns-then-parents-lt-SLOTS : goal.returns-then-parents-lt-SLOTS
returns-then-parents-lt-SLOTS c = search judging

pub returns-then-outcomes-lt-SLOTS : goal.returns-then-outcomes-lt-SLOTS
returns-then-outcomes-lt-SLOTS c = search judging

pub replay_all-requires : goal.replay_all-requires
replay_all-requires c = (omega arith, search judging)

pub copy_from_slice-requires : goal.copy_from_slice-requires
copy_from_slice-requires c = simp length-take (omega arith)

pub copy_from_slice-requires-2 : goal.copy_from_slice-requires-2
copy_from_slice-requires-2 c = simp length-take (omega arith)

pub returns : goal.returns
returns c = search judging
