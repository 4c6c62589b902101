-- The path of a known node, entry by entry.
use Prim.Native.Nat.{◌+◌, ◌-◌, ◌<◌, suc, ℕ}
use lib.ListN.{drop, get_or, length, set, take}
use lib.Seq.{take_all}
use mathlib.Core.List.{◌++◌, List}
use mathlib.Core.Path.{sym, ◌∙◌, ◌≡◌}
use native.Mathlib.Numerals.{add-one}
use native.Mathlib.Omega.{arith}
use Rattle.oplog.proofs.InsertLaws.{front, front_step}
use Rattle.rules.proofs.ClimbLaws.{climb_length, up_last}
use Rattle.rules.proofs.KnownLaws.{Named, named_valid}
use Rattle.rules.proofs.StructureLaws.{GoodLog}
use Rattle.rules.proofs.SlotLaws.{slot_below}
use Rattle.rules.specs.File.{Log, counts_of}
use Rattle.rules.specs.Replay.{parents_of}
use Rattle.rules.specs.Tree.{climb, depth, path, slots}
use Rattle.order.proofs.TreePathLaws.{climb_at, root_way, table_size, up_none}
use Rattle.view.specs.Asked.{Way}

module _ (log : Log) (good : GoodLog log) where
  pub way_of : (n : ℕ) → Named log (counts_of log) n → Way (parents_of log) n (depth (parents_of log) n)
  unfolding path depth
  way_of n w =
      let t : List ℕ = parents_of log in
      let (j, b, r, o) = root_way log good n w in
      let long : length (climb slots t n) ≡ suc j = climb_length t slots j n (omega arith) r.root o in
      let steps : length (climb slots t n) - 1 ≡ j = omega arith in
      record {
        size = table_size log good;
        long = omega arith;
        first = climb_at t slots j n 0 (omega arith) (omega arith) o ∙ up_none t n;
        inside = λ i h. rw (climb_at t slots j n i (omega arith) (omega arith) o)
            (slot_below _ (named_valid log (counts_of log) _ (r.on i (omega arith))));
        above = λ i h. rw (
          climb_at t slots j n i (omega arith) (omega arith) o,
          climb_at t slots j n (i + 1) (omega arith) (omega arith) o,
          add-one,
        ) (sym (up_last t i n));
      }

-- the last entry of a path
pub written_all : (xs d out : List ℕ) (i steps at : ℕ) → i ≡ steps → length xs ≡ steps + 1 → steps < length d → at ≡ get_or xs i 0
    → out ≡ front xs d i → set out steps at ≡ xs ++ drop (steps + 1) d
written_all xs d out i steps at e l h a o =
    let t : take (steps + 1) xs ≡ xs = take_all (steps + 1) xs (omega arith) in rw (
      o,
      a,
      e,
      front_step xs d steps (omega arith)
          (omega arith),
      t,
    )
