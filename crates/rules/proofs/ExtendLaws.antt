-- One fact for a part and for the whole: two logs that hold the same within a closed cut replay it alike. A log that
-- holds more is one case, two logs that agree are another.
use Prim.Native.Nat.{ℕ, suc, zero, ◌≤◌, ◌+◌, ◌-◌}
use borrow.Author.Tests.{le-leb}
use lib.ListN.{take}
use mathlib.Core.Bool.{true}
use mathlib.Core.List.{[], foldl}
use mathlib.Core.Path.{refl, ap, ◌≡◌}
use native.Mathlib.Omega.{arith}
use Rattle.rules.specs.File.{Extends, Log, op_at, within, ops_of}
use Rattle.rules.proofs.AppendLaws.{SameWithin, covered_more, same_within}
use Rattle.rules.proofs.ReplicaLaws.{all_replicas, map_replicas}
use Rattle.rules.proofs.CausalLaws.{Le, counted_le}
use Rattle.rules.proofs.StructureLaws.{held_in, HeldOps, count_held}
use Rattle.rules.proofs.TimeLaws.{map_within}
use Rattle.lists.specs.Lists.{concat, greatest}
use Rattle.rules.specs.Log.{covered, closed}
use Rattle.rules.specs.Op.{Vector, Op, vector_of, count_in}
use Rattle.rules.specs.Replay.{ops_within, timestamp_in, timestamp, ordered, stamped, stamp, by_time, replay, step, start}
use Rattle.rules.specs.Tree.{slots}
use Rattle.lists.proofs.ListLaws.{take_same}

-- both logs hold what the vector counts, and it is the same
pub record Alike (log more : Log) (v : Vector) : Type 0 where
  pub here : covered log v ≡ true
  pub there : covered more v ≡ true
  pub is_closed : closed log v ≡ true
  pub same : SameWithin log more v

-- a log that holds more
pub alike_more : (log more : Log) → Extends log more → (v : Vector) → covered log v ≡ true → closed log v ≡ true → Alike log more v
alike_more log more x v c d = record {
  here = c;
  there = covered_more log more x v c;
  is_closed = d;
  same = same_within log more x v c;
}

covered_le : (log : Log) (v u : Vector) → Le v u → covered log u ≡ true → covered log v ≡ true
unfolding covered within
covered_le log v u h c =
    all_replicas _ (λ s l b. le-leb (count_in v s) _ (omega (arith, h s l b, held_in log u c s l b)))

module _ (log more : Log) (v : Vector) (a : Alike log more v) where
  part_alike : (s : ℕ) → 1 ≤ s → s ≤ 8 → take (count_in v s) (ops_of more s) ≡ take (count_in v s) (ops_of log s)
  unfolding op_at
  part_alike s l u =
      let h = held_in log v a.here s l u in
      let t = held_in more v a.there s l u in
      take_same [] (count_in v s) (ops_of more s) (ops_of log s) (omega (arith, count_held more s)) (omega (arith, count_held log s)) (λ i b.
      let k : i + 1 - 1 ≡ i = omega arith in
      rw k at (a.same s (i + 1) l u (omega arith) (omega arith)))

  pub within_alike : ops_within more v ≡ ops_within log v
  unfolding ops_within
  within_alike = ap concat (map_replicas _ _ part_alike)

module _ (log more : Log) (ops : HeldOps log) where
  -- the vector of an op within the cut
  pub inner_alike : (v : Vector) → Alike log more v → (s q : ℕ) → 1 ≤ s → s ≤ 8 → 1 ≤ q → q ≤ count_in v s
      → Alike log more (vector_of (op_at log s q))
  inner_alike v a s q l u lq uq =
      let x = ops s q l u lq (omega (arith, held_in log v a.here s l u)) in
      let le : Le (vector_of (op_at log s q)) v = counted_le log ops v a.here a.is_closed s q l u lq uq in
      record {
        here = x.is_covered;
        there = covered_le more (vector_of (op_at log s q)) v le a.there;
        is_closed = x.is_closed;
        same = λ t k lt ut lk uk. a.same t k lt ut lk (omega (arith, le t lt ut));
      }

  time_alike : (k : ℕ) (r : Op) → Alike log more (vector_of r) → timestamp_in k more r ≡ timestamp_in k log r
  unfolding timestamp_in
  time_alike zero r a = refl
  time_alike (suc k) r a =
      rw (within_alike log more (vector_of r) a) (ap (λ xs. 1 + greatest xs) (map_within (timestamp_in k more) (timestamp_in k log) log
      (vector_of r) (λ s q l u lq uq.
      time_alike k (op_at log s q) (inner_alike (vector_of r) a s q l u lq uq))))

  pub timestamp_alike : (r : Op) → Alike log more (vector_of r) → timestamp more r ≡ timestamp log r
  unfolding timestamp
  timestamp_alike r a = time_alike slots r a

  pub ordered_alike : (v : Vector) → Alike log more v → ordered more v ≡ ordered log v
  unfolding ordered stamped stamp
  ordered_alike v a =
      ap by_time (rw (within_alike log more v a) (map_within (stamp more) (stamp log) log v (λ s q l u lq uq.
      rw (timestamp_alike (op_at log s q) (inner_alike v a s q l u lq uq)))))

  -- so the cut has one tree and the same outcomes in both
  pub replay_alike : (v : Vector) → Alike log more v → replay more v ≡ replay log v
  unfolding replay
  replay_alike v a = ap (foldl step start) (ordered_alike v a)
