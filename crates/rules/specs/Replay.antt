-- Replay (the document's judging) of the ops within a cut, which is a version vector: timestamps, the order of the
-- ops, and what each op does to the tree.
use Rattle.std.specs.Prelude.{ℕ, zero, suc, ◌+◌, cond, ◌&&◌, ◌||◌, not, take, get_or, set, replicate, eqb}
use mathlib.Core.List.{List, ◌∷◌, map, foldl}
use Rattle.lists.specs.Lists.{up_from, down_from, greatest, concat, filter}
use Rattle.rules.specs.Op.{Op, Vector, replicas, count_in, kind_of, replica_of, node_of, parent_of, vector_of, seq_of, is_add, is_remove, is_move}
use Rattle.rules.specs.File.{Log, ops_of, counts_of}
use Rattle.rules.specs.Tree.{slot, slot_of, slots, no_parent, at_or_below}

---- the ops of a cut, and timestamps

-- the ops that a vector counts
unfoldable pub ops_within : Log → Vector → List Op
ops_within log v = concat (map (λ s. take (count_in v s) (ops_of log s)) replicas)

-- the nodes that its adds made, in rising order; those that its removes name
unfoldable pub added_in : Log → Vector → List ℕ
added_in log v = map node_of (filter is_add (ops_within log v))

unfoldable pub removed_in : Log → Vector → List ℕ
removed_in log v = map node_of (filter is_remove (ops_within log v))

-- the timestamp (the document's stamp): "1 plus the greatest stamp within its context". k bounds how deep vectors lie within each other; a
-- log has at most 2,040 ops, so they lie no deeper
unfoldable pub timestamp_in : ℕ → Log → Op → ℕ
timestamp_in zero log r = 0
timestamp_in (suc k) log r = 1 + greatest (map (timestamp_in k log) (ops_within log (vector_of r)))

unfoldable pub timestamp : Log → Op → ℕ
timestamp log r = timestamp_in slots log r

---- order

-- an op with its timestamp
pub record Stamped : Type 0 where
  pub time : ℕ
  pub op : Op

unfoldable pub stamp : Log → Op → Stamped
stamp log r = record { time = timestamp log r; op = r }

-- the ops within a cut
unfoldable pub stamped : Log → Vector → List Stamped
stamped log cut = map (stamp log) (ops_within log cut)

-- the ops of a timestamp, kind and replica; of a timestamp and kind: "the higher seat comes first"; of a timestamp: "adds, removes, upward
-- moves, downward moves"; and all, "by rising stamp"
unfoldable pub of_replica : List Stamped → ℕ → ℕ → ℕ → List Stamped
of_replica xs t k s = filter (λ x. eqb x.time t && eqb (kind_of x.op) k && eqb (replica_of x.op) s) xs

unfoldable pub of_kind : List Stamped → ℕ → ℕ → List Stamped
of_kind xs t k = concat (map (of_replica xs t k) (down_from 8))

unfoldable pub of_time : List Stamped → ℕ → List Stamped
of_time xs t = concat (map (of_kind xs t) (up_from 1 4))

unfoldable pub by_time : List Stamped → List Stamped
by_time xs = concat (map (of_time xs) (up_from 1 (greatest (map (λ x. x.time) xs))))

unfoldable pub ordered : Log → Vector → List Stamped
ordered log cut = by_time (stamped log cut)

---- effects

-- the parent table, the outcome table (the document's fates), and for the slot of each node the timestamp of the
-- applied move that placed it last
pub record State : Type 0 where
  pub parents : List ℕ
  pub outcomes : List ℕ
  pub placed : List ℕ

-- "the tree starts as the root alone"
unfoldable pub start : State
start = record {
  parents = 0 ∷ replicate 2040 no_parent;
  outcomes = replicate slots 0;
  placed = replicate slots 0;
}

-- where an op's outcome stands
unfoldable pub outcome_slot : Op → ℕ
outcome_slot r = slot (replica_of r) (seq_of r)

-- the judging order of a cut as slots
unfoldable pub order_of : Log → Vector → List ℕ
order_of log cut = map (λ (x : Stamped). outcome_slot x.op) (ordered log cut)

-- 1 applied; a move: 2 "if an applied move of the same stamp already placed its node", else 3 "if the new parent is
-- the node or lies below it"
unfoldable pub outcome_of : State → Stamped → ℕ
outcome_of st x =
    cond (not (is_move x.op)) 1
    (cond (eqb (get_or st.placed (slot_of (node_of x.op)) 0) x.time) 2
    (cond (at_or_below st.parents (parent_of x.op) (node_of x.op)) 3 1))

-- an applied add or move hangs its node under its parent, and a remove changes no parent
unfoldable pub step : State → Stamped → State
step st x =
    let o = outcome_of st x in
    let n = slot_of (node_of x.op) in
    let hung = set st.parents n (parent_of x.op) in
    let at = set st.placed n x.time in
    record {
      parents = cond (eqb o 1 && (is_add x.op || is_move x.op)) hung st.parents;
      outcomes = set st.outcomes (outcome_slot x.op) o;
      placed = cond (eqb o 1 && is_move x.op) at st.placed;
    }

-- the replay of a cut
unfoldable pub replay : Log → Vector → State
replay log cut = foldl step start (ordered log cut)

-- the whole log is the cut at the held counts
unfoldable pub parents_of : Log → List ℕ
parents_of log = (replay log (counts_of log)).parents

unfoldable pub outcomes_of : Log → List ℕ
outcomes_of log = (replay log (counts_of log)).outcomes
