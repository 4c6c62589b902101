-- Replay that can be taken back: beside the state, for the slot of each op that was judged, what its step overwrote.
use Rattle.std.specs.Prelude.{ℕ, ◌≤◌, ◌<◌, get_or, length, set, replicate, true, false, ◌≡◌}
use mathlib.Core.List.{List, [], ◌∷◌, foldl}
use Rattle.rules.specs.Op.{Op, Vector, counted, node_of}
use Rattle.rules.specs.File.{Log, counts_of}
use Rattle.rules.specs.Tree.{most_ops, slot_of, slots}
use Rattle.rules.specs.Replay.{State, Stamped, outcome_slot, ordered, start, step}

-- for the slot of each judged op the entries that its node had before it: its parent, and the time of the move that placed it; 0 in the
-- slots of all others
pub record Undoable : Type 0 where
  pub state : State
  pub took : List ℕ
  pub was : List ℕ

-- nothing is judged
unfoldable pub unjudged : Undoable
unjudged = record { state = start; took = replicate slots 0; was = replicate slots 0 }

-- judge an op, and keep what it may overwrite: both entries of every op, so that taking back asks neither kind nor outcome
unfoldable pub step_keeping : Undoable → Stamped → Undoable
step_keeping k x =
    let n = slot_of (node_of x.op) in
    let i = outcome_slot x.op in
    record {
      state = step k.state x;
      took = set k.took i (get_or k.state.parents n 0);
      was = set k.was i (get_or k.state.placed n 0);
    }

-- take back the op that was judged last
unfoldable pub undo : Undoable → Op → Undoable
undo k r =
    let n = slot_of (node_of r) in
    let i = outcome_slot r in
    record {
      state = record {
        parents = set k.state.parents n (get_or k.took i 0);
        outcomes = set k.state.outcomes i 0;
        placed = set k.state.placed n (get_or k.was i 0);
      };
      took = set k.took i 0;
      was = set k.was i 0;
    }

-- take back the ops of a list, the last first
unfoldable pub take_back : Undoable → List Op → Undoable
take_back k [] = k
take_back k (r ∷ rs) = undo (take_back k rs) r

-- the replay of a cut
unfoldable pub replay_keeping : Log → Vector → Undoable
replay_keeping log cut = foldl step_keeping unjudged (ordered log cut)

-- the slot of an op
pub record IsSlot (i : ℕ) : Type 0 where
  pub some : 1 ≤ i
  pub most : i ≤ most_ops

-- what stands at a place behind the end of an order
abbrev pub no_op : Stamped
no_op = record { time = 0; op = [] }

-- the first op of a log's order that a cut does not count stands at a place
pub record FirstNew (log : Log) (old : Vector) (place : ℕ) : Type 0 where
  pub inside : place ≤ length (ordered log (counts_of log))
  pub front : (i : ℕ) → i < place → counted old (get_or (ordered log (counts_of log)) i no_op).op ≡ true
  pub here : place < length (ordered log (counts_of log)) → counted old (get_or (ordered log (counts_of log)) place no_op).op ≡ false
