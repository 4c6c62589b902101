-- "If two seats each issue one move from one collection, nothing else is added, and the moves take the same node or together close a
-- circle, upward beats downward and otherwise the higher seat wins" (demand 2), as one statement.
use Rattle.std.specs.Prelude.{ℕ, ◌+◌, ◌*◌, ◌≤◌, eqb, ltb, set, take, get_or, length, cond, false, Bool, true, ◌&&◌, ◌||◌, not, List, [], ◌∷◌, ◌++◌, ◌≡◌}
use Rattle.convergence.specs.Exchange.{Call, issue, deliver, answer, buffer_after, has}
use Rattle.rules.specs.Answer.{accepted}
use Rattle.lists.specs.Lists.{concat}
use Rattle.rules.specs.Issue.{Request, move, issue_answer, issue_out}
use Rattle.rules.specs.Tree.{move_kind, at_or_below, slot, slot_of}
use Rattle.rules.specs.File.{Log, log_of, width, counts_of, file_end}
use Rattle.rules.specs.Op.{Op, count_in}
use Rattle.rules.specs.Replay.{outcomes_of, parents_of}
use Rattle.rules.specs.Sound.{sound}

-- a replica hangs a node under another parent
pub record Move : Type 0 where
  pub replica : ℕ
  pub node : ℕ
  pub parent : ℕ

abbrev pub request : Move → Request
request x = move x.node x.parent

-- "together close a circle": the new parent of each is the other's node or lies below it
unfoldable pub circle : List ℕ → Move → Move → Bool
circle parents x y = at_or_below parents x.parent y.node && at_or_below parents y.parent x.node

unfoldable pub clash : List ℕ → Move → Move → Bool
clash parents x y = eqb x.node y.node || circle parents x y

-- the parent table with a move made, whatever it closes
unfoldable pub hang : List ℕ → Move → List ℕ
hang parents x = set parents (slot_of x.node) x.parent

-- x beats y: of two moves of one kind the higher replica's, else the upward one
unfoldable pub beats : List ℕ → Move → Move → Bool
beats parents x y =
    cond (eqb (move_kind parents x.node x.parent) (move_kind parents y.node y.parent))
    (ltb y.replica x.replica)
    (eqb (move_kind parents x.node x.parent) 3)

-- where the outcome of the replica's next op stands
unfoldable pub next_slot : Log → ℕ → ℕ
next_slot log s = slot s (count_in (counts_of log) s + 1)

-- of the two moves that more has and log has not, x is applied and y is not: 2 if they take the same node, 3 if they
-- close a circle; the tree is the old one with x
pub record Wins (log more : Log) (x y : Move) : Type 0 where
  pub winner : get_or (outcomes_of more) (next_slot log x.replica) 0 ≡ 1
  pub loser : get_or (outcomes_of more) (next_slot log y.replica) 0 ≡ cond (eqb x.node y.node) 2 3
  pub tree : parents_of more ≡ hang (parents_of log) x

---- the calls

-- the buffers f and g hold one log; x is accepted at f and y at g, of two replicas
pub record BothIssued (f g out out' : List ℕ) (x y : Move) : Type 0 where
  pub one_log : log_of width g ≡ log_of width f
  pub replicas_differ : x.replica ≡ y.replica → ⊥
  pub end : ℕ
  pub end' : ℕ
  pub first : issue_answer width f (length out) x.replica (request x) ≡ accepted end
  pub second : issue_answer width g (length out') y.replica (request y) ≡ accepted end'

-- the op that issuing x at f put in the lent bytes
abbrev pub put_out : (f out : List ℕ) → Move → Op
put_out f out x = take width (issue_out width f out x.replica (request x))

-- h is sound, and its ops are the new ones and those of f, however they came
pub record OnlyAdded (f h : List ℕ) (new : List Op) : Type 0 where
  pub is_sound_so : sound width h ≡ true
  pub ops : (z : Op) → has (concat (log_of width h)) z ≡ has (new ++ concat (log_of width f)) z

abbrev pub ClashDecided : Type 0
ClashDecided =
    -- "if two seats each issue one move from one collection,"
    (f g out out' : List ℕ) (x y : Move) → BothIssued f g out out' x y
    -- "nothing else is added,"
    → (h : List ℕ) → OnlyAdded f h (put_out f out x ∷ put_out g out' y ∷ [])
    -- "and the moves take the same node or together close a circle,"
    → let log = log_of width f in
    let more = log_of width h in
    clash (parents_of log) x y ≡ true
    -- "upward beats downward and otherwise the higher seat wins"
    → (beats (parents_of log) x y ≡ true → Wins log more x y) × (beats (parents_of log) x y ≡ false → Wins log more y x)

---- how the two come to one buffer

-- two calls at b, one after the other: both are accepted, and then the ops are r, r' and those of f
pub record Arrives (f b : List ℕ) (r r' : Op) (one next : Call) : Type 0 where
  pub one_accepted : answer b one ≡ accepted (file_end width b + width)
  pub next_accepted : answer (buffer_after b one) next ≡ accepted (file_end width b + 2 * width)
  pub both_added : OnlyAdded f (buffer_after (buffer_after b one) next) (r ∷ r' ∷ [])

-- one is issued at b and the other delivered there, or both are delivered, in either order
pub record Arrivals (f b out out' : List ℕ) (x y : Move) (r r' : Op) : Type 0 where
  pub x_issued : Arrives f b r r' (issue out x.replica (request x)) (deliver r')
  pub y_issued : Arrives f b r r' (issue out' y.replica (request y)) (deliver r)
  pub x_first : Arrives f b r r' (deliver r) (deliver r')
  pub y_first : Arrives f b r r' (deliver r') (deliver r)

-- b is f, or another buffer that holds the same log, with room for two ops more
abbrev pub BothArrive : Type 0
BothArrive =
    (f g out out' : List ℕ) (x y : Move) → BothIssued f g out out' x y
    → (b : List ℕ) → sound width b ≡ true → log_of width b ≡ log_of width f → file_end width b + 2 * width ≤ length b
    → Arrivals f b out out' x y (put_out f out x) (put_out g out' y)

---- the circle

-- what `circle` says is a circle: with both moves made, and only then, x's node has no way to the root
abbrev pub CircleCutsOff : Type 0
CircleCutsOff =
    (f g out out' : List ℕ) (x y : Move) → BothIssued f g out out' x y
    → let parents = parents_of (log_of width f) in
    circle parents x y ≡ not (at_or_below (hang (hang parents x) y) x.node 0)
