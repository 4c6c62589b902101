-- The tidy-up: upward moves, issued from one log, and nothing else added to it.
use Rattle.std.specs.Prelude.{ℕ, ◌+◌, ◌*◌, ◌≤◌, Bool, true, false, cond, ◌&&◌, not, List, [], ◌∷◌, ◌++◌, map, ◌≡◌, length, get_or, eqb, ltb}
use Rattle.lists.specs.Lists.{all, any, concat, filter, is_in}
use Rattle.rules.specs.Answer.{accepted}
use Rattle.rules.specs.Bundle.{turns_answer, turns_buffer}
use Rattle.rules.specs.File.{Log, counts_of, file_end, log_of, width}
use Rattle.rules.specs.Issue.{issue_answer, issue_buffer}
use Rattle.rules.specs.Log.{known_parent}
use Rattle.rules.specs.Op.{Op, kind_of, node_of, parent_of, replica_of}
use Rattle.rules.specs.Replay.{outcome_slot, outcomes_of, parents_of}
use Rattle.rules.specs.Sound.{sound}
use Rattle.rules.specs.Tree.{parent_in}
use Rattle.order.specs.Claims.{Distinct}
use Rattle.convergence.specs.Clash.{Move, OnlyAdded, put_out, request}
use Rattle.convergence.specs.Exchange.{has, only_in}

---- the moves

-- a replica asked for a move at a buffer that holds this very log, and the op that it was given is upward
pub record IssuedUp (log : Log) (r : Op) : Type 0 where
  pub buffer : List ℕ
  pub out : List ℕ
  pub asked : Move
  pub end : ℕ
  pub very_log : log_of width buffer ≡ log
  pub taken : issue_answer width buffer (length out) asked.replica (request asked) ≡ accepted end
  pub put : put_out buffer out asked ≡ r
  pub upward : kind_of r ≡ 3

abbrev pub EachIssuedUp : Log → List Op → Type 0
EachIssuedUp log [] = Unit {0}
EachIssuedUp log (r ∷ ops) = IssuedUp log r × EachIssuedUp log ops

-- "upward moves issued by different seats from that very collection"
pub record UpwardMoves (log : Log) (ops : List Op) : Type 0 where
  pub each : EachIssuedUp log ops
  pub replicas_differ : Distinct (map replica_of ops)

---- what they come to

unfoldable pub outcome_in : Log → Op → ℕ
outcome_in log r = get_or (outcomes_of log) (outcome_slot r) 0

-- "none of them has fate 3"
unfoldable pub none_lost : Log → List Op → Bool
none_lost log ops = all (λ r. not (eqb (outcome_in log r) 3)) ops

-- how many of those among them that move a node are applied
unfoldable pub applied_to : Log → List Op → ℕ → ℕ
applied_to log ops n = length (filter (λ r. eqb (node_of r) n && eqb (outcome_in log r) 1) ops)

-- "of those among them that move the same node exactly one is applied"
unfoldable pub one_applied : Log → List Op → Bool
one_applied log ops = all (λ r. eqb (applied_to log ops (node_of r)) 1) ops

abbrev pub TidyUp : Type 0
TidyUp =
    -- "If a collection is sound,"
    (f : List ℕ) → sound width f ≡ true
    -- "and all records added to it are upward moves issued by different seats from that very collection,"
    → (ops : List Op) → UpwardMoves (log_of width f) ops
    -- "in whatever order they arrive,"
    → (h : List ℕ) → OnlyAdded f h ops
    -- "then none of them has fate 3, and of those among them that move the same node exactly one is applied"
    → (none_lost (log_of width h) ops ≡ true) × (one_applied (log_of width h) ops ≡ true)

---- which one, and the tree

-- z moves the node that r moves, and is of a higher replica
unfoldable pub outranks : Op → Op → Bool
outranks r z = eqb (node_of z) (node_of r) && ltb (replica_of r) (replica_of z)

-- the highest replica's move of a node is applied, and the others have outcome 2; every op of the log has the outcome that it had. A node
-- that is moved hangs where its applied move puts it, and every other where it did
pub record HighestWins (log more : Log) (ops : List Op) : Type 0 where
  pub outcome : (r : Op) → has ops r ≡ true → outcome_in more r ≡ cond (any (outranks r) ops) 2 1
  pub old_outcome : (r : Op) → has (concat log) r ≡ true → outcome_in more r ≡ outcome_in log r
  pub moved : (r : Op) → has ops r ≡ true → any (outranks r) ops ≡ false → parent_in (parents_of more) (node_of r) ≡ parent_of r
  pub stayed : (n : ℕ) → known_parent log (counts_of log) n ≡ true → is_in n (map node_of ops) ≡ false
      → parent_in (parents_of more) n ≡ parent_in (parents_of log) n

abbrev pub TidiedTree : Type 0
TidiedTree =
    (f : List ℕ) → sound width f ≡ true → (ops : List Op) → UpwardMoves (log_of width f) ops → (h : List ℕ)
    → OnlyAdded f h ops → HighestWins (log_of width f) (log_of width h) ops

---- how they come to one buffer

-- none is refused, and then they are there and nothing else
pub record Arrived (f b : List ℕ) (ops coming : List Op) : Type 0 where
  pub taken : turns_answer width b coming ≡ accepted (file_end width (turns_buffer width b coming))
  pub only_added : OnlyAdded f (turns_buffer width b coming) ops

-- "in whatever order they arrive": b has the old log, some of the moves or none, and room for the others; these are delivered one after
-- another, in any order, each once or more often, and so may be those that are there
abbrev pub AllArrive : Type 0
AllArrive =
    (f : List ℕ) → sound width f ≡ true → (ops : List Op) → UpwardMoves (log_of width f) ops
    → (b : List ℕ) (there coming : List Op) → OnlyAdded f b there
    → file_end width b + width * length (only_in ops there) ≤ length b
    → ((z : Op) → has (there ++ coming) z ≡ has ops z)
    → Arrived f b ops coming

-- the move that is issued at b itself is there
abbrev pub OwnIsThere : Type 0
OwnIsThere =
    (f b out : List ℕ) (x : Move) (end : ℕ) → log_of width b ≡ log_of width f
    → issue_answer width b (length out) x.replica (request x) ≡ accepted end
    → OnlyAdded f (issue_buffer width b (length out) x.replica (request x)) (put_out b out x ∷ [])
