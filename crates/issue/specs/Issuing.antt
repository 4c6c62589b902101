-- Issuing as the code goes about it: a request is drafted as an op, which is then put out and added.
use Rattle.std.specs.Prelude.{ℕ, ◌+◌, ◌≤◌, ◌<◌, ◌≡◌, true, cond, not, List, Result, Ok, Err, ◌++◌, length, drop, ltb}
use Rattle.rules.specs.Answer.{if_accepted}
use Rattle.rules.specs.Issue.{Request, add, remove, move, Issued, op_bytes, request_known, request_unmarked}
use Rattle.rules.specs.Tree.{at_or_below, depth, slots}
use Rattle.rules.specs.File.{Log, width, appended, counts_of, file_end, log_of}
use Rattle.rules.specs.Op.{Op, Vector, count_in, is_replica, node_number}
use Rattle.rules.specs.Replay.{parents_of}
use Rattle.rules.specs.Sound.{sound}
use Rattle.codec.specs.Kind.{number}
use Rattle.codec.specs.declared.kind.Kind.{Kind}
use Rattle.codec.specs.declared.kind.Kind.TheVariants.{Add, Remove, Upward, Downward}
use Rattle.codec.specs.declared.answer.Refusal.{Refusal}
use Rattle.codec.specs.declared.answer.Refusal.TheVariants.{Unknown, Exhausted, Cycle, Marked}
use Rattle.delivery.specs.Adding.{last_test}
use Rattle.soundness.specs.Asked.{Tallied}
use Rattle.issue.specs.declared.draft.Draft.{Draft}

-- what the tests of a request say: the op to issue, or the first test that failed
abbrev pub Drafted : Type 0
Drafted = Result Draft Refusal

-- the bytes of a drafted op
abbrev pub bytes_of : (s : ℕ) → Draft → Vector → Op
bytes_of s d v = op_bytes (number d.kind) s d.node d.parent v

-- the kind of a move in a tree; its number is what the rules say, `move_kind` (`number_moved` of proofs/IssueCases)
unfoldable pub moved_kind : (tree : List ℕ) (n p : ℕ) → Kind
moved_kind t n p = cond (ltb (depth t p) (depth t n)) Upward Downward

-- a move in a tree: number 10, or the op
unfoldable pub moved_in : (tree : List ℕ) (n p : ℕ) → Drafted
moved_in t n p =
    cond (at_or_below t p n) (Err Cycle) (Ok (record { kind = moved_kind t n p; node = n; parent = p }))

-- number 10 of a request whose names are known, or the op
unfoldable pub cleared_op : Log → (s : ℕ) → Request → Drafted
cleared_op log s (add p) = Ok (record { kind = Add; node = node_number s (count_in (counts_of log) s + 1); parent = p })
cleared_op log s (remove n) = Ok (record { kind = Remove; node = n; parent = 0 })
cleared_op log s (move n p) = moved_in (parents_of log) n p

-- the tests 9, 7, 11 and 10, or the op
unfoldable pub drafted : Log → (s : ℕ) → Request → Drafted
drafted log s q =
    cond (not (ltb (count_in (counts_of log) s) 255)) (Err Exhausted)
    (cond (not (request_known log q)) (Err Unknown)
    (cond (not (request_unmarked log q)) (Err Marked) (cleared_op log s q)))

-- the buffer with an op added, and the op in the first bytes of what is lent for it
abbrev pub with_op : (f out : List ℕ) → Op → List ℕ × List ℕ
with_op f out op = (appended width f op, op ++ drop width out)

-- the last test, and what an op that passes it leaves
unfoldable pub put_out : (f out : List ℕ) → Op → Issued
put_out f out op = record {
  answer = last_test f;
  buffer = if_accepted (last_test f) (appended width f op) f;
  out = if_accepted (last_test f) (op ++ drop width out) out;
}

---- what the steps ask

-- the tests 1 and 3 passed
pub record Issuer (f : List ℕ) (s : ℕ) : Type 0 where
  pub is_sound_so : sound width f ≡ true
  pub is_replica_so : is_replica s ≡ true

-- and 2
pub record Lent (f : List ℕ) (room s : ℕ) : Type 0 where
  pub issuer : Issuer f s
  pub space : width ≤ room

-- and 9
pub record Ready (f : List ℕ) (room s : ℕ) : Type 0 where
  pub lent : Lent f room s
  pub left : ltb (count_in (counts_of (log_of width f)) s) 255 ≡ true

-- and 8
pub record Writable (f : List ℕ) (room s : ℕ) : Type 0 where
  pub ready : Ready f room s
  pub end : file_end width f + width ≤ length f

-- the tests 1, 3 and 7 passed; u are the held counts
pub record KnownRequest (f : List ℕ) (u : Vector) (s : ℕ) (q : Request) : Type 0 where
  pub tallied : Tallied f u
  pub is_replica_so : is_replica s ≡ true
  pub names : request_known (log_of width f) q ≡ true

-- the tests 1 and 7 of a move passed
pub record Movable (f : List ℕ) (n p : ℕ) : Type 0 where
  pub is_sound_so : sound width f ≡ true
  pub names : request_known (log_of width f) (move n p) ≡ true

-- a table of parents, and a number that may be a node's
pub record InTree (t : List ℕ) (n : ℕ) : Type 0 where
  pub size : length t ≡ slots
  pub small : n < 65535
