-- Batches worked out on P10's siblings, P12's tree and a log with removes, as rows of one table that one theorem covers.
use Rattle.std.specs.Prelude.{ℕ, get_or, replicate, List, [], ◌∷◌, ◌++◌, ◌≡◌, refl}
use Rattle.rules.specs.Answer.{refused, accepted, require, unless_refused}
use Rattle.rules.specs.Bytes.{word_at, word}
use Rattle.lists.specs.Lists.{up_from, down_from, sum, greatest, same, concat, all, any, filter, is_in}
use Rattle.rules.specs.Issue.{op_bytes, issued, request_known, request_unmarked, request_clear, issue_answer, issue_buffer}
use Rattle.rules.specs.Tree.{move_kind, slot, slot_of, parent_in, climb, path, depth, at_or_below}
use Rattle.rules.specs.File.{Log, empty_log, ops_of, op_at, counts_of, append, count_at, start_at, header_counts, start_of, end_of, file_end, chunks, chunks_of, log_of, header_entry, header_of, file_of, appended, within, width}
use Rattle.rules.specs.Log.{covered, closed_at, closed, known_parent, names_known, sound_op, sound_ops, sound_log, sound_header, laid, structural}
use Rattle.rules.specs.Marks.{is_known, is_marked, marked, node_within, knowledge}
use Rattle.rules.specs.Op.{Op, replicas, is_replica, count_in, kind_of, replica_of, node_of, parent_of, vector_of, own_count, seq_of, node_number, is_add, is_remove, is_move, well_formed}
use Rattle.rules.specs.Replay.{ops_within, added_in, removed_in, timestamp_in, timestamp, stamp, stamped, of_replica, of_kind, of_time, by_time, ordered, start, outcome_slot, outcome_of, step, replay, parents_of, outcomes_of}
use Rattle.rules.specs.Sound.{sound}
use Rattle.rules.specs.Examples.{of_ops, p10_adds, p12, pruned, siblings, three, vector}
use Rattle.batch_rules.specs.Batch.{move_buffer, moves_buffer, moves_answer, moves_ops, batch_fits, batch_answer, batch_buffer, batch_out, issue_moves}

-- the file of a log with so many sevens past it; so many nines lent for the ops
abbrev file_then : Log → ℕ → List ℕ
file_then log n = file_of width log ++ replicate n 7

abbrev nines : ℕ → List ℕ
nines n = replicate n 9

pub data Row : Type 0 where
  -- moves of nodes to a parent that a replica issues at a log with so many bytes past it, and so many lent for the ops, are accepted
  -- with this end; the file then is that of a log, and these ops are put out
  takes : Log → (past replica : ℕ) (nodes : List ℕ) (parent lent end : ℕ) → (after : Log) → (left : ℕ) → (put : List ℕ) → Row
  -- they are refused, and nothing changes
  leaves : (buffer : List ℕ) (replica : ℕ) (nodes : List ℕ) (parent lent number : ℕ) → Row
  -- the outcomes of all ops of a log
  outcomes : Log → List (List ℕ) → Row

-- what a row says
abbrev pub Holds : Row → Type 0
Holds (takes log past s ns p lent end after left put) =
    issue_moves width (file_then log past) (nines lent) s ns p ≡ record { answer = accepted end; buffer = file_then after left; out = put }
Holds (leaves f s ns p lent n) = issue_moves width f (nines lent) s ns p ≡ record { answer = refused n; buffer = f; out = nines lent }
Holds (outcomes log os) = of_ops (λ s q. get_or (outcomes_of log) (slot s q) 0) log ≡ os

abbrev pub AllHold : List Row → Type 0
AllHold [] = Unit {0}
AllHold (x ∷ xs) = Holds x × AllHold xs

---- logs

-- P10's siblings 257, 258 and 259, and moves by replicas 1 and 2
unfoldable pub siblings_then : List Op → List Op → Log
siblings_then one two = three [] (siblings 1 (λ k. vector k 0 0) ++ one) two []

-- replica 1 puts 257 and 258 under 259
abbrev column : List Op
column = op_bytes 4 1 257 259 (vector 3 0 0) ∷ op_bytes 4 1 258 259 (vector 4 0 0) ∷ []

-- replica 2 puts 258 under 257 twice
abbrev twice : List Op
twice = op_bytes 4 2 258 257 (vector 3 0 0) ∷ op_bytes 3 2 258 257 (vector 3 1 0) ∷ []

-- and 257, and then 258 below it, under 260
abbrev nested : List Op
nested = op_bytes 4 2 257 260 (vector 4 0 0) ∷ op_bytes 3 2 258 260 (vector 4 1 0) ∷ []

unfoldable pub table : List Row
table =
    -- what lies past the file and past the ops stays
    takes p10_adds 29 1 (257 ∷ 258 ∷ []) 259 29 102 (siblings_then column []) 1 (concat column ++ (9 ∷ []))
    -- each move is tested in the tree left by those before: the same node twice, the second time upward; 258 upward too, since 257, under
    -- which it lies, went down before it
    ∷ takes p10_adds 28 2 (258 ∷ 258 ∷ []) 257 28 102 (siblings_then [] twice) 0 (concat twice)
    ∷ takes (p12 [] []) 28 2 (257 ∷ 258 ∷ []) 260 28 116 (p12 [] nested) 0 (concat nested)
    -- "fates later on are each move's own": replica 2, which has met neither move of the first row, puts 259 under 257
    ∷ outcomes (siblings_then column (op_bytes 4 2 259 257 (vector 3 0 0) ∷ [])) (three [] (1 ∷ 1 ∷ 1 ∷ 3 ∷ 1 ∷ []) (1 ∷ []) [])
    -- one is refused, in the middle, at the end or at the front: an unknown node; the number of the op before; the parent itself; a node
    -- above the parent; a marked node; a marked parent
    ∷ leaves (file_then p10_adds 42) 1 (257 ∷ 999 ∷ 258 ∷ []) 259 42 7
    ∷ leaves (file_then p10_adds 28) 1 (257 ∷ 260 ∷ []) 259 28 7
    ∷ leaves (file_then p10_adds 28) 1 (257 ∷ 259 ∷ []) 259 28 7
    ∷ leaves (file_then (p12 [] []) 28) 2 (257 ∷ 259 ∷ []) 260 28 10
    ∷ leaves (file_then pruned 28) 2 (513 ∷ 257 ∷ []) 258 28 11
    ∷ leaves (file_then pruned 28) 2 (513 ∷ 258 ∷ []) 257 28 11
    -- 8 is the last test of each: room for one of two, and the second is unknown; room for none, and the first is unknown
    ∷ leaves (file_then p10_adds 27) 1 (257 ∷ 258 ∷ []) 259 28 8
    ∷ leaves (file_then p10_adds 14) 1 (257 ∷ 999 ∷ []) 259 28 7
    ∷ leaves (file_then p10_adds 13) 1 (257 ∷ 999 ∷ []) 259 28 8
    ∷ leaves (file_then p10_adds 13) 1 (999 ∷ 257 ∷ []) 259 28 7
    -- 2: a byte too few for two ops; 17 moves, and 16 pass. After 1 and before 3, and 3 before 7
    ∷ leaves (file_then p10_adds 28) 1 (257 ∷ 258 ∷ []) 259 27 2
    ∷ leaves (file_then p10_adds 28) 9 (replicate 17 257) 259 300 2
    ∷ leaves (file_then p10_adds 28) 1 (999 ∷ replicate 15 257) 259 224 7
    ∷ leaves (replicate 31 0) 9 (replicate 17 257) 259 300 1
    ∷ leaves (file_then p10_adds 28) 9 (999 ∷ []) 259 14 3
    -- an empty list: no room, an unknown parent, a marked one; after 1 and 3
    ∷ takes p10_adds 0 1 [] 257 1 74 p10_adds 0 (9 ∷ [])
    ∷ takes p10_adds 0 1 [] 999 0 74 p10_adds 0 []
    ∷ takes pruned 0 8 [] 257 0 116 pruned 0 []
    ∷ leaves [] 1 [] 0 0 1
    ∷ leaves (file_then p10_adds 0) 0 [] 0 0 3
    ∷ leaves (file_then p10_adds 0) 9 [] 0 0 3
    ∷ []

-- one row holds, and the others
infixr 40 ◌&◌
abbrev ◌&◌ : {A B : Type 0} → A → B → A × B
◌&◌ a b = (a, b)

-- every row of the table holds
pub table_holds : AllHold table
unfolding of_ops table siblings_then p12 pruned require unless_refused word_at word up_from down_from sum greatest same concat all any filter
    is_in replicas is_replica count_in kind_of replica_of node_of parent_of vector_of own_count seq_of node_number is_add is_remove is_move well_formed
    empty_log ops_of op_at counts_of append count_at start_at header_counts start_of end_of file_end chunks chunks_of log_of header_entry header_of
    file_of appended within covered closed_at closed is_known is_marked marked node_within knowledge known_parent names_known sound_op sound_ops
    sound_log sound_header laid structural sound slot slot_of parent_in climb path depth at_or_below ops_within added_in removed_in timestamp_in
    timestamp stamp stamped of_replica of_kind of_time by_time ordered start outcome_slot outcome_of step replay parents_of outcomes_of op_bytes
    move_kind issued request_known request_unmarked request_clear issue_answer issue_buffer move_buffer moves_buffer moves_answer moves_ops batch_fits
    batch_answer batch_buffer batch_out
table_holds =
    refl & refl & refl & refl & refl & refl & refl & refl & refl & refl & refl & refl & refl & refl & refl & refl
    & refl & refl & refl & refl & refl & refl & refl & refl & refl & tt
