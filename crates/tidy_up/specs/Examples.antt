-- A tidy-up worked out, and what takes the promise away.
use Rattle.std.specs.Prelude.{ℕ, ◌+◌, get_or, replicate, Bool, true, false, ◌||◌, List, [], ◌∷◌, ◌++◌, ◌≡◌, refl}
use Rattle.std.proofs.Math.Bool.{or-true}
use Rattle.std.proofs.Common.{arith}
use Rattle.rules.specs.Answer.{accepted, require}
use Rattle.rules.specs.Bytes.{word_at, word}
use Rattle.lists.specs.Lists.{up_from, down_from, sum, greatest, same, concat, all, any, filter, is_in}
use Rattle.rules.specs.Bundle.{turns_buffer}
use Rattle.rules.specs.Deliver.{deliver_answer, deliver_buffer, held_answer, admit_answer, is_held}
use Rattle.rules.specs.Issue.{move, op_bytes, issued, request_known, request_unmarked, request_clear, issue_answer, issue_out}
use Rattle.rules.specs.Tree.{move_kind, slot, slot_of, parent_in, climb, path, depth, at_or_below}
use Rattle.rules.specs.File.{Log, empty_log, ops_of, op_at, counts_of, append, count_at, start_at, header_counts, start_of, end_of, file_end, chunks, chunks_of, log_of, header_entry, header_of, file_of, appended, within, width}
use Rattle.rules.specs.Log.{covered, closed_at, closed, known_parent, names_known, sound_op, sound_ops, sound_log, sound_header, laid, structural}
use Rattle.rules.specs.Marks.{is_known, is_marked, marked, node_within, knowledge}
use Rattle.rules.specs.Op.{Op, replicas, is_replica, count_in, kind_of, replica_of, node_of, parent_of, vector_of, own_count, seq_of, node_number, is_add, is_remove, is_move, well_formed}
use Rattle.rules.specs.Replay.{ops_within, added_in, removed_in, timestamp_in, timestamp, stamp, stamped, of_replica, of_kind, of_time, by_time, ordered, start, outcome_slot, outcome_of, step, replay, parents_of, outcomes_of}
use Rattle.rules.specs.Sound.{sound}
use Rattle.rules.specs.Examples.{adds, of_ops, p10, p10_adds, p11, p11_all, p12, siblings, three, vector}
use Rattle.convergence.specs.Clash.{Move, OnlyAdded}
use Rattle.convergence.specs.Exchange.{has}
use Rattle.tidy_up.specs.TidyUp.{UpwardMoves, applied_to, none_lost, one_applied, outcome_in}

---- logs

-- the news (257), below it the summer (258), and below that the fete (259) and the raffle (260)
unfoldable pub crowded : List Op → List Op → List Op → Log
crowded one two three' = three []
    ((adds 1 1 0 (vector 0 0 0) ∷ adds 1 2 257 (vector 1 0 0) ∷ adds 1 3 258 (vector 2 0 0) ∷ adds 1 4 258 (vector 3 0 0) ∷ []) ++ one)
    two three'

-- replica 1 takes the fete to the root, replica 2 takes it under the news, and replica 3 takes the summer to the root
abbrev up₁ : Op
up₁ = op_bytes 3 1 259 0 (vector 4 0 0)

abbrev up₂ : Op
up₂ = op_bytes 3 2 259 257 (vector 4 0 0)

abbrev up₃ : Op
up₃ = op_bytes 3 3 258 0 (vector 4 0 0)

unfoldable pub tidied : Log
tidied = crowded (up₁ ∷ []) (up₂ ∷ []) (up₃ ∷ [])

-- P12's tree, 258 below 257 and 260 below 259; replica 1 takes 258 under 259. Replica 2 has not met the last add, and puts 259 under 258
abbrev over : Op
over = op_bytes 3 1 258 259 (vector 4 0 0)

abbrev under : Op
under = op_bytes 4 2 259 258 (vector 3 0 0)

unfoldable pub first_three : Log
first_three = three [] (adds 1 1 0 (vector 0 0 0) ∷ adds 1 2 257 (vector 1 0 0) ∷ adds 1 3 0 (vector 2 0 0) ∷ []) [] []

unfoldable pub further : Log
further = p12 (over ∷ []) (under ∷ [])

-- 257 and 513 by replicas that had not met; replicas 1 and 2, which have then, move 257 to the root, where it is. Replica 3 has met 257
-- alone, and moves it there too: upward, and with the timestamp of the others
abbrev stay₁ : Op
stay₁ = op_bytes 3 1 257 0 (vector 1 1 0)

abbrev stay₂ : Op
stay₂ = op_bytes 3 2 257 0 (vector 1 1 0)

abbrev stay₃ : Op
stay₃ = op_bytes 3 3 257 0 (vector 1 0 0)

unfoldable pub unmet : List Op → List Op → List Op → Log
unmet one two three' = three [] (adds 1 1 0 (vector 0 0 0) ∷ one) (adds 2 1 0 (vector 0 0 0) ∷ two) three'

-- replica 2 takes the fete under the news, and then to the root
abbrev again : Op
again = op_bytes 3 2 259 0 (vector 4 1 0)

unfoldable pub twice : Log
twice = crowded [] (up₂ ∷ again ∷ []) []

-- siblings a and b; replica 2 says "upward" of a under b, replica 3 of b under a: no replica issues these
abbrev said₂ : Op
said₂ = op_bytes 3 2 257 258 (vector 3 0 0)

abbrev said₃ : Op
said₃ = op_bytes 3 3 258 257 (vector 3 0 0)

unfoldable pub unissued : Log
unissued = three [] (siblings 1 (λ k. vector k 0 0)) (said₂ ∷ []) (said₃ ∷ [])

---- rows

pub data Row : Type 0 where
  -- a replica that issues a move of a node to a parent, where a log lies with room for it, is accepted and puts out this op
  puts : Log → (replica node parent : ℕ) → Op → Row
  -- the outcomes of all ops of a log, and the parents of nodes
  outcomes : Log → List (List ℕ) → Row
  hangs : Log → (node parent : ℕ) → Row
  -- of these ops none has outcome 3, or one has; of those that move the same node exactly one is applied, or not
  promised : Log → List Op → (none one : Bool) → Row
  -- a log is sound
  is_sound : Log → Row

abbrev pub Holds : Row → Type 0
Holds (puts log s n p r) =
    let f = file_of width log ++ replicate width 7 in
    (issue_answer width f width s (move n p) ≡ accepted (file_end width f + width)) × (issued log s (move n p) ≡ r)
Holds (outcomes log os) = of_ops (λ s q. get_or (outcomes_of log) (slot s q) 0) log ≡ os
Holds (hangs log n p) = parent_in (parents_of log) n ≡ p
Holds (promised log ops none one) = (none_lost log ops ≡ none) × (one_applied log ops ≡ one)
Holds (is_sound log) = sound_log log ≡ true

abbrev pub AllHold : List Row → Type 0
AllHold [] = Unit {0}
AllHold (x ∷ xs) = Holds x × AllHold xs

unfoldable pub table : List Row
table =
    -- the higher replica's move of the fete is applied, and the raffle stays below the summer
    outcomes tidied (three [] (1 ∷ 1 ∷ 1 ∷ 1 ∷ 2 ∷ []) (1 ∷ []) (1 ∷ []))
    ∷ hangs tidied 257 0
    ∷ hangs tidied 258 0
    ∷ hangs tidied 259 257
    ∷ hangs tidied 260 258
    ∷ promised tidied (up₁ ∷ up₂ ∷ up₃ ∷ []) true true
    -- no moves: nothing is promised of a node that nobody moves
    ∷ promised (crowded [] [] []) [] true true
    -- "P11 shows an upward move that loses": replica 1's second move; it saw one move more than the siblings
    ∷ puts (p11 (op_at p11_all 1 1 ∷ []) []) 1 769 770 (op_at p11_all 1 2)
    ∷ puts (p11 [] (op_at p11_all 2 1 ∷ [])) 2 770 769 (op_at p11_all 2 2)
    ∷ promised p11_all (op_at p11_all 1 2 ∷ op_at p11_all 2 2 ∷ []) false false
    -- "one further move by anybody can take this away": a downward one, after which the upward one has outcome 3
    ∷ puts (p12 [] []) 1 258 259 over
    ∷ promised (p12 (over ∷ []) []) (over ∷ []) true true
    ∷ puts first_three 2 259 258 under
    ∷ is_sound further
    ∷ promised further (over ∷ []) false false
    -- and an upward one, after which of the two that move 257 none is applied
    ∷ puts (unmet [] [] []) 1 257 0 stay₁
    ∷ puts (unmet [] [] []) 2 257 0 stay₂
    ∷ promised (unmet (stay₁ ∷ []) (stay₂ ∷ []) []) (stay₁ ∷ stay₂ ∷ []) true true
    ∷ puts (three [] (adds 1 1 0 (vector 0 0 0) ∷ []) [] []) 3 257 0 stay₃
    ∷ is_sound (unmet (stay₁ ∷ []) (stay₂ ∷ []) (stay₃ ∷ []))
    ∷ promised (unmet (stay₁ ∷ []) (stay₂ ∷ []) (stay₃ ∷ [])) (stay₁ ∷ stay₂ ∷ []) true false
    -- downward moves, P10's
    ∷ promised p10 (op_at p10 1 4 ∷ op_at p10 2 1 ∷ op_at p10 3 1 ∷ []) false false
    -- two moves of one replica: both are applied
    ∷ puts (crowded [] (up₂ ∷ []) []) 2 259 0 again
    ∷ promised twice (up₂ ∷ again ∷ []) true false
    -- moves that nobody issued: the same, issued, are downward
    ∷ puts p10_adds 2 257 258 (op_bytes 4 2 257 258 (vector 3 0 0))
    ∷ puts p10_adds 3 258 257 (op_bytes 4 3 258 257 (vector 3 0 0))
    ∷ is_sound unissued
    ∷ promised unissued (said₂ ∷ said₃ ∷ []) false false
    ∷ []

-- one row holds, and the others
infixr 40 ◌&◌
abbrev ◌&◌ : {A B : Type 0} → A → B → A × B
◌&◌ a b = (a, b)

-- every row of the table holds
pub table_holds : AllHold table
unfolding table crowded tidied first_three further unmet unissued twice of_ops p10 p11 p11_all p12 outcome_in none_lost applied_to one_applied
    require word_at word up_from down_from sum greatest same concat all any filter is_in replicas is_replica count_in kind_of replica_of node_of
    parent_of vector_of own_count seq_of node_number is_add is_remove is_move well_formed empty_log ops_of op_at counts_of append count_at start_at
    header_counts start_of end_of file_end chunks chunks_of log_of header_entry header_of file_of within covered closed_at closed is_known is_marked
    marked node_within knowledge known_parent names_known sound_op sound_ops sound_log sound_header laid structural sound slot slot_of parent_in
    climb path depth at_or_below ops_within added_in removed_in timestamp_in timestamp stamp stamped of_replica of_kind of_time by_time ordered start
    outcome_slot outcome_of step replay parents_of outcomes_of op_bytes move_kind issued request_known request_unmarked request_clear issue_answer
table_holds =
    -- tidied
    refl & refl & refl & refl & refl & (refl, refl) & (refl, refl)
    -- P11
    & (refl, refl) & (refl, refl) & (refl, refl)
    -- a further move
    & (refl, refl) & (refl, refl) & (refl, refl) & refl & (refl, refl)
    & (refl, refl) & (refl, refl) & (refl, refl) & (refl, refl) & refl & (refl, refl)
    -- downward, twice, not issued
    & (refl, refl) & (refl, refl) & (refl, refl) & (refl, refl) & (refl, refl) & refl & (refl, refl) & tt

---- the theorem's premises

-- the outline before, with room for the three moves and 7s there
abbrev pub before : List ℕ
before = file_of width (crowded [] [] []) ++ replicate 42 7

abbrev lent : List ℕ
lent = replicate 14 9

abbrev pub three_moves : List Op
three_moves = up₁ ∷ up₂ ∷ up₃ ∷ []

abbrev by : (replica node parent : ℕ) → Move
by s n p = record { replica = s; node = n; parent = p }

-- replica 3's move arrives first, and comes once more
abbrev pub after : List ℕ
after = turns_buffer width before (up₃ ∷ up₁ ∷ up₃ ∷ up₂ ∷ [])

-- all that `TidyUp` speaks of
pub record Worked : Type 0 where
  pub is_sound_so : sound width before ≡ true
  pub upward_moves : UpwardMoves (log_of width before) three_moves
  pub only_added : OnlyAdded before after three_moves
  pub log_after : log_of width after ≡ tidied

-- the four adds and the three moves: in the order of the file, or the moves first
moves_first : (a b c d u v w : Bool)
    → (a || (b || (c || (d || (u || (v || (w || false))))))) ≡ (u || (v || (w || (a || (b || (c || (d || false)))))))
moves_first true b c d u v w = simp or-true
moves_first false true c d u v w = simp or-true
moves_first false false true d u v w = simp or-true
moves_first false false false true u v w = simp or-true
moves_first false false false false u v w = refl

pub worked : Worked
unfolding crowded tidied turns_buffer deliver_buffer deliver_answer held_answer admit_answer is_held has require word_at word up_from
    down_from sum greatest same concat all any filter is_in replicas is_replica count_in kind_of replica_of node_of parent_of vector_of own_count
    seq_of node_number is_add is_remove is_move well_formed empty_log ops_of op_at counts_of append count_at start_at header_counts start_of end_of file_end
    chunks chunks_of log_of header_entry header_of file_of appended within covered closed_at closed is_known is_marked marked node_within knowledge
    known_parent names_known sound_op sound_ops sound_log sound_header laid structural sound slot slot_of parent_in climb path depth at_or_below
    ops_within added_in removed_in timestamp_in timestamp stamp stamped of_replica of_kind of_time by_time ordered start outcome_slot outcome_of step
    replay parents_of outcomes_of op_bytes move_kind issued request_known request_unmarked request_clear issue_answer issue_out
worked = record {
  is_sound_so = refl;
  upward_moves = record {
    each = record { buffer = before; out = lent; asked = by 1 259 0; end = 102; very_log = refl; taken = refl; put = refl; upward = refl }
        & record { buffer = before; out = lent; asked = by 2 259 257; end = 102; very_log = refl; taken = refl; put = refl; upward = refl }
        & record { buffer = before; out = lent; asked = by 3 258 0; end = 102; very_log = refl; taken = refl; put = refl; upward = refl }
        & tt;
    replicas_differ = apart & apart & apart & tt;
  };
  only_added = record {
    is_sound_so = refl;
    ops = λ z. let old : ℕ → Bool = λ q. same z (op_at tidied 1 q) in
        moves_first (old 1) (old 2) (old 3) (old 4) (same z up₁) (same z up₂) (same z up₃);
  };
  log_after = refl;
}
  where
    apart : ◌≡◌ {A = Bool} false true → ⊥
    apart e = let z : ◌≡◌ {A = ℕ} 0 1 = cc in absurd (omega arith)
