-- A meeting worked out: what the definitions of Exchange give for the document's P1.
use Rattle.std.specs.Prelude.{ℕ, replicate, Bool, true, false, ◌||◌, List, [], ◌∷◌, ◌++◌, refl, ◌≡◌}
use Rattle.std.specs.Int.Count.{ones, ones_in}
use Rattle.std.proofs.Math.Bool.{or-true}
use Rattle.std.proofs.Common.{arith}
use Rattle.convergence.specs.Clash.{Move, circle, beats, put_out, BothIssued, OnlyAdded, Arrivals}
use Rattle.convergence.specs.Converges.{expected}
use Rattle.convergence.specs.Exchange.{Side, Round, left, Offer, Pair, Call, issue, deliver, open_bundle, run, right, make, missing, after, answers, accepted_by, answer, answer_to, acceptances, is_side, arrange, in_order, everything, other, perform, op_numbered, begun, added, has, only_in, buffer_after, offered}
use Rattle.rules.specs.Answer.{require, unless_refused}
use Rattle.rules.specs.Bytes.{word_at, word}
use Rattle.lists.specs.Lists.{all, up_from, down_from, sum, concat, greatest, same, any, filter, is_in}
use Rattle.rules.specs.Deliver.{make_answer, deliver_buffer, make_buffer, deliver_answer, held_answer, admit_answer, is_held}
use Rattle.rules.specs.Bundle.{counts_read, head_counts, head_size, bodies_in, ops_by, whole_bundle, turns_answer, turns_buffer, turns_taken, open_answer, open_buffer}
use Rattle.rules.specs.Examples.{a₁, a₂, a₃, b₁, p1, p1_file, p1_bundle}
use Rattle.rules.specs.Issue.{op_bytes, add, move, request_known, request_unmarked, issued, issue_answer, request_clear, issue_buffer, issue_out}
use Rattle.rules.specs.Tree.{move_kind, climb, path, at_or_below, slot, slot_of, depth, parent_in}
use Rattle.rules.specs.File.{empty_log, ops_of, op_at, counts_of, append, count_at, start_at, header_counts, start_of, end_of, file_end, chunks, chunks_of, log_of, header_entry, header_of, file_of, within, appended, width}
use Rattle.rules.specs.Log.{covered, closed_at, closed, known_parent, names_known, sound_op, sound_ops, sound_log, sound_header, laid, structural}
use Rattle.rules.specs.Op.{Op, replicas, is_replica, count_in, kind_of, replica_of, node_of, parent_of, vector_of, own_count, seq_of, node_number, is_add, is_remove, is_move, well_formed}
use Rattle.rules.specs.Replay.{of_time, timestamp_in, stamped, parents_of, of_replica, by_time, of_kind, start, outcome_slot, outcome_of, ops_within, removed_in, stamp, ordered, outcomes_of, replay, timestamp, step}
use Rattle.rules.specs.Marks.{is_known, is_marked, knowledge, marked, node_within}
use Rattle.rules.specs.Sound.{sound}

-- refused calls and a second making among them
abbrev calls₁ : List Call
calls₁ =
    issue (replicate 14 9) 1 (add 0)
    ∷ deliver []
    ∷ issue (replicate 15 9) 1 (add 0)
    ∷ issue [] 1 (add 0)
    ∷ issue (replicate 14 9) 1 (move 258 257)
    ∷ []

abbrev calls₂ : List Call
calls₂ =
    deliver a₁ ∷ make ∷ deliver a₂ ∷ deliver a₁ ∷ deliver a₁ ∷ deliver a₂ ∷ issue (replicate 14 9) 2 (move 257 258) ∷ []

-- the two adds come in a bundle, after one with a body that is early; then all of P1 in one, of which two ops are new
abbrev calls₃ : List Call
calls₃ =
    open_bundle (1 ∷ 2 ∷ (a₁ ++ a₃)) ∷ open_bundle (1 ∷ 2 ∷ (a₁ ++ a₂)) ∷ open_bundle p1_bundle ∷ []

abbrev pair : List Call → Pair
pair calls left = run (replicate 102 7) calls₁
pair calls right = run (replicate 88 7) calls

abbrev to : Side → Op → Offer
to d r = record { to = d; op = r }

-- a round in which both sides lack one op
abbrev round : Round
round = to right a₃ ∷ to left a₂ ∷ to left b₁ ∷ to right a₁ ∷ to left a₁ ∷ to right a₃ ∷ to right a₂ ∷ to left b₁ ∷ []

-- the latest first, to a side with nothing: one op in each round
abbrev backward : Round
backward = to right a₃ ∷ to right a₂ ∷ to right a₁ ∷ []

abbrev rounds : List Round
rounds = backward ∷ (to left a₁ ∷ backward) ∷ (backward ++ (to left a₂ ∷ to left a₁ ∷ [])) ∷ []

pub record Met : Type 0 where
  pub held_left : (pair calls₂ left).held ≡ a₁ ∷ a₂ ∷ a₃ ∷ []
  pub held_right : (pair calls₂ right).held ≡ a₁ ∷ a₂ ∷ b₁ ∷ []
  -- what opening bundles adds
  pub held_opened : (pair calls₃ right).held ≡ a₁ ∷ a₂ ∷ b₁ ∷ a₃ ∷ []
  pub file_opened : (pair calls₃ right).buffer ≡ p1_file
  -- two ops are missing, and one round brings both over; the two files are then P1's
  pub missing_two : missing (pair calls₂) ≡ a₃ ∷ b₁ ∷ []
  pub none_missing : missing (after (pair calls₂) round) ≡ []
  pub answers_expected : all (λ x. expected x.answered) (answers (pair calls₂) round) ≡ true
  pub taken_left : accepted_by left (answers (pair calls₂) round) ≡ b₁ ∷ []
  pub taken_right : accepted_by right (answers (pair calls₂) round) ≡ a₃ ∷ []
  pub file_left : (after (pair calls₂) round left).buffer ≡ p1_file ++ replicate 14 7
  pub file_right : (after (pair calls₂) round right).buffer ≡ p1_file
  -- in the worst order each round brings one
  pub first_round : missing (after (pair []) backward) ≡ a₂ ∷ a₃ ∷ []
  pub last_round : missing (after (pair []) (concat rounds)) ≡ []
  pub in_turn : accepted_by right (answers (pair []) (concat rounds)) ≡ a₁ ∷ a₂ ∷ a₃ ∷ []

pub met : Met
unfolding p1 p1_file require word_at word up_from down_from sum greatest same concat all any filter is_in replicas is_replica count_in kind_of
    replica_of node_of parent_of vector_of own_count seq_of node_number is_add is_remove is_move well_formed empty_log ops_of op_at counts_of append
    count_at start_at header_counts start_of end_of file_end chunks chunks_of log_of header_entry header_of file_of within covered closed_at closed
    is_known is_marked node_within marked knowledge known_parent names_known sound_op sound_ops sound_log sound_header laid structural sound
    make_answer is_held held_answer admit_answer deliver_answer slot slot_of parent_in climb path depth at_or_below ops_within timestamp_in timestamp
    stamp stamped of_replica of_kind of_time by_time ordered start outcome_slot outcome_of step replay parents_of outcomes_of op_bytes move_kind
    issued request_known request_unmarked request_clear issue_answer make_buffer deliver_buffer appended issue_buffer issue_out answer buffer_after
    begun added perform run has op_numbered in_order arrange other is_side only_in missing answer_to offered after answers acceptances accepted_by
    expected everything removed_in ones ones_in counts_read head_counts head_size bodies_in ops_by whole_bundle unless_refused turns_answer
    turns_buffer turns_taken open_answer open_buffer
met = record {
  held_left = refl;
  held_right = refl;
  held_opened = refl;
  file_opened = refl;
  missing_two = refl;
  none_missing = refl;
  answers_expected = refl;
  taken_left = refl;
  taken_right = refl;
  file_left = refl;
  file_right = refl;
  first_round = refl;
  last_round = refl;
  in_turn = refl;
}

---- P1's two moves as a clash

abbrev moved₁ : Move
moved₁ = record { replica = 1; node = 258; parent = 257 }

abbrev moved₂ : Move
moved₂ = record { replica = 2; node = 257; parent = 258 }

-- the two adds, with room for two ops more
abbrev shared : List ℕ
shared = (run (replicate 88 7) (deliver a₁ ∷ deliver a₂ ∷ [])).buffer

abbrev lent : List ℕ
lent = replicate 14 9

-- all that `ClashDecided` and `BothArrive` speak of holds of them, and replica 2's wins
pub record Clashed : Type 0 where
  pub both_issued : BothIssued shared shared lent lent moved₁ moved₂
  pub first_op : put_out shared lent moved₁ ≡ a₃
  pub second_op : put_out shared lent moved₂ ≡ b₁
  pub both_arrive : Arrivals shared shared lent lent moved₁ moved₂ a₃ b₁
  pub circle_closed : circle (parents_of (log_of width shared)) moved₁ moved₂ ≡ true
  pub second_beats : beats (parents_of (log_of width shared)) moved₂ moved₁ ≡ true

-- four ops in the order of the file, or the last two first
last_first : (a b c d : Bool) → (a || (b || (c || (d || false)))) ≡ (c || (d || (a || (b || false))))
last_first true b c d = simp or-true
last_first false true c d = simp or-true
last_first false false c d = refl

-- each way of arriving comes to the same file
arrived : (h : List ℕ) → h ≡ p1_file → OnlyAdded shared h (a₃ ∷ b₁ ∷ [])
unfolding p1 p1_file require word_at word up_from sum same concat all any replicas is_replica count_in kind_of replica_of node_of parent_of
    vector_of own_count seq_of node_number is_add is_remove well_formed empty_log ops_of op_at counts_of append count_at start_at header_counts start_of
    end_of file_end chunks chunks_of log_of header_entry header_of file_of within covered closed_at closed is_known node_within marked
    knowledge known_parent names_known sound_op sound_ops sound_log sound_header laid structural sound make_answer is_held held_answer admit_answer
    deliver_answer op_bytes make_buffer deliver_buffer appended answer buffer_after begun added perform run has removed_in ops_within filter is_in
arrived h e = rw e (record {
  is_sound_so = refl;
  ops = λ z. last_first (same z a₁) (same z a₂) (same z a₃) (same z b₁);
})

pub clashed : Clashed
unfolding p1 p1_file require word_at word up_from down_from sum greatest same concat all any filter is_in replicas is_replica count_in kind_of
    replica_of node_of parent_of vector_of own_count seq_of node_number is_add is_remove is_move well_formed empty_log ops_of op_at counts_of append
    count_at start_at header_counts start_of end_of file_end chunks chunks_of log_of header_entry header_of file_of within covered closed_at closed
    is_known is_marked node_within marked knowledge known_parent names_known sound_op sound_ops sound_log sound_header laid structural sound
    make_answer is_held held_answer admit_answer deliver_answer slot slot_of parent_in climb path depth at_or_below ops_within timestamp_in timestamp
    stamp stamped of_replica of_kind of_time by_time ordered start outcome_slot outcome_of step replay parents_of outcomes_of op_bytes move_kind
    issued request_known request_unmarked request_clear issue_answer make_buffer deliver_buffer appended issue_buffer issue_out answer buffer_after
    begun added perform run circle beats removed_in
clashed = record {
  both_issued = record {
    one_log = refl;
    replicas_differ = λ e. omega arith;
    end = 74;
    end' = 74;
    first = refl;
    second = refl;
  };
  first_op = refl;
  second_op = refl;
  both_arrive = record {
    x_issued = record { one_accepted = refl; next_accepted = refl; both_added = arrived _ refl };
    y_issued = record { one_accepted = refl; next_accepted = refl; both_added = arrived _ refl };
    x_first = record { one_accepted = refl; next_accepted = refl; both_added = arrived _ refl };
    y_first = record { one_accepted = refl; next_accepted = refl; both_added = arrived _ refl };
  };
  circle_closed = refl;
  second_beats = refl;
}
