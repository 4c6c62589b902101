-- The document's worked examples hold: every row of the table.
use Rattle.std.specs.Prelude.{ℕ, zero, suc, ◌<◌, length, get_or, List, [], ◌∷◌, refl}
use Rattle.std.specs.Int.Count.{ones, ones_in}
use Rattle.std.proofs.Common.{le_of_suc-le-suc, not-suc-le-zero}
use Rattle.rules.specs.Answer.{require, unless_refused}
use Rattle.rules.specs.Bytes.{word_at, word}
use Rattle.lists.specs.Lists.{up_from, down_from, sum, greatest, same, concat, all, any, filter, is_in, index_of}
use Rattle.rules.specs.Bundle.{beyond_counts, head_byte, head_of, is_beyond, ops_beyond, bundle_of, bundle_answer, bundle_call, head_size, counts_read, head_counts, bodies_in, ops_by, whole_bundle, turns_answer, turns_buffer, open_answer, open_buffer}
use Rattle.rules.specs.Holdback.{holdback_ops, holdback_of, sound_holdback, stays, look, search_on, looks, search, waits, put_back, early_answer, released, answer_on, holdback_answer, holdback_buffer, holdback_after}
use Rattle.rules.specs.Deliver.{make_answer, is_held, held_answer, admit_answer, deliver_answer, deliver_buffer}
use Rattle.rules.specs.Issue.{op_bytes, issued, request_known, request_unmarked, request_clear, issue_answer, issue_out}
use Rattle.rules.specs.Tree.{move_kind, slot, slot_of, parent_in, climb, path, depth, at_or_below, climb_to}
use Rattle.rules.specs.Judge.{judge_answer}
use Rattle.rules.specs.Listing.{children, preorder, digits, decimal, line_of, line, listing_in, listing_of, listing_answer, listing, listing_size, refused_line, outline}
use Rattle.rules.specs.File.{empty_log, ops_of, op_at, counts_of, append, count_at, start_at, header_counts, start_of, end_of, file_end, chunks, chunks_of, log_of, header_entry, header_of, file_of, appended, within}
use Rattle.rules.specs.Log.{covered, closed_at, closed, known_parent, names_known, sound_op, sound_ops, sound_log, sound_header, laid, structural}
use Rattle.rules.specs.Measure.{end_answer, counts_answer, counts_call}
use Rattle.rules.specs.Op.{replicas, is_replica, count_in, kind_of, replica_of, node_of, parent_of, vector_of, own_count, seq_of, node_number, is_add, is_remove, is_move, well_formed}
use Rattle.rules.specs.Path.{path_of, path_answer, path_call}
use Rattle.rules.specs.Replay.{ops_within, added_in, removed_in, timestamp_in, timestamp, stamp, stamped, of_replica, of_kind, of_time, by_time, ordered, start, outcome_slot, outcome_of, step, replay, parents_of, outcomes_of}
use Rattle.rules.specs.Sound.{sound}
use Rattle.rules.specs.Views.{nodes, shown}
use Rattle.rules.specs.Marks.{is_known, is_marked, marked, node_within, knowledge}
use Rattle.rules.specs.Examples.{Row, Holds, AllHold, prints, table, of_ops, p1, p1_adds, p1_file, p1_buffer, empty_file, p10, p11, p11_all, p12, p12_all, rivals, rivals2, rivals3, chain, pruned, pruned_file, pruned_buffer, reworked, crowd}

-- one row holds, and the others
infixr 40 ◌&◌
abbrev ◌&◌ : {A B : Type 0} → A → B → A × B
◌&◌ a b = (a, b)

-- every row of the table holds
pub table_holds : AllHold table
unfolding of_ops table p1 p1_adds p1_file p1_buffer empty_file p10 p11 p11_all p12 p12_all rivals rivals2 rivals3 chain pruned pruned_file
    pruned_buffer reworked require word_at word up_from down_from sum greatest same concat all any filter is_in replicas is_replica count_in
    kind_of replica_of node_of parent_of vector_of own_count seq_of node_number is_add is_remove is_move well_formed empty_log ops_of op_at counts_of
    append count_at start_at header_counts start_of end_of file_end chunks chunks_of log_of header_entry header_of file_of within covered closed_at
    closed is_known is_marked node_within knowledge known_parent names_known sound_op sound_ops sound_log sound_header laid structural sound
    make_answer is_held held_answer admit_answer deliver_answer slot slot_of parent_in climb path depth at_or_below index_of climb_to ops_within
    added_in removed_in timestamp_in timestamp stamp stamped of_replica of_kind of_time by_time ordered start outcome_slot outcome_of step replay
    parents_of outcomes_of op_bytes move_kind issued request_known request_unmarked request_clear issue_answer issue_out nodes marked shown
    children preorder digits decimal line_of line listing_in listing_of listing_answer listing listing_size refused_line outline judge_answer
    path_of path_answer path_call end_answer counts_answer counts_call appended deliver_buffer ones ones_in beyond_counts head_byte head_of
    is_beyond ops_beyond bundle_of bundle_answer bundle_call head_size counts_read head_counts bodies_in ops_by whole_bundle unless_refused
    turns_answer turns_buffer open_answer open_buffer crowd holdback_ops holdback_of sound_holdback stays look search_on looks search waits
    put_back early_answer released answer_on holdback_answer holdback_buffer holdback_after
table_holds =
    (refl, refl) & refl & refl & refl & refl & refl & refl & refl & refl & refl & refl & refl & refl & refl & refl
    & refl & refl & refl & refl & refl & refl & refl & refl & refl & refl & refl & refl & refl & refl & refl & refl
    & refl & refl & refl & refl & refl & refl & refl & refl & refl & refl & refl & refl & refl & refl & refl & refl
    & refl & refl & (refl, refl) & refl & refl & refl & refl & (refl, refl) & refl & refl & refl & refl & refl
    & (refl, refl) & refl & refl & refl & refl & refl & refl & refl & refl & refl & refl & refl & refl & refl & refl
    & refl & refl & refl & (refl, refl) & refl & refl & refl & refl & refl & refl & refl & refl & refl & refl & refl
    & refl & refl & refl & refl & refl & refl & refl & refl & refl & refl & refl & refl & refl & refl & refl & refl
    & refl & refl & refl & refl & refl & (refl, refl) & refl & refl & refl & refl & refl & refl & refl & refl & refl
    & refl & refl & refl & refl & refl & refl & refl & refl & refl & refl & refl & refl & refl & refl & refl & refl
    & refl & refl & refl & refl & refl & refl & refl & refl & refl & refl & refl & refl & refl & refl & refl & refl
    & refl & refl & refl & refl & refl & refl & refl & refl & refl & refl & refl & refl & refl & refl & refl & refl
    & refl & refl & refl & refl & refl & refl & refl & refl & refl & refl & refl & refl & refl & refl & refl & refl
    & refl & refl & refl & refl & tt

-- what holds of all rows holds of each
each : (xs : List Row) (d : Row) → AllHold xs → (k : ℕ) → k < length xs → Holds (get_or xs k d)
each [] d h k l = absurd (not-suc-le-zero l)
each (x ∷ xs) d h zero l = h.0
each (x ∷ xs) d h (suc k) l = each xs d h.1 k (le_of_suc-le-suc l)

-- row k of the table
pub row : (k : ℕ) → k < length table → Holds (get_or table k (prints [] []))
row k l = each table (prints [] []) table_holds k l
