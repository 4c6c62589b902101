-- Deliveries with one holdback worked out: P1's ops by post, the latest first, beside the same offered plainly.
use Rattle.std.specs.Prelude.{ℕ, replicate, true, false, List, [], ◌∷◌, ◌++◌, refl, ◌≡◌}
use Rattle.convergence.specs.Exchange.{deliver_holdback, perform, lent, answer, buffer_after, begun, added, has}
use Rattle.convergence.specs.Holding.{post, posted, cleared, accepts, none_accepted, offer_rounds, over_and_over, reads, different}
use Rattle.lists.specs.Lists.{all, up_from, sum, concat, same, any, filter, is_in}
use Rattle.rules.specs.Answer.{Answer, waiting, accepted, require}
use Rattle.rules.specs.Bytes.{word_at, word}
use Rattle.rules.specs.Bundle.{turns_buffer}
use Rattle.rules.specs.Deliver.{deliver_buffer, deliver_answer, held_answer, admit_answer, is_held}
use Rattle.rules.specs.Examples.{a₁, a₂, a₃, b₁, unknown₁, p1, p1_file, empty_file, empty_then}
use Rattle.rules.specs.File.{empty_log, ops_of, op_at, counts_of, append, count_at, start_at, header_counts, start_of, end_of, file_end, chunks, chunks_of, log_of, header_entry, header_of, file_of, within, appended, width}
use Rattle.rules.specs.Holdback.{Desk, holdback_ops, holdback_of, sound_holdback, stays, look, search_on, looks, search, waits, put_back, early_answer, released, answer_on, holdback_answer, holdback_buffer, holdback_after, holdback_taken}
use Rattle.rules.specs.Issue.{op_bytes}
use Rattle.rules.specs.Log.{covered, closed_at, closed, known_parent, names_known, sound_op, sound_ops, sound_log, sound_header, laid, structural}
use Rattle.rules.specs.Marks.{is_known, knowledge, marked, node_within}
use Rattle.rules.specs.Op.{Op, replicas, is_replica, count_in, kind_of, replica_of, node_of, parent_of, vector_of, own_count, seq_of, node_number, is_add, is_remove, well_formed}
use Rattle.rules.specs.Replay.{ops_within, removed_in}
use Rattle.rules.specs.Sound.{sound}

-- with one that names a node which nobody adds, and one that comes twice
abbrev letters : List Op
letters = a₃ ∷ b₁ ∷ unknown₁ ∷ a₃ ∷ a₂ ∷ a₁ ∷ []

-- an empty log with room for P1 and two bytes
abbrev buffer : List ℕ
buffer = empty_then 58

-- the answers, each call being lent what the last one left
unfoldable pub answers : Desk → List Op → List Answer
answers d [] = []
answers d (r ∷ rs) = holdback_answer width d.buffer r d.holdback ∷ answers (post width d r) rs

pub record ByPost : Type 0 where
  -- all wait, until the first op of all comes and brings the others
  pub all_wait : answers (cleared width buffer) letters ≡ waiting ∷ waiting ∷ waiting ∷ waiting ∷ waiting ∷ accepted 88 ∷ []
  pub the_file : (posted width (cleared width buffer) letters).buffer ≡ p1_file ++ (7 ∷ 7 ∷ [])
  pub none_waits : (posted width (cleared width buffer) letters).holdback ≡ holdback_of width []
  -- plainly: three rounds, and then none is accepted
  pub one_round : offer_rounds 1 width buffer letters ≡ file_of width (append empty_log a₁) ++ replicate 44 7
  pub two_rounds : none_accepted width (offer_rounds 2 width buffer letters) letters ≡ false
  pub three_rounds : offer_rounds 3 width buffer letters ≡ p1_file ++ (7 ∷ 7 ∷ [])
  pub over : over_and_over width buffer letters ≡ p1_file ++ (7 ∷ 7 ∷ [])
  pub ended : none_accepted width (over_and_over width buffer letters) letters ≡ true
  -- each op counts once for the space
  pub five : different letters ≡ b₁ ∷ unknown₁ ∷ a₃ ∷ a₂ ∷ a₁ ∷ []
  -- what the last call holds of the ops that it adds, in a list of calls
  pub held : (perform (lent buffer) (deliver_holdback a₁ (holdback_of width (a₃ ∷ b₁ ∷ a₂ ∷ [])))).held ≡ a₁ ∷ a₂ ∷ a₃ ∷ b₁ ∷ []

pub by_post : ByPost
unfolding p1 p1_file empty_file require word_at word up_from sum same concat all any filter is_in replicas is_replica count_in kind_of replica_of
    node_of parent_of vector_of own_count seq_of node_number is_add is_remove well_formed empty_log ops_of op_at counts_of append count_at start_at
    header_counts start_of end_of file_end chunks chunks_of log_of header_entry header_of file_of within covered closed_at closed is_known node_within
    marked knowledge known_parent names_known sound_op sound_ops sound_log sound_header laid structural sound is_held held_answer admit_answer
    deliver_answer deliver_buffer appended op_bytes ops_within removed_in turns_buffer holdback_ops holdback_of sound_holdback stays look search_on
    looks search waits put_back early_answer released answer_on holdback_answer holdback_buffer holdback_after holdback_taken answers post posted
    cleared accepts none_accepted offer_rounds over_and_over reads different has answer buffer_after begun added perform
by_post = record {
  all_wait = refl;
  the_file = refl;
  none_waits = refl;
  one_round = refl;
  two_rounds = refl;
  three_rounds = refl;
  over = refl;
  ended = refl;
  five = refl;
  held = refl;
}
