-- Calls with a page worked out on P1, P11 and rival moves, as rows of one table that one theorem covers: ops that arrive late, pages
-- that are not true, and calls that leave the page.
use Rattle.std.specs.Prelude.{ℕ, drop, get_or, replicate, set, List, [], ◌∷◌, ◌++◌, ◌≡◌, refl}
use Rattle.rules.specs.Answer.{Answer, refused, had_it, accepted, require}
use Rattle.rules.specs.Bytes.{word_at, word}
use Rattle.lists.specs.Lists.{up_from, down_from, sum, greatest, same, concat, all, any, filter, is_in, index_of}
use Rattle.rules.specs.Deliver.{is_held, held_answer, admit_answer, deliver_answer}
use Rattle.rules.specs.Issue.{Request, add, move, op_bytes, issued, request_known, request_unmarked, request_clear, issue_answer}
use Rattle.rules.specs.Tree.{move_kind, most_ops, slot, slot_of, parent_in, climb, path, depth, at_or_below}
use Rattle.rules.specs.File.{Log, empty_log, ops_of, op_at, counts_of, append, count_at, start_at, header_counts, start_of, end_of, file_end, chunks, chunks_of, log_of, header_entry, header_of, file_of, appended, within, width}
use Rattle.rules.specs.Log.{covered, closed_at, closed, known_parent, names_known, sound_op, sound_ops, sound_log, sound_header, laid, structural}
use Rattle.rules.specs.Marks.{is_known, is_marked, marked, node_within, knowledge}
use Rattle.rules.specs.Op.{Op, replicas, is_replica, count_in, kind_of, replica_of, node_of, parent_of, vector_of, own_count, seq_of, node_number, is_add, is_remove, is_move, well_formed}
use Rattle.rules.specs.Replay.{ops_within, added_in, removed_in, timestamp_in, timestamp, stamp, stamped, of_replica, of_kind, of_time, by_time, ordered, start, outcome_slot, order_of, outcome_of, step, replay, parents_of}
use Rattle.rules.specs.Sound.{sound}
use Rattle.rules.specs.Examples.{a₁, a₂, a₃, b₁, of_ops, p1, p1_adds, p11, p11_one, p11_two, siblings, three, vector}
use Rattle.page_rules.specs.Page.{Page, page, padded, page_at, page_of, long_enough, shows, page_filled, sort_after, took_back, with_page, taken_with, page_with, deliver_page_answer, deliver_page, issue_page_answer, issue_page}

-- the file of a log, with room for one op more
abbrev roomy : Log → List ℕ
roomy log = file_of width log ++ replicate width 0

pub data Row : Type 0 where
  -- delivering to a log is accepted with this end and takes so many ops back; the page then has these outcomes for the ops of the log, and
  -- entries behind it are as they were
  takes : Log → (lent : Page) → Op → (end taken : ℕ) → List (List ℕ) → Row
  -- delivering to a buffer is answered otherwise, and the page is as it was
  leaves : (buffer : List ℕ) → (lent : Page) → Op → Answer → Row
  -- a replica that issues at a log, with just the room for the op, is answered, and so many ops are taken back
  issues : Log → (lent : Page) → (replica : ℕ) → Request → Answer → (taken : ℕ) → Row

-- what a row says
abbrev pub Holds : Row → Type 0
Holds (takes log lent r end taken os) =
    let c = deliver_page width (roomy log) r lent in
    (c.answer ≡ accepted end) × (c.taken ≡ taken) × (of_ops (λ s q. get_or c.page.outcomes (slot s q) 0) (append log r) ≡ os)
    × (drop most_ops c.page.order ≡ drop most_ops lent.order)
Holds (leaves f lent r a) =
    let c = deliver_page width f r lent in
    (c.answer ≡ a) × (c.taken ≡ 0) × (c.page ≡ lent)
Holds (issues log lent s q a taken) =
    let c = issue_page width (roomy log) (replicate width 9) s q lent in
    (c.answer ≡ a) × (c.taken ≡ taken)

abbrev pub AllHold : List Row → Type 0
AllHold [] = Unit {0}
AllHold (x ∷ xs) = Holds x × AllHold xs

---- logs

-- P1 before replica 2's move, and before replica 1's
unfoldable pub p1_early : Log
p1_early = three [] (a₁ ∷ a₂ ∷ a₃ ∷ []) [] []

unfoldable pub p1_other : Log
p1_other = three [] (a₁ ∷ a₂ ∷ []) (b₁ ∷ []) []

-- P11 before the second move of replica 2, and before both of its moves
abbrev one : List Op
one = p11_one ++ (op_bytes 3 1 769 770 (vector 1 0 3) ∷ [])

unfoldable pub p11_early : Log
p11_early = p11 one p11_two

unfoldable pub p11_first : Log
p11_first = p11 one []

-- siblings n, p and q; replica 1 puts n under q, replica 2 n under p
unfoldable pub rivals_early : Log
rivals_early = three []
    (siblings 1 (λ k. vector k 0 0) ++ (op_bytes 4 1 257 259 (vector 3 0 0) ∷ [])) (op_bytes 4 2 257 258 (vector 3 0 0) ∷ []) []

---- pages

-- with an entry changed in one of the tables; with entries behind them
abbrev stained_order : (at : ℕ) → Page → Page
stained_order i x = page (set x.order i 7) x.parents x.outcomes

abbrev stained_parents : (at : ℕ) → Page → Page
stained_parents i x = page x.order (set x.parents i 7) x.outcomes

abbrev stained_outcomes : (at : ℕ) → Page → Page
stained_outcomes i x = page x.order x.parents (set x.outcomes i 7)

abbrev longer : Page → Page
longer x = page (x.order ++ (9 ∷ [])) (x.parents ++ (9 ∷ [])) (x.outcomes ++ (9 ∷ []))

abbrev short : ℕ → ℕ → ℕ → Page
short s p o = page (replicate s 0) (replicate p 0) (replicate o 0)

unfoldable pub table : List Row
table =
    -- P1: replica 2's move sorts before replica 1's, which is taken back and then passed over
    takes p1_early (page_of p1_early) b₁ 88 1 (three [] (1 ∷ 1 ∷ 3 ∷ []) (1 ∷ []) [])
    -- the other way round the op sorts last
    ∷ takes p1_other (page_of p1_other) a₃ 88 0 (three [] (1 ∷ 1 ∷ 3 ∷ []) (1 ∷ []) [])
    -- a page that is not true: all that is held, also where the op sorts last; and it is true afterwards
    ∷ takes p1_early (page_of empty_log) b₁ 88 3 (three [] (1 ∷ 1 ∷ 3 ∷ []) (1 ∷ []) [])
    ∷ takes p1_other (page_of p1_early) a₃ 88 3 (three [] (1 ∷ 1 ∷ 3 ∷ []) (1 ∷ []) [])
    -- one entry of each table; the zeros after the order count
    ∷ takes p1_other (stained_order 3 (page_of p1_other)) a₃ 88 3 (three [] (1 ∷ 1 ∷ 3 ∷ []) (1 ∷ []) [])
    ∷ takes p1_other (stained_order 2039 (page_of p1_other)) a₃ 88 3 (three [] (1 ∷ 1 ∷ 3 ∷ []) (1 ∷ []) [])
    ∷ takes p1_other (stained_parents 2040 (page_of p1_other)) a₃ 88 3 (three [] (1 ∷ 1 ∷ 3 ∷ []) (1 ∷ []) [])
    ∷ takes p1_other (stained_outcomes 0 (page_of p1_other)) a₃ 88 3 (three [] (1 ∷ 1 ∷ 3 ∷ []) (1 ∷ []) [])
    -- entries behind are not looked at
    ∷ takes p1_early (longer (page_of p1_early)) b₁ 88 1 (three [] (1 ∷ 1 ∷ 3 ∷ []) (1 ∷ []) [])
    -- a page goes stale by a plain delivery: P1's was delivered without it
    ∷ takes p1 (page_of p1_early) (op_bytes 1 3 769 0 (vector 0 0 0)) 102 4 (three [] (1 ∷ 1 ∷ 3 ∷ []) (1 ∷ []) (1 ∷ []))
    -- no op is held: true or not, there is nothing to take back
    ∷ takes empty_log (page_of empty_log) a₁ 46 0 (three [] (1 ∷ []) [] [])
    ∷ takes empty_log (short 2040 2041 2041) a₁ 46 0 (three [] (1 ∷ []) [] [])
    -- P11: replica 2's second move sorts before replica 1's, which then has outcome 3; and its first before both of replica 1's
    ∷ takes p11_early (page_of p11_early) (op_bytes 3 2 770 769 (vector 0 1 3)) 130 1 (three [] (1 ∷ 3 ∷ []) (1 ∷ 1 ∷ []) (1 ∷ 1 ∷ 1 ∷ []))
    ∷ takes p11_first (page_of p11_first) (op_bytes 4 2 770 771 (vector 0 0 3)) 116 2 (three [] (1 ∷ 1 ∷ []) (1 ∷ []) (1 ∷ 1 ∷ 1 ∷ []))
    -- replica 3 puts p under n: of the two moves of n the applied one now has outcome 3, and so the other, which gave way to it, is applied
    ∷ takes rivals_early (page_of rivals_early) (op_bytes 4 3 258 257 (vector 3 0 0)) 116 2
    (three [] (1 ∷ 1 ∷ 1 ∷ 1 ∷ []) (3 ∷ []) (1 ∷ []))
    -- "a refusal or had it leaves the page unchanged", an untrue one too
    ∷ leaves (roomy p1_early) (page_of empty_log) a₁ had_it
    ∷ leaves (roomy p1_early) (page_of empty_log) (op_bytes 4 2 257 258 (vector 4 0 0)) (refused 5)
    ∷ leaves (roomy p1_early) (page_of p1_early) (op_bytes 4 2 257 999 (vector 2 0 0)) (refused 7)
    -- "one too short for 2,040 records is answered 2", whatever else is wrong with the op, and where it is held
    ∷ leaves (roomy p1_early) (short 2039 2041 2041) (op_bytes 4 2 257 258 (vector 4 0 0)) (refused 2)
    ∷ leaves (roomy p1_early) (short 2040 2040 2041) a₁ (refused 2)
    ∷ leaves (roomy p1_early) (short 2040 2041 2040) b₁ (refused 2)
    -- but a log that is not sound is answered before
    ∷ leaves (replicate 31 0) (short 2039 2041 2041) a₁ (refused 1)
    -- an issued op sorts last; at a page that is not true all that is held is taken back
    ∷ issues p1 (page_of p1) 1 (add 258) (accepted 102) 0
    ∷ issues p1 (page_of p1) 2 (move 257 0) (accepted 102) 0
    ∷ issues p1 (page_of p1_early) 2 (move 257 0) (accepted 102) 4
    ∷ issues p1 (page_of p1_early) 2 (move 258 257) (refused 10) 0
    ∷ issues p1 (short 2039 2041 2041) 9 (add 258) (refused 2) 0
    ∷ []

-- one row holds, and the others
infixr 40 ◌&◌
abbrev ◌&◌ : {A B : Type 0} → A → B → A × B
◌&◌ a b = (a, b)

-- every row of the table holds
pub table_holds : AllHold table
unfolding of_ops table p1 p1_adds p1_early p1_other p11 p11_early p11_first rivals_early require word_at word up_from down_from sum greatest same
    concat all any filter is_in index_of replicas is_replica count_in kind_of replica_of node_of parent_of vector_of own_count seq_of node_number
    is_add is_remove is_move well_formed empty_log ops_of op_at counts_of append count_at start_at header_counts start_of end_of file_end chunks
    chunks_of log_of header_entry header_of file_of appended within covered closed_at closed is_known is_marked marked node_within knowledge
    known_parent names_known sound_op sound_ops sound_log sound_header laid structural sound is_held held_answer admit_answer deliver_answer slot
    slot_of parent_in climb path depth at_or_below ops_within added_in removed_in timestamp_in timestamp stamp stamped of_replica of_kind of_time
    by_time ordered start outcome_slot order_of outcome_of step replay parents_of op_bytes move_kind issued request_known request_unmarked
    request_clear issue_answer padded page_at page_of long_enough shows page_filled sort_after took_back with_page taken_with page_with
    deliver_page_answer issue_page_answer
table_holds =
    (refl, refl, refl, refl) & (refl, refl, refl, refl) & (refl, refl, refl, refl) & (refl, refl, refl, refl)
    & (refl, refl, refl, refl) & (refl, refl, refl, refl) & (refl, refl, refl, refl) & (refl, refl, refl, refl)
    & (refl, refl, refl, refl) & (refl, refl, refl, refl) & (refl, refl, refl, refl) & (refl, refl, refl, refl)
    & (refl, refl, refl, refl) & (refl, refl, refl, refl) & (refl, refl, refl, refl) & (refl, refl, refl) & (refl, refl, refl)
    & (refl, refl, refl) & (refl, refl, refl) & (refl, refl, refl) & (refl, refl, refl) & (refl, refl, refl) & (refl, refl) & (refl, refl)
    & (refl, refl) & (refl, refl) & (refl, refl) & tt
