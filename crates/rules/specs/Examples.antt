-- The document's worked examples P1 to P12 but P4, as rows of one table that one theorem covers.
use Rattle.std.specs.Prelude.{ℕ, suc, ◌+◌, ◌-◌, length, get_or, set, replicate, take, Bool, true, false, List, [], ◌∷◌, ◌++◌, map, ◌≡◌}
use Rattle.rules.specs.Answer.{Answer, refused, had_it, waiting, done, accepted}
use Rattle.lists.specs.Lists.{up_from, concat}
use Rattle.rules.specs.Bundle.{bundle_call, open_bundle}
use Rattle.rules.specs.Holdback.{places, holdback_of, deliver_holdback}
use Rattle.rules.specs.Deliver.{deliver_answer}
use Rattle.rules.specs.Issue.{Request, add, remove, move, op_bytes, issued, issue_answer, issue_out}
use Rattle.rules.specs.Tree.{slots, slot, climb_to}
use Rattle.rules.specs.Judge.{judge_answer}
use Rattle.rules.specs.Listing.{listing, listing_size, refused_line, outline}
use Rattle.rules.specs.File.{Log, empty_log, ops_of, op_at, append, file_of, width}
use Rattle.rules.specs.Measure.{end_answer, counts_call}
use Rattle.rules.specs.Op.{Op, Vector, replicas, node_number}
use Rattle.rules.specs.Path.{path_call}
use Rattle.rules.specs.Replay.{timestamp, parents_of, outcomes_of}
use Rattle.rules.specs.Sound.{sound}
use Rattle.rules.specs.Views.{View, keeping, skipping}
use Rattle.rules.specs.Marks.{Knowledge, unknown, known_unmarked, known_marked, knowledge}

-- what a function says of each op of a log, replica by replica
unfoldable pub of_ops : (ℕ → ℕ → ℕ) → Log → List (List ℕ)
of_ops g log = map (λ s. map (g s) (up_from 1 (length (ops_of log s)))) replicas

pub data Row : Type 0 where
  -- the file of a log has these bytes, and is sound
  laid_out : Log → List ℕ → Row
  -- delivering to a buffer answers
  delivers : (buffer op : List ℕ) → Answer → Row
  -- a replica that issues at a buffer, with just the room for the op, is answered
  issues : (buffer : List ℕ) (replica : ℕ) → Request → Answer → Row
  -- and finds there, where nines were lent
  fills : (buffer : List ℕ) (replica : ℕ) → Request → (out : List ℕ) → Row
  -- the op that a replica issues
  puts : Log → (replica : ℕ) → Request → Op → Row
  -- judging into tables of so many entries answers
  judges : (file : List ℕ) (parents outcomes : ℕ) → Answer → Row
  -- the outcomes of all ops; their timestamps
  outcomes : Log → List (List ℕ) → Row
  times : Log → List (List ℕ) → Row
  -- the climb from a parent that ends at a node, in the tree of a log
  climbs : Log → (parent node : ℕ) (met : Bool) (steps : ℕ) → Row
  -- what a vector knows of a node
  knows : Log → Vector → (node : ℕ) → Knowledge → Row
  -- the path of a node, put into lent entries, is answered, and they hold
  paths : (file : List ℕ) (node : ℕ) (out : List ℕ) → Answer → (after : List ℕ) → Row
  -- the listing of a view, put into lent bytes, is answered, and they hold
  lists : (file : List ℕ) → View → (out : List ℕ) → Answer → (after : List ℕ) → Row
  -- the bytes of a listing, the end of a file and the held counts, put into lent bytes, are answered
  sizes : (file : List ℕ) → View → Answer → Row
  ends : (file : List ℕ) → Answer → Row
  counts : (file out : List ℕ) → Answer → (after : List ℕ) → Row
  -- the bundle for another's counts, put into lent bytes, is answered, and they hold
  bundles : (file : List ℕ) → Vector → (out : List ℕ) → Answer → (after : List ℕ) → Row
  -- opening a bundle at a buffer is answered, and the buffer holds
  opens : (buffer bundle : List ℕ) → Answer → (after : List ℕ) → Row
  -- delivering with a holdback is answered, and buffer and holdback hold
  holds_back : (buffer op holdback : List ℕ) → Answer → (after left : List ℕ) → Row
  -- the program prints
  prints : (input text : List ℕ) → Row

-- what a row says
abbrev pub Holds : Row → Type 0
Holds (laid_out log f) = (file_of width log ≡ f) × (sound width f ≡ true)
Holds (delivers f r a) = deliver_answer width f r ≡ a
Holds (issues f s q a) = issue_answer width f width s q ≡ a
Holds (fills f s q out) = issue_out width f (replicate (suc width) 9) s q ≡ out
Holds (judges f p o a) = judge_answer width f (replicate p 9) (replicate o 9) ≡ a
Holds (puts log s q r) = issued log s q ≡ r
Holds (outcomes log os) = of_ops (λ s q. get_or (outcomes_of log) (slot s q) 0) log ≡ os
Holds (times log ts) = of_ops (λ s q. timestamp log (op_at log s q)) log ≡ ts
Holds (climbs log p n met steps) = climb_to (parents_of log) p n ≡ record { met = met; steps = steps }
Holds (knows log v n k) = knowledge log v n ≡ k
Holds (paths f n out a after) = path_call width f n out ≡ record { answer = a; out = after }
Holds (lists f view out a after) = listing width f view out ≡ record { answer = a; out = after }
Holds (sizes f view a) = listing_size width f view ≡ a
Holds (ends f a) = end_answer width f ≡ a
Holds (counts f out a after) = counts_call width f out ≡ record { answer = a; out = after }
Holds (bundles f v out a after) = bundle_call width f v out ≡ record { answer = a; out = after }
Holds (opens f b a after) = open_bundle width f b ≡ record { answer = a; buffer = after }
Holds (holds_back f r h a after left) = deliver_holdback width f r h ≡ record { answer = a; buffer = after; holdback = left }
Holds (prints f text) = outline width f ≡ text

abbrev pub AllHold : List Row → Type 0
AllHold [] = Unit {0}
AllHold (x ∷ xs) = Holds x × AllHold xs

-- something of replicas 1 to 3, and nothing of the others
abbrev pub three : {A : Type 0} → A → A → A → A → List A
three none a b c = a ∷ b ∷ c ∷ none ∷ none ∷ none ∷ none ∷ none ∷ []

abbrev pub vector : ℕ → ℕ → ℕ → Vector
vector = three 0

---- the logs

-- P1's bodies: replica 1 issues the first three, and replica 2, which has the first two, the last
abbrev pub a₁ : Op
a₁ = 1 ∷ 1 ∷ 1 ∷ 1 ∷ 0 ∷ 0 ∷ 0 ∷ 0 ∷ 0 ∷ 0 ∷ 0 ∷ 0 ∷ 0 ∷ 0 ∷ []

abbrev pub a₂ : Op
a₂ = 1 ∷ 1 ∷ 1 ∷ 2 ∷ 0 ∷ 0 ∷ 1 ∷ 0 ∷ 0 ∷ 0 ∷ 0 ∷ 0 ∷ 0 ∷ 0 ∷ []

abbrev pub a₃ : Op
a₃ = 4 ∷ 1 ∷ 1 ∷ 2 ∷ 1 ∷ 1 ∷ 2 ∷ 0 ∷ 0 ∷ 0 ∷ 0 ∷ 0 ∷ 0 ∷ 0 ∷ []

abbrev pub b₁ : Op
b₁ = 4 ∷ 2 ∷ 1 ∷ 1 ∷ 1 ∷ 2 ∷ 2 ∷ 0 ∷ 0 ∷ 0 ∷ 0 ∷ 0 ∷ 0 ∷ 0 ∷ []

-- P1, by its bodies and by its file; and before the moves
unfoldable pub p1 : Log
p1 = three [] (a₁ ∷ a₂ ∷ a₃ ∷ []) (b₁ ∷ []) []

unfoldable pub p1_adds : Log
p1_adds = three [] (a₁ ∷ a₂ ∷ []) [] []

-- a file by its counts and starts, and the bodies of a log; all below 256
abbrev pub entry_of : (count start : ℕ) → List ℕ
entry_of count from = 0 ∷ count ∷ 0 ∷ from ∷ []

abbrev pub file_by : List (List ℕ) → Log → List ℕ
file_by entries log = concat entries ++ concat (concat log)

-- "Counts and starts: 3, 32; 1, 74; then six times 0, 88"
unfoldable pub p1_file : List ℕ
p1_file = file_by (three (entry_of 0 88) (entry_of 3 32) (entry_of 1 74) (entry_of 0 88)) p1

-- P1's file in a buffer with room for one op more
unfoldable pub p1_buffer : List ℕ
p1_buffer = p1_file ++ replicate width 0

-- the log without ops, as a file, and in a buffer of so many bytes
unfoldable pub empty_file : List ℕ
empty_file = file_of width empty_log

abbrev pub empty_in : ℕ → List ℕ
empty_in n = empty_file ++ replicate (n - 32) 0

-- the same with so many sevens past it
abbrev pub empty_then : ℕ → List ℕ
empty_then n = empty_file ++ replicate n 7

-- the log of these ops of replica 1 in a buffer with so many sevens past it
abbrev pub one_then : List Op → ℕ → List ℕ
one_then ops n = file_of width (three [] ops [] []) ++ replicate n 7

-- P1 as a bundle: replica 2's move is judged before replica 1's
abbrev pub p1_bundle : List ℕ
p1_bundle = 3 ∷ 3 ∷ 1 ∷ (a₁ ++ (a₂ ++ (b₁ ++ a₃)))

-- the add that replica s issues as its op q, under p
abbrev pub adds : (s q p : ℕ) → Vector → Op
adds s q p v = op_bytes 1 s (node_number s q) p v

-- the siblings a, b and c by replica s
abbrev pub siblings : ℕ → (ℕ → Vector) → List Op
siblings s v = adds s 1 0 (v 0) ∷ adds s 2 0 (v 1) ∷ adds s 3 0 (v 2) ∷ []

-- P10 before the three moves; and the whole
abbrev pub p10_adds : Log
p10_adds = three [] (siblings 1 (λ k. vector k 0 0)) [] []

unfoldable pub p10 : Log
p10 = three []
    (siblings 1 (λ k. vector k 0 0) ++ (op_bytes 4 1 257 258 (vector 3 0 0) ∷ []))
    (op_bytes 4 2 258 259 (vector 3 0 0) ∷ [])
    (op_bytes 4 3 259 257 (vector 3 0 0) ∷ [])

-- P11 after the first move of each replica, at replica 1 and at replica 2; and the whole
unfoldable pub p11 : List Op → List Op → Log
p11 one two = three [] one two (siblings 3 (λ k. vector 0 0 k))

abbrev pub p11_one : List Op
p11_one = op_bytes 4 1 769 771 (vector 0 0 3) ∷ []

abbrev pub p11_two : List Op
p11_two = op_bytes 4 2 770 771 (vector 0 0 3) ∷ []

unfoldable pub p11_all : Log
p11_all = p11 (p11_one ++ (op_bytes 3 1 769 770 (vector 1 0 3) ∷ [])) (p11_two ++ (op_bytes 3 2 770 769 (vector 0 1 3) ∷ []))

-- n is 258, below 257; replica 1 moves it to the root, replica 2 below 260, which is below 259
unfoldable pub p12 : List Op → List Op → Log
p12 one two = three []
    ((adds 1 1 0 (vector 0 0 0) ∷ adds 1 2 257 (vector 1 0 0) ∷ adds 1 3 0 (vector 2 0 0) ∷ adds 1 4 259 (vector 3 0 0) ∷ []) ++ one) two []

unfoldable pub p12_all : Log
p12_all = p12 (op_bytes 3 1 258 0 (vector 4 0 0) ∷ []) (op_bytes 4 2 258 260 (vector 4 0 0) ∷ [])

-- siblings n, p and q by replica 1, and one move by each replica, of one context
unfoldable pub rivals : Op → Op → Op → Log
rivals one two three' = three [] (siblings 1 (λ k. vector k 0 0) ++ (one ∷ [])) (two ∷ []) (three' ∷ [])

-- replica 3 puts p under n, replica 2 n under q, replica 1 n under p: outcome 2 comes before 3
unfoldable pub rivals2 : Log
rivals2 = rivals (op_bytes 4 1 257 258 (vector 3 0 0)) (op_bytes 4 2 257 259 (vector 3 0 0)) (op_bytes 4 3 258 257 (vector 3 0 0))

-- replica 3 puts p under n, replica 2 n under p, replica 1 n under q: a move that was passed over has not placed its node
unfoldable pub rivals3 : Log
rivals3 = rivals (op_bytes 4 1 257 259 (vector 3 0 0)) (op_bytes 4 2 257 258 (vector 3 0 0)) (op_bytes 4 3 258 257 (vector 3 0 0))

-- replicas 1 and 2 add, and replica 3, which has both adds, adds below the first: its timestamp is 2 and not 3
unfoldable pub chain : Log
chain = three [] (adds 1 1 0 (vector 0 0 0) ∷ []) (adds 2 1 0 (vector 0 0 0) ∷ []) (adds 3 1 257 (vector 1 1 0) ∷ [])

-- removes: 257, with 258 below it, and 259 are removed; 513 is not
unfoldable pub pruned : Log
pruned = three []
    ((adds 1 1 0 (vector 0 0 0) ∷ adds 1 2 257 (vector 1 0 0) ∷ adds 1 3 0 (vector 2 0 0) ∷ [])
    ++ (op_bytes 2 1 257 0 (vector 3 0 0) ∷ op_bytes 2 1 259 0 (vector 4 0 0) ∷ []))
    (adds 2 1 0 (vector 0 0 0) ∷ [])
    []

unfoldable pub pruned_file : List ℕ
pruned_file = file_by (three (entry_of 0 116) (entry_of 5 32) (entry_of 1 102) (entry_of 0 116)) pruned

unfoldable pub pruned_buffer : List ℕ
pruned_buffer = pruned_file ++ replicate width 0

-- the same, and replica 3 adds below 257, though it has met the removal
unfoldable pub reworked : Log
reworked = append pruned (adds 3 1 257 (vector 5 1 0))

-- "0 0 k", "1 257 r", "2 258 k", "1 513 k"
abbrev pub pruned_text : List ℕ
pruned_text =
    48 ∷ 32 ∷ 48 ∷ 32 ∷ 107 ∷ 10 ∷ 49 ∷ 32 ∷ 50 ∷ 53 ∷ 55 ∷ 32 ∷ 114 ∷ 10
    ∷ 50 ∷ 32 ∷ 50 ∷ 53 ∷ 56 ∷ 32 ∷ 107 ∷ 10 ∷ 49 ∷ 32 ∷ 53 ∷ 49 ∷ 51 ∷ 32 ∷ 107 ∷ 10 ∷ []

-- a holdback in which these ops wait
abbrev pub back : List Op → List ℕ
back ops = holdback_of width ops

-- another op of replica 1's sequence 3; an op that names a node which nobody adds, one whose vector is not closed, and one that does not
-- read
abbrev pub rival₃ : Op
rival₃ = adds 1 3 0 (vector 2 0 0)

abbrev pub unknown₁ : Op
unknown₁ = adds 2 1 999 (vector 1 0 0)

abbrev pub torn₁ : Op
torn₁ = adds 3 1 0 (vector 0 1 0)

abbrev pub unread : Op
unread = replicate 14 0

-- replica 1's ops 2 to 33, each adding a node under the root
unfoldable pub crowd : List Op
crowd = map (λ q. adds 1 (1 + q) 0 (vector q 0 0)) (up_from 1 places)

---- the table

unfoldable pub table : List Row
table =
    -- P1
    laid_out p1 p1_file
    ∷ puts empty_log 1 (add 0) a₁
    ∷ puts (three [] (a₁ ∷ []) [] []) 1 (add 0) a₂
    ∷ puts p1_adds 1 (move 258 257) a₃
    ∷ puts p1_adds 2 (move 257 258) b₁
    ∷ outcomes p1 (three [] (1 ∷ 1 ∷ 3 ∷ []) (1 ∷ []) [])
    ∷ prints p1_file (48 ∷ 32 ∷ 48 ∷ 32 ∷ 107 ∷ 10 ∷ 49 ∷ 32 ∷ 50 ∷ 53 ∷ 56 ∷ 32 ∷ 107 ∷ 10 ∷ 50 ∷ 32 ∷ 50 ∷ 53 ∷ 55 ∷ 32 ∷ 107 ∷ 10 ∷ [])
    -- P2
    ∷ prints empty_file (48 ∷ 32 ∷ 48 ∷ 32 ∷ 107 ∷ 10 ∷ [])
    -- P3
    ∷ delivers (replicate 31 0) (adds 1 1 0 (vector 0 0 0)) (refused 1)
    ∷ issues (replicate 31 0) 1 (add 0) (refused 1)
    ∷ judges (replicate 31 0) slots slots (refused 1)
    ∷ paths (replicate 31 0) 0 (9 ∷ []) (refused 1) (9 ∷ [])
    ∷ lists (replicate 31 0) keeping (replicate 6 9) (refused 1) (replicate 6 9)
    ∷ prints (replicate 31 0) refused_line
    -- no bytes yet: the program prints the root's line, as it does for the 32 bytes of the log without ops; at lengths 1 and 31, and for 32
    -- other bytes, it refuses
    ∷ prints [] (48 ∷ 32 ∷ 48 ∷ 32 ∷ 107 ∷ 10 ∷ [])
    ∷ prints (0 ∷ []) refused_line
    ∷ prints (take 1 p1_file) refused_line
    ∷ prints (take 31 empty_file) refused_line
    ∷ prints (replicate 32 0) refused_line
    ∷ prints (take 32 p1_file) refused_line
    -- "in the library a buffer of length zero remains unsound"
    ∷ delivers [] (adds 1 1 0 (vector 0 0 0)) (refused 1)
    ∷ issues [] 1 (add 0) (refused 1)
    ∷ judges [] slots slots (refused 1)
    ∷ paths [] 0 (9 ∷ []) (refused 1) (9 ∷ [])
    ∷ lists [] keeping (replicate 6 9) (refused 1) (replicate 6 9)
    ∷ sizes [] keeping (refused 1)
    ∷ ends [] (refused 1)
    ∷ counts [] (replicate 8 9) (refused 1) (replicate 8 9)
    ∷ bundles [] (vector 0 0 0) (9 ∷ []) (refused 1) (9 ∷ [])
    ∷ opens [] (0 ∷ []) (refused 1) []
    -- P5
    ∷ delivers p1_buffer (adds 1 5 0 (vector 4 0 0)) (refused 5)
    -- P6: the same; then one byte changed: the parent's low byte, the node's, a foreign count, the kind
    ∷ delivers p1_buffer a₂ had_it
    ∷ delivers p1_buffer (set a₂ 5 1) (refused 4)
    ∷ delivers p1_buffer (set a₂ 3 3) (refused 4)
    ∷ delivers p1_buffer (set a₂ 7 1) (refused 4)
    ∷ delivers p1_buffer (set a₂ 0 2) (refused 4)
    ∷ delivers p1_buffer (set a₂ 0 4) (refused 4)
    -- P7
    ∷ delivers p1_buffer (op_bytes 4 1 257 257 (vector 3 0 0)) (refused 7)
    ∷ issues p1_buffer 1 (move 257 257) (refused 7)
    -- P8
    ∷ delivers p1_buffer (op_bytes 4 1 0 257 (vector 3 0 0)) (refused 7)
    ∷ issues p1_buffer 1 (move 0 257) (refused 7)
    ∷ delivers p1_buffer (op_bytes 3 1 257 0 (vector 3 0 0)) (accepted 102)
    ∷ issues p1_buffer 1 (move 257 0) (accepted 102)
    -- P9
    ∷ delivers (empty_in 45) (adds 1 1 0 (vector 0 0 0)) (refused 8)
    ∷ delivers (empty_in 46) (adds 1 1 0 (vector 0 0 0)) (accepted 46)
    ∷ issues (empty_in 45) 1 (add 0) (refused 8)
    ∷ issues (empty_in 46) 1 (add 0) (accepted 46)
    ∷ fills (empty_in 45) 1 (add 0) (replicate 15 9)
    ∷ fills (empty_in 46) 1 (add 0) (adds 1 1 0 (vector 0 0 0) ++ (9 ∷ []))
    -- P10
    ∷ laid_out p10 (file_by (three (entry_of 0 116) (entry_of 4 32) (entry_of 1 88) (entry_of 1 102)) p10)
    ∷ puts p10_adds 1 (move 257 258) (op_bytes 4 1 257 258 (vector 3 0 0))
    ∷ puts p10_adds 2 (move 258 259) (op_bytes 4 2 258 259 (vector 3 0 0))
    ∷ puts p10_adds 3 (move 259 257) (op_bytes 4 3 259 257 (vector 3 0 0))
    ∷ outcomes p10 (three [] (1 ∷ 1 ∷ 1 ∷ 3 ∷ []) (1 ∷ []) (1 ∷ []))
    -- P11
    ∷ laid_out p11_all (file_by (three (entry_of 0 130) (entry_of 2 32) (entry_of 2 60) (entry_of 3 88)) p11_all)
    ∷ puts (p11 [] []) 1 (move 769 771) (op_bytes 4 1 769 771 (vector 0 0 3))
    ∷ puts (p11 [] []) 2 (move 770 771) (op_bytes 4 2 770 771 (vector 0 0 3))
    ∷ puts (p11 p11_one []) 1 (move 769 770) (op_bytes 3 1 769 770 (vector 1 0 3))
    ∷ puts (p11 [] p11_two) 2 (move 770 769) (op_bytes 3 2 770 769 (vector 0 1 3))
    ∷ outcomes p11_all (three [] (1 ∷ 3 ∷ []) (1 ∷ 1 ∷ []) (1 ∷ 1 ∷ 1 ∷ []))
    -- P12
    ∷ laid_out p12_all (file_by (three (entry_of 0 116) (entry_of 5 32) (entry_of 1 102) (entry_of 0 116)) p12_all)
    ∷ puts (p12 [] []) 1 (move 258 0) (op_bytes 3 1 258 0 (vector 4 0 0))
    ∷ puts (p12 [] []) 2 (move 258 260) (op_bytes 4 2 258 260 (vector 4 0 0))
    ∷ outcomes p12_all (three [] (1 ∷ 1 ∷ 1 ∷ 1 ∷ 1 ∷ []) (2 ∷ []) [])
    -- beside the document's examples: clashing moves, and a timestamp that is no count of ops
    ∷ outcomes rivals2 (three [] (1 ∷ 1 ∷ 1 ∷ 2 ∷ []) (1 ∷ []) (1 ∷ []))
    ∷ outcomes rivals3 (three [] (1 ∷ 1 ∷ 1 ∷ 1 ∷ []) (3 ∷ []) (1 ∷ []))
    ∷ times chain (three [] (1 ∷ []) (1 ∷ []) (2 ∷ []))
    -- climbs: a parent that is the node is met with 0 steps, a child with 1, one below that with 2, and the root is met from everywhere
    ∷ climbs p1 258 258 true 0
    ∷ climbs p1 257 258 true 1
    ∷ climbs p10 258 259 true 1
    ∷ climbs p10 258 257 true 2
    ∷ climbs p10 258 0 true 3
    ∷ climbs p1 0 0 true 0
    -- the root is a miss with 0; a parent above the node, and one in another branch, with their own depths
    ∷ climbs p1 0 258 false 0
    ∷ climbs p1 258 257 false 1
    ∷ climbs p12_all 260 257 false 2
    ∷ climbs p12_all 257 260 false 1
    -- removes: the keeping view shows 257 for 258 below it, as removed, and not 259; the skipping view shows neither 257 nor 258
    ∷ puts p10_adds 2 (remove 257) (op_bytes 2 2 257 0 (vector 3 0 0))
    ∷ laid_out pruned pruned_file
    ∷ outcomes pruned (three [] (1 ∷ 1 ∷ 1 ∷ 1 ∷ 1 ∷ []) (1 ∷ []) [])
    ∷ lists pruned_file keeping (replicate 31 9) (accepted 30) (pruned_text ++ (9 ∷ []))
    ∷ lists pruned_file keeping (replicate 29 9) (refused 8) (replicate 29 9)
    ∷ lists pruned_file skipping (replicate 15 9) (accepted 14) (48 ∷ 32 ∷ 48 ∷ 32 ∷ 107 ∷ 10 ∷ 49 ∷ 32 ∷ 53 ∷ 49 ∷ 51 ∷ 32 ∷ 107 ∷ 10 ∷ 9 ∷ [])
    ∷ prints pruned_file pruned_text
    -- three outcomes, each asked in a vector: of 257, which is removed; of 259, removed later; of 258, whose parent alone is removed; of
    -- 513; of a remove's number, and of the root
    ∷ knows pruned (vector 0 0 0) 257 unknown
    ∷ knows pruned (vector 3 0 0) 257 known_unmarked
    ∷ knows pruned (vector 4 0 0) 257 known_marked
    ∷ knows pruned (vector 4 0 0) 259 known_unmarked
    ∷ knows pruned (vector 5 0 0) 259 known_marked
    ∷ knows pruned (vector 5 1 0) 258 known_unmarked
    ∷ knows pruned (vector 5 0 0) 513 unknown
    ∷ knows pruned (vector 5 1 0) 260 unknown
    ∷ knows pruned (vector 5 1 0) 0 unknown
    -- removed articles take no new work: the parent of an add, node and parent of a move
    ∷ issues pruned_buffer 1 (add 257) (refused 11)
    ∷ issues pruned_buffer 2 (move 257 513) (refused 11)
    ∷ issues pruned_buffer 2 (move 513 257) (refused 11)
    -- only the parent itself counts, the root is never marked, and a remove stays allowed
    ∷ issues pruned_buffer 1 (add 258) (accepted 130)
    ∷ issues pruned_buffer 1 (add 0) (accepted 130)
    ∷ issues pruned_buffer 2 (move 513 258) (accepted 130)
    ∷ issues pruned_buffer 2 (move 258 513) (accepted 130)
    ∷ issues pruned_buffer 2 (remove 257) (accepted 130)
    -- 11 comes after 7, and before 10 and 8
    ∷ issues pruned_buffer 1 (move 257 260) (refused 7)
    ∷ issues pruned_buffer 1 (move 257 257) (refused 7)
    ∷ issues pruned_buffer 1 (move 257 258) (refused 11)
    ∷ issues p1_buffer 1 (move 258 257) (refused 10)
    ∷ issues pruned_file 1 (add 257) (refused 11)
    ∷ issues pruned_file 1 (add 258) (refused 8)
    -- delivering and soundness take marked nodes, of a replica that has met the removal too
    ∷ delivers pruned_buffer (adds 3 1 257 (vector 3 0 0)) (accepted 130)
    ∷ delivers pruned_buffer (adds 3 1 257 (vector 5 1 0)) (accepted 130)
    ∷ delivers pruned_buffer (op_bytes 4 3 257 513 (vector 5 1 0)) (accepted 130)
    ∷ delivers pruned_buffer (op_bytes 2 3 257 0 (vector 5 1 0)) (accepted 130)
    ∷ laid_out reworked (file_by (three (entry_of 0 130) (entry_of 5 32) (entry_of 1 102) (entry_of 1 116)) reworked)
    -- paths, of removed nodes too
    ∷ paths pruned_file 258 (replicate 4 9) (accepted 3) (258 ∷ 257 ∷ 0 ∷ 9 ∷ [])
    ∷ paths pruned_file 259 (replicate 2 9) (accepted 2) (259 ∷ 0 ∷ [])
    ∷ paths pruned_file 0 (replicate 2 9) (accepted 1) (0 ∷ 9 ∷ [])
    ∷ paths pruned_file 260 (replicate 4 9) (refused 7) (replicate 4 9)
    ∷ paths pruned_file 258 (replicate 2 9) (refused 8) (replicate 2 9)
    ∷ paths p1_file 257 (replicate 3 9) (accepted 3) (257 ∷ 258 ∷ 0 ∷ [])
    -- judging
    ∷ judges p1_file slots slots done
    ∷ judges p1_file 2040 slots (refused 2)
    ∷ judges p1_file slots 2040 (refused 2)
    -- sizes, ends and counts; what lies past the file does not matter
    ∷ sizes pruned_file keeping (accepted 30)
    ∷ sizes pruned_file skipping (accepted 14)
    ∷ sizes (replicate 31 0) keeping (refused 1)
    ∷ ends p1_buffer (accepted 88)
    ∷ ends (replicate 31 0) (refused 1)
    ∷ counts p1_buffer (replicate 9 9) (accepted 8) (3 ∷ 1 ∷ 0 ∷ 0 ∷ 0 ∷ 0 ∷ 0 ∷ 0 ∷ 9 ∷ [])
    ∷ counts p1_buffer (replicate 7 9) (refused 8) (replicate 7 9)
    ∷ counts (replicate 31 0) (replicate 7 9) (refused 1) (replicate 7 9)
    -- a bundle: for a replica that has nothing; for one that has the adds and is ahead of replica 3; for one that has all; for counts that
    -- are not closed. Too short by one byte; unsound before that
    ∷ bundles p1_file (vector 0 0 0) (replicate 61 9) (accepted 59) (p1_bundle ++ (9 ∷ 9 ∷ []))
    ∷ bundles p1_file (vector 2 0 5) (replicate 31 9) (accepted 31) (3 ∷ 1 ∷ 1 ∷ (b₁ ++ a₃))
    ∷ bundles p1_file (vector 3 1 0) (9 ∷ 9 ∷ []) (accepted 1) (0 ∷ 9 ∷ [])
    ∷ bundles p1_file (vector 0 1 0) (replicate 44 9) (accepted 44) (1 ∷ 3 ∷ (a₁ ++ (a₂ ++ a₃)))
    ∷ bundles p1_file (vector 0 0 0) (replicate 58 9) (refused 8) (replicate 58 9)
    ∷ bundles (replicate 31 0) (vector 0 0 0) [] (refused 1) []
    -- opened by a replica that has nothing; by one that has the adds; by one that has all but replica 1's move, where the counts are not
    -- closed; by one that has all, and no room. What lies past the file stays
    ∷ opens (empty_then 58) p1_bundle (accepted 88) (p1_file ++ (7 ∷ 7 ∷ []))
    ∷ opens (file_of width p1_adds ++ replicate 28 7) p1_bundle (accepted 88) p1_file
    ∷ opens (file_of width (append p1_adds b₁) ++ replicate 14 7) (1 ∷ 3 ∷ (a₁ ++ (a₂ ++ a₃))) (accepted 88) p1_file
    ∷ opens p1_file p1_bundle (accepted 88) p1_file
    -- an empty bundle; a body twice; the last replica
    ∷ opens p1_file (0 ∷ []) (accepted 88) p1_file
    ∷ opens (empty_then 14) (1 ∷ 2 ∷ (a₁ ++ a₁)) (accepted 46) (file_of width (append empty_log a₁))
    ∷ opens (empty_then 14) (128 ∷ 1 ∷ adds 8 1 0 (vector 0 0 0)) (accepted 46) (file_of width (append empty_log (adds 8 1 0 (vector 0 0 0))))
    -- 12: no bytes; no count byte for a set bit; a count of 0; a byte too many; a byte too few; a body of another replica; of replica 9; of
    -- replica 0
    ∷ opens p1_file [] (refused 12) p1_file
    ∷ opens p1_file (3 ∷ 1 ∷ []) (refused 12) p1_file
    ∷ opens p1_file (1 ∷ 0 ∷ []) (refused 12) p1_file
    ∷ opens p1_file (0 ∷ 0 ∷ []) (refused 12) p1_file
    ∷ opens (empty_then 14) (1 ∷ 1 ∷ take 13 a₁) (refused 12) (empty_then 14)
    ∷ opens (empty_then 14) (2 ∷ 1 ∷ a₁) (refused 12) (empty_then 14)
    ∷ opens (empty_then 14) (1 ∷ 1 ∷ set a₁ 1 9) (refused 12) (empty_then 14)
    ∷ opens (empty_then 14) (1 ∷ 1 ∷ set a₁ 1 0) (refused 12) (empty_then 14)
    -- after 1, and before a body that would be 3 or 5
    ∷ opens (replicate 31 0) [] (refused 1) (replicate 31 0)
    ∷ opens (empty_then 14) (2 ∷ 1 ∷ set a₁ 0 9) (refused 12) (empty_then 14)
    ∷ opens (empty_then 28) (3 ∷ 1 ∷ 1 ∷ (a₂ ++ a₁)) (refused 12) (empty_then 28)
    -- a body is refused, and nothing changes, past the file too: a wrong kind; another op of a held sequence; a wrong order; a vector that
    -- is not closed; an unknown parent; no room for the last body; no room for the first that is new
    ∷ opens (empty_then 28) (1 ∷ 2 ∷ (a₁ ++ set a₂ 0 9)) (refused 3) (empty_then 28)
    ∷ opens p1_file (1 ∷ 1 ∷ set a₂ 5 1) (refused 4) p1_file
    ∷ opens (empty_then 28) (1 ∷ 2 ∷ (a₂ ++ a₁)) (refused 5) (empty_then 28)
    ∷ opens p1_buffer (4 ∷ 1 ∷ adds 3 1 0 (vector 0 1 0)) (refused 6) p1_buffer
    ∷ opens (empty_then 28) (1 ∷ 2 ∷ (a₁ ++ adds 1 2 258 (vector 1 0 0))) (refused 7) (empty_then 28)
    ∷ opens (empty_then 55) p1_bundle (refused 8) (empty_then 55)
    ∷ opens (file_of width p1_adds) p1_bundle (refused 8) (file_of width p1_adds)
    -- an early op goes to the back of the holdback; the same bytes are held once
    ∷ holds_back (empty_then 42) a₃ (back []) waiting (empty_then 42) (back (a₃ ∷ []))
    ∷ holds_back (empty_then 42) a₂ (back (a₃ ∷ [])) waiting (empty_then 42) (back (a₃ ∷ a₂ ∷ []))
    ∷ holds_back (empty_then 42) a₃ (back (a₃ ∷ a₂ ∷ [])) waiting (empty_then 42) (back (a₃ ∷ a₂ ∷ []))
    -- the op that they wait for: a₂ is found behind a₃, and then a₃ from the front
    ∷ holds_back (empty_then 44) a₁ (back (a₃ ∷ a₂ ∷ [])) (accepted 74) (one_then (a₁ ∷ a₂ ∷ a₃ ∷ []) 2) (back [])
    -- one that is still early stays, before one that is due and behind it
    ∷ holds_back (empty_then 42) a₁ (back (a₃ ∷ [])) (accepted 46) (one_then (a₁ ∷ []) 28) (back (a₃ ∷ []))
    ∷ holds_back (empty_then 28) a₁ (back (b₁ ∷ a₂ ∷ a₃ ∷ [])) (accepted 60) (one_then (a₁ ∷ a₂ ∷ []) 0) (back (b₁ ∷ a₃ ∷ []))
    -- dropped: held already, the later of two rivals, an unknown node; an op that does not read; a vector that is not closed, had it, and
    -- another op of a held sequence. Doubles that are not met by a held one stay
    ∷ holds_back (one_then (a₁ ∷ []) 42) a₂ (back (a₁ ∷ rival₃ ∷ a₃ ∷ unknown₁ ∷ [])) (accepted 74) (one_then (a₁ ∷ a₂ ∷ rival₃ ∷ []) 14)
    (back [])
    ∷ holds_back (one_then (a₁ ∷ []) 14) a₂ (back (unread ∷ rival₃ ∷ a₁ ∷ rival₃ ∷ unknown₁ ∷ [])) (accepted 60) (one_then (a₁ ∷ a₂ ∷ []) 0)
    (back (rival₃ ∷ rival₃ ∷ []))
    ∷ holds_back p1_buffer (adds 1 4 0 (vector 3 0 0)) (back (torn₁ ∷ a₂ ∷ set a₂ 5 1 ∷ [])) (accepted 102)
    (file_of width (append p1 (adds 1 4 0 (vector 3 0 0)))) (back [])
    -- had it: nothing is searched, though a₂ could go
    ∷ holds_back (one_then (a₁ ∷ []) 42) a₁ (back (a₂ ∷ [])) had_it (one_then (a₁ ∷ []) 42) (back (a₂ ∷ []))
    -- no room for the second: it stays; no room for the first: nothing changes
    ∷ holds_back (empty_then 14) a₁ (back (a₂ ∷ unknown₁ ∷ [])) (accepted 46) (one_then (a₁ ∷ []) 0) (back (a₂ ∷ []))
    ∷ holds_back (empty_then 13) a₁ (back (a₂ ∷ [])) (refused 8) (empty_then 13) (back (a₂ ∷ []))
    -- a full holdback: 13 for another early op, waiting for one that is there; the other answers as before
    ∷ holds_back (empty_then 14) b₁ (back crowd) (refused 13) (empty_then 14) (back crowd)
    ∷ holds_back (empty_then 14) (adds 1 33 0 (vector 32 0 0)) (back crowd) waiting (empty_then 14) (back crowd)
    ∷ holds_back (empty_then 14) (adds 1 1 999 (vector 0 0 0)) (back crowd) (refused 7) (empty_then 14) (back crowd)
    -- one place left
    ∷ holds_back (empty_then 14) b₁ (back (take 31 crowd)) waiting (empty_then 14) (back (take 31 crowd ++ (b₁ ∷ [])))
    -- refused: another op of a held sequence, a vector that is not closed, an unknown parent
    ∷ holds_back p1_buffer (set a₂ 5 1) (back (a₃ ∷ [])) (refused 4) p1_buffer (back (a₃ ∷ []))
    ∷ holds_back p1_buffer torn₁ (back (a₃ ∷ [])) (refused 6) p1_buffer (back (a₃ ∷ []))
    ∷ holds_back p1_buffer (adds 1 4 999 (vector 3 0 0)) (back (a₃ ∷ [])) (refused 7) p1_buffer (back (a₃ ∷ []))
    -- 14: a byte too few, a byte too many, a count above 32, a byte past the ops; after 1, before 2
    ∷ holds_back (empty_then 14) a₁ (replicate 448 0) (refused 14) (empty_then 14) (replicate 448 0)
    ∷ holds_back (empty_then 14) a₁ (replicate 450 0) (refused 14) (empty_then 14) (replicate 450 0)
    ∷ holds_back (empty_then 14) a₁ (33 ∷ replicate 448 0) (refused 14) (empty_then 14) (33 ∷ replicate 448 0)
    ∷ holds_back (empty_then 14) a₁ (set (back (a₃ ∷ [])) 15 1) (refused 14) (empty_then 14) (set (back (a₃ ∷ [])) 15 1)
    ∷ holds_back (empty_then 14) a₁ (set (back []) 448 1) (refused 14) (empty_then 14) (set (back []) 448 1)
    ∷ holds_back (replicate 31 0) a₁ [] (refused 1) (replicate 31 0) []
    ∷ holds_back [] a₁ (back []) (refused 1) [] (back [])
    ∷ holds_back (empty_then 14) (take 13 a₁) [] (refused 14) (empty_then 14) []
    -- 2 and 3 before the op may wait
    ∷ holds_back (empty_then 14) (take 13 a₂) (back []) (refused 2) (empty_then 14) (back [])
    ∷ holds_back (empty_then 14) (set a₂ 0 9) (back []) (refused 3) (empty_then 14) (back [])
    ∷ []
