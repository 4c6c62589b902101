-- What holds of every structurally sound file beside the tree theorem: the definitions mean what they say.
use Rattle.std.specs.Prelude.{ℕ, ◌+◌, ◌*◌, ◌-◌, ◌≤◌, ◌<◌, ◌≡◌, Bool, true, false, cond, drop, length, take, get_or, eqb}
use mathlib.Core.List.{List, [], ◌∷◌, ◌++◌, map, foldl}
use Rattle.lists.specs.Lists.{greatest, filter, is_in}
use Rattle.rules.specs.Bytes.{byte}
use Rattle.rules.specs.Op.{Op, Vector, replicas, count_in, counted, node_of, parent_of, vector_of, is_move, is_remove}
use Rattle.rules.specs.File.{Log, op_at, counts_of, Extends, file_end, log_of, file_of, within}
use Rattle.rules.specs.Log.{covered, closed, known_parent, structural}
use Rattle.rules.specs.Tree.{slots, climb, path, depth}
use Rattle.rules.specs.ClimbClaim.{ClimbSays}
use Rattle.rules.specs.Marks.{marked, is_marked, knowledge}
use Rattle.rules.specs.Answer.{accepted}
use Rattle.rules.specs.Issue.{Request, issued, issue_answer}
use Rattle.rules.specs.Replay.{ops_within, timestamp, Stamped, stamped, ordered, start, step, replay, parents_of}
use Rattle.rules.specs.Views.{View}
use Rattle.order.specs.Undo.{replay_keeping, step_keeping, take_back, unjudged}
use Rattle.rules.specs.Listing.{preorder, digits, decimal, line_of, line, listing_of}

-- a file of bytes is, to its end, the file of its log: a log has one file
abbrev pub OneFile : Type 0
OneFile = (w : ℕ) (f : List ℕ) → ((i : ℕ) → byte f i < 256) → structural w f ≡ true → take (file_end w f) f ≡ file_of w (log_of w f)

---- the order of a closed cut

-- the timestamp of replica s's last op within a vector, 0 where there is none
unfoldable pub last_time : Log → Vector → ℕ → ℕ
last_time log v s = cond (eqb (count_in v s) 0) 0 (timestamp log (op_at log s (count_in v s)))

pub record InOrder (log : Log) (cut : Vector) : Type 0 where
  -- every op is judged exactly once: whatever is asked of the ops, as many of the order pass as of the cut
  pub once : (p : Stamped → Bool) → length (filter p (ordered log cut)) ≡ length (filter p (stamped log cut))
  -- the greatest timestamp is that of some replica's last op
  pub latest : greatest (map (timestamp log) (ops_within log cut)) ≡ greatest (map (last_time log cut) replicas)

abbrev pub Ordered : Type 0
Ordered =
    (w : ℕ) (f : List ℕ) → structural w f ≡ true
    → (cut : Vector) → covered (log_of w f) cut ≡ true → closed (log_of w f) cut ≡ true → InOrder (log_of w f) cut

-- a log that holds more replays a closed cut alike
abbrev pub PartsAlike : Type 0
PartsAlike =
    (w : ℕ) (f : List ℕ) (more : Log) → structural w f ≡ true → Extends (log_of w f) more
    → (cut : Vector) → covered (log_of w f) cut ≡ true → closed (log_of w f) cut ≡ true → replay more cut ≡ replay (log_of w f) cut

-- taking back is exact: from whatever place on the ops of a cut are taken back, every entry of every table is as it was when those before
-- that place were judged
abbrev pub TakesBack : Type 0
TakesBack =
    (w : ℕ) (f : List ℕ) → structural w f ≡ true → (cut : Vector) → covered (log_of w f) cut ≡ true
    → (place : ℕ) → let xs = ordered (log_of w f) cut in
    take_back (replay_keeping (log_of w f) cut) (map (λ (x : Stamped). x.op) (drop place xs)) ≡ foldl step_keeping unjudged (take place xs)

-- the order of a part is the order of the whole without what the part does not count
abbrev pub PartsOrdered : Type 0
PartsOrdered =
    (w : ℕ) (f : List ℕ) → structural w f ≡ true
    → (part whole : Vector) → covered (log_of w f) whole ≡ true → within part whole ≡ true
    → ordered (log_of w f) part ≡ filter (λ (x : Stamped). counted part x.op) (ordered (log_of w f) whole)

---- bounds in definitions do not matter

pub record Unbounded (log : Log) : Type 0 where
  -- "1 plus the greatest stamp within its context"
  pub times : (s q : ℕ) → 1 ≤ s → s ≤ 8 → 1 ≤ q → q ≤ count_in (counts_of log) s
      → timestamp log (op_at log s q) ≡ 1 + greatest (map (timestamp log) (ops_within log (vector_of (op_at log s q))))
  pub paths : (n : ℕ) → known_parent log (counts_of log) n ≡ true → (k : ℕ) → slots ≤ k → climb k (parents_of log) n ≡ path (parents_of log) n
  pub listings : (k : ℕ) → slots ≤ k → preorder k log (parents_of log) 0 ≡ preorder slots log (parents_of log) 0

abbrev pub BoundsFree : Type 0
BoundsFree = (w : ℕ) (f : List ℕ) → structural w f ≡ true → Unbounded (log_of w f)

---- climbs

-- in the tree of a closed cut, from every parent that is known there
abbrev pub TreeClimbs : Type 0
TreeClimbs =
    (w : ℕ) (f : List ℕ) → structural w f ≡ true
    → (cut : Vector) → covered (log_of w f) cut ≡ true → closed (log_of w f) cut ≡ true
    → (p n : ℕ) → known_parent (log_of w f) cut p ≡ true → ClimbSays (replay (log_of w f) cut).parents p n

-- and in the tree in which a move is judged, from its new parent to its node
abbrev pub JudgedClimbs : Type 0
JudgedClimbs =
    (w : ℕ) (f : List ℕ) → structural w f ≡ true
    → (cut : Vector) → covered (log_of w f) cut ≡ true → closed (log_of w f) cut ≡ true
    → (before after : List Stamped) (x : Stamped) → ordered (log_of w f) cut ≡ before ++ (x ∷ after) → is_move x.op ≡ true
    → ClimbSays (foldl step start before).parents (parent_of x.op) (node_of x.op)

---- the listing

-- no number stands twice
abbrev pub Distinct : List ℕ → Type 0
Distinct [] = Unit {0}
Distinct (x ∷ xs) = (is_in x xs ≡ true → ⊥) × Distinct xs

-- the listing's order has the root and every added node, and each of them once; a listing has at most 12 bytes for each of 2,041 nodes; a
-- line prints `r` for what is known and marked in the held counts, and for nothing else
pub record Listed (log : Log) : Type 0 where
  pub once : Distinct (preorder slots log (parents_of log) 0)
  pub every : (n : ℕ) → is_in n (preorder slots log (parents_of log) 0) ≡ known_parent log (counts_of log) n
  pub size : (view : View) → length (listing_of view log) ≤ 24492
  pub marks : (n : ℕ) → line log (parents_of log) n ≡ line_of (depth (parents_of log) n) n (is_marked (knowledge log (counts_of log) n))

abbrev pub Listings : Type 0
Listings = (w : ℕ) (f : List ℕ) → structural w f ≡ true → Listed (log_of w f)

-- the number that decimal digits stand for
unfoldable pub value_of : List ℕ → ℕ
value_of ds = foldl (λ (v d : ℕ). 10 * v + (d - 48)) 0 ds

-- a number in decimal: digits that read back as the number, with no 0 in front; the bound of five does not matter
pub record InDecimal (n : ℕ) : Type 0 where
  pub value : value_of (decimal n) ≡ n
  pub are_digits : (i : ℕ) → i < length (decimal n) → (48 ≤ get_or (decimal n) i 0) × (get_or (decimal n) i 0 ≤ 57)
  pub first : 1 ≤ n → 49 ≤ get_or (decimal n) 0 0
  pub unbounded : (k : ℕ) → 5 ≤ k → digits k n ≡ decimal n

abbrev pub Decimals : Type 0
Decimals = (n : ℕ) → n < 100000 → InDecimal n

---- removed articles take no new work

-- neither the node nor the parent of an add or a move that is issued is marked in the present tree
pub record WorkUnmarked (log : Log) (op : Op) : Type 0 where
  pub node : marked log (counts_of log) (node_of op) ≡ false
  pub parent : marked log (counts_of log) (parent_of op) ≡ false

abbrev pub NoNewWork : Type 0
NoNewWork =
    (w : ℕ) (f : List ℕ) (room s : ℕ) (q : Request) (end : ℕ) → issue_answer w f room s q ≡ accepted end
    → is_remove (issued (log_of w f) s q) ≡ false → WorkUnmarked (log_of w f) (issued (log_of w f) s q)
