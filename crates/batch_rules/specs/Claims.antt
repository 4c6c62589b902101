-- What a batch promises, in the document's words.
use Rattle.std.specs.Prelude.{ℕ, ◌*◌, ◌≤◌, ◌<◌, Bool, true, false, ◌⊎◌, ◌≡◌, length, take, drop, get_or, set}
use mathlib.Core.List.{List, [], ◌∷◌, ◌++◌, foldl, map}
use Rattle.lists.specs.Lists.{concat, all}
use Rattle.rules.specs.Answer.{accepted, refused, if_accepted}
use Rattle.rules.specs.Op.{is_replica}
use Rattle.rules.specs.File.{file_end, log_of, width}
use Rattle.rules.specs.Tree.{path, slot_of}
use Rattle.rules.specs.Replay.{outcome_slot, outcomes_of, parents_of}
use Rattle.rules.specs.Sound.{sound}
use Rattle.rules.specs.Issue.{Issued, move, issue, issued, request_clear, request_known, request_unmarked}
use Rattle.batch_rules.specs.Batch.{issue_moves, most_moves}

-- the moves issued by calls of their own: each is lent the buffer that the one before left, and the next bytes of what is lent for the ops
unfoldable pub singly : (buffer out : List ℕ) (replica : ℕ) (nodes : List ℕ) (parent : ℕ) → List Issued
singly f out s [] p = []
singly f out s (n ∷ ns) p =
    let first : Issued = issue width f (take width out) s (move n p) in
    first ∷ singly first.buffer (drop width out) s ns p

unfoldable pub all_accepted : List Issued → Bool
all_accepted xs = all (λ (x : Issued). if_accepted x.answer true false) xs

-- the buffer after calls that began with f
unfoldable pub last_buffer : List ℕ → List Issued → List ℕ
last_buffer f xs = foldl (λ g (x : Issued). x.buffer) f xs

-- an accepted batch leaves and puts out what issuing its moves one by one does
pub record OneByOne (f out : List ℕ) (s : ℕ) (ns : List ℕ) (p end : ℕ) : Type 0 where
  pub each : all_accepted (singly f out s ns p) ≡ true
  pub left : (issue_moves width f out s ns p).buffer ≡ last_buffer f (singly f out s ns p)
  pub put : (issue_moves width f out s ns p).out
      ≡ concat (map (λ (x : Issued). x.out) (singly f out s ns p)) ++ drop (width * length ns) out
  pub ends : file_end width (issue_moves width f out s ns p).buffer ≡ end

abbrev pub AsOneByOne : Type 0
AsOneByOne =
    (f out : List ℕ) (s : ℕ) (ns : List ℕ) (p end : ℕ) → (issue_moves width f out s ns p).answer ≡ accepted end → OneByOne f out s ns p end

-- the tests 1, 2 and 3
pub record Tested (f : List ℕ) (room s : ℕ) (ns : List ℕ) : Type 0 where
  pub is_sound_so : sound width f ≡ true
  pub few : length ns ≤ most_moves
  pub space : width * length ns ≤ room
  pub is_replica_so : is_replica s ≡ true

-- a batch that passed them is accepted if each of its moves is, and else has the number of the first that is refused
pub record Decided (f out : List ℕ) (s : ℕ) (ns : List ℕ) (p : ℕ) : Type 0 where
  pub whole : all_accepted (singly f out s ns p) ≡ true
      → (issue_moves width f out s ns p).answer ≡ accepted (file_end width (last_buffer f (singly f out s ns p)))
  pub first_refused : (before after : List Issued) (x : Issued) (k : ℕ) → singly f out s ns p ≡ before ++ (x ∷ after)
      → all_accepted before ≡ true → x.answer ≡ refused k → (issue_moves width f out s ns p).answer ≡ refused k

abbrev pub ByItsMoves : Type 0
ByItsMoves = (f out : List ℕ) (s : ℕ) (ns : List ℕ) (p : ℕ) → Tested f (length out) s ns → Decided f out s ns p

-- "each tested in the tree left by those before", "the set is whole at issue": where an accepted batch has moved the nodes before n, it
-- issues the move of n; this has outcome 1 in the log with it, and after the whole batch
abbrev pub AppliedAtIssue : Type 0
AppliedAtIssue =
    (f out : List ℕ) (s : ℕ) (before : List ℕ) (n : ℕ) (after : List ℕ) (p end : ℕ)
    → (issue_moves width f out s (before ++ (n ∷ after)) p).answer ≡ accepted end
    → let then = last_buffer f (singly f out s before p) in
    let with = (issue width then (take width out) s (move n p)).buffer in
    let at = outcome_slot (issued (log_of width then) s (move n p)) in
    (get_or (outcomes_of (log_of width with)) at 0 ≡ 1)
    × (get_or (outcomes_of (log_of width (issue_moves width f out s (before ++ (n ∷ after)) p).buffer)) at 0 ≡ 1)

-- the tree after an accepted batch is the one before, with each node in turn hung under the parent
abbrev pub WholeAtIssue : Type 0
WholeAtIssue =
    (f out : List ℕ) (s : ℕ) (ns : List ℕ) (p end : ℕ) → (issue_moves width f out s ns p).answer ≡ accepted end
    → parents_of (log_of width (issue_moves width f out s ns p).buffer)
    ≡ foldl (λ t n. set t (slot_of n) p) (parents_of (log_of width f)) ns

-- what moves of a batch cannot change for those after them: all go to one parent, and none that is accepted moves what is above it. So its
-- path stays, and the tests 7, 11 and 10 of a move are answered as in the log before the batch
pub record SameTests (f g : List ℕ) (p : ℕ) : Type 0 where
  pub way : path (parents_of (log_of width g)) p ≡ path (parents_of (log_of width f)) p
  pub known : (n : ℕ) → request_known (log_of width g) (move n p) ≡ request_known (log_of width f) (move n p)
  pub unmarked : (n : ℕ) → request_unmarked (log_of width g) (move n p) ≡ request_unmarked (log_of width f) (move n p)
  pub clear : (n : ℕ) → request_clear (log_of width g) (move n p) ≡ request_clear (log_of width f) (move n p)

abbrev pub ParentStays : Type 0
ParentStays =
    (f out : List ℕ) (s : ℕ) (ns : List ℕ) (p end : ℕ) → (issue_moves width f out s ns p).answer ≡ accepted end
    → SameTests f (issue_moves width f out s ns p).buffer p

-- "no lent byte changes"
abbrev pub RefusedLeaves : Type 0
RefusedLeaves =
    (f out : List ℕ) (s : ℕ) (ns : List ℕ) (p : ℕ) → if_accepted (issue_moves width f out s ns p).answer true false ≡ false
    → ((issue_moves width f out s ns p).buffer ≡ f) × ((issue_moves width f out s ns p).out ≡ out)

-- "after tests 1, 2 and 3 an empty list is accepted, writes nothing and answers the file end"
abbrev pub EmptyAccepted : Type 0
EmptyAccepted =
    (f out : List ℕ) (s p : ℕ) → sound width f ≡ true → is_replica s ≡ true
    → issue_moves width f out s [] p ≡ record { answer = accepted (file_end width f); buffer = f; out = out }

-- "more than 16, or fewer than 14 bytes of output per move, is answered 2"
abbrev pub TooMany : Type 0
TooMany =
    (f out : List ℕ) (s : ℕ) (ns : List ℕ) (p : ℕ) → sound width f ≡ true
    → (most_moves < length ns) ⊎ (length out < width * length ns) → (issue_moves width f out s ns p).answer ≡ refused 2
