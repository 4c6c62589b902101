-- What the two views of a sound log show.
use Rattle.std.specs.Prelude.{ℕ, ◌≡◌, true, List, []}
use Rattle.rules.specs.File.{Log, counts_of, log_of}
use Rattle.rules.specs.Log.{known_parent, structural}
use Rattle.rules.specs.Marks.{is_known, knowledge}
use Rattle.rules.specs.Replay.{parents_of, removed_in}
use Rattle.rules.specs.Tree.{parent_in}
use Rattle.rules.specs.Views.{View, keeping, skipping, shown}

-- a view of a log shows the node
abbrev pub Shows : View → Log → ℕ → Type 0
Shows view log n = shown view log (parents_of log) n ≡ true

-- a shown node's parent is shown
abbrev pub ParentsShown : Type 0
ParentsShown =
    (w : ℕ) (f : List ℕ) → structural w f ≡ true
    → (view : View) (n : ℕ) → is_known (knowledge (log_of w f) (counts_of (log_of w f)) n) ≡ true
    → Shows view (log_of w f) n → Shows view (log_of w f) (parent_in (parents_of (log_of w f)) n)

-- without removals both views show every node
abbrev pub AllShown : Type 0
AllShown =
    (w : ℕ) (f : List ℕ) → structural w f ≡ true → removed_in (log_of w f) (counts_of (log_of w f)) ≡ []
    → (view : View) (n : ℕ) → known_parent (log_of w f) (counts_of (log_of w f)) n ≡ true → Shows view (log_of w f) n

-- the skipping view is within the keeping view
abbrev pub SkippingWithin : Type 0
SkippingWithin =
    (w : ℕ) (f : List ℕ) → structural w f ≡ true
    → (n : ℕ) → known_parent (log_of w f) (counts_of (log_of w f)) n ≡ true
    → Shows skipping (log_of w f) n → Shows keeping (log_of w f) n
