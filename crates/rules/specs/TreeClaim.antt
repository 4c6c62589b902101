-- The tree theorem (the last sentence of demand 3): what the parent table is after a replay.
use Rattle.std.specs.Prelude.{ℕ, suc, ◌<◌, ◌≡◌, true, List, length, get_or}
use Rattle.lists.specs.Lists.{is_in}
use Rattle.rules.specs.Op.{Vector}
use Rattle.rules.specs.File.{log_of}
use Rattle.rules.specs.Log.{covered, closed, structural}
use Rattle.rules.specs.Tree.{slot_of, slots, no_parent, climb}
use Rattle.rules.specs.Replay.{added_in, replay}

-- a parent table is a tree of these nodes
pub record IsTree (nodes parents : List ℕ) : Type 0 where
  pub size : length parents ≡ slots
  -- "every climb reaches the root in no more steps than there are added nodes"
  pub climbs : (n : ℕ) → is_in n nodes ≡ true → is_in 0 (climb (suc (length nodes)) parents n) ≡ true
  -- "slot 0 has parent 0", and "a slot without an added node has parent 65535"
  pub root : get_or parents 0 no_parent ≡ 0
  pub bare : (i : ℕ) → 0 < i → i < slots → ((n : ℕ) → is_in n nodes ≡ true → slot_of n ≡ i → ⊥) → get_or parents i 0 ≡ no_parent

-- after the replay of any closed cut of a structurally sound file; the whole log is such a cut
abbrev pub Trees : Type 0
Trees =
    (w : ℕ) (f : List ℕ) → structural w f ≡ true
    → (cut : Vector) → covered (log_of w f) cut ≡ true → closed (log_of w f) cut ≡ true
    → IsTree (added_in (log_of w f) cut) (replay (log_of w f) cut).parents
