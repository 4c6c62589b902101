-- The effect of an op on the tables, by its fields.
use Rattle.std.specs.Prelude.{ℕ, ◌<◌, ◌≡◌, Bool, true, cond, ◌&&◌, ◌||◌, not, List, get_or, set, eqb}
use Rattle.rules.specs.Log.{structural}
use Rattle.rules.specs.Tree.{slots, no_parent, at_or_below}
use Rattle.rules.specs.Replay.{State}
use Rattle.tree.specs.Slots.{InSlot}
use Rattle.schedule.specs.declared.entries.Entry.{Entry}
use Rattle.effect.specs.declared.tables.Outcome.{Outcome}
use Rattle.effect.specs.declared.tables.Outcome.TheVariants.{Applied, Placed, Cycle}
use Rattle.effect.specs.declared.tables.Tables as code

-- the tables as a state
abbrev pub state_of : code.Tables → State
state_of t = record { parents = t.parents; outcomes = t.outcomes; placed = t.placed }

-- a node has a slot in the tables
pub record Slotted (node n : ℕ) : Type 0 where
  pub small : node < no_parent
  pub inside : n < slots

-- a structurally sound file has an op in the slot of an entry
pub record Applicable (w : ℕ) (f : List ℕ) (e : Entry) : Type 0 where
  pub is_structural : structural w f ≡ true
  pub in_slot : InSlot w f e.slot

---- what the effects are

-- the document's numbers of the outcomes
abbrev pub outcome_number : Outcome → ℕ
outcome_number Applied = 1
outcome_number Placed = 2
outcome_number Cycle = 3

-- the effects by the fields of an op: its outcome; an applied add or move hangs its node; an applied move is noted with its time
abbrev pub moves : ℕ → Bool
moves k = eqb k 3 || eqb k 4

abbrev pub hangs : ℕ → Bool
hangs k = eqb k 1 || moves k

unfoldable pub outcome_by : State → ℕ → ℕ → ℕ → ℕ → ℕ → ℕ
outcome_by st kind node parent n time =
    cond (not (moves kind)) 1 (cond (eqb (get_or st.placed n 0) time) 2 (cond (at_or_below st.parents parent node) 3 1))

unfoldable pub hung : State → ℕ → ℕ → ℕ → ℕ → State
hung st kind outcome n parent = record {
  parents = cond (eqb outcome 1 && hangs kind) (set st.parents n parent) st.parents;
  outcomes = st.outcomes;
  placed = st.placed;
}

unfoldable pub noted : State → ℕ → ℕ → ℕ → ℕ → State
noted st kind outcome n time = record {
  parents = st.parents;
  outcomes = st.outcomes;
  placed = cond (eqb outcome 1 && moves kind) (set st.placed n time) st.placed;
}
