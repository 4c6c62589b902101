-- "An applied move of the same stamp already placed its node": outcome 2 in the document's words, and that the
-- state's `placed` table answers it.
use Rattle.std.specs.Prelude.{ℕ, eqb, get_or, Bool, cond, true, ◌&&◌, ◌≡◌}
use mathlib.Core.List.{List, [], ◌∷◌, ◌++◌, foldl}
use Rattle.lists.specs.Lists.{any}
use Rattle.rules.specs.Log.{structural, covered, closed}
use Rattle.rules.specs.File.{log_of}
use Rattle.rules.specs.Op.{Vector, is_move, node_of}
use Rattle.rules.specs.Replay.{State, Stamped, step, outcome_of, ordered, start}
use Rattle.rules.specs.Tree.{slot_of}

-- the ops of a run that are applied
unfoldable pub applied_in : State → List Stamped → List Stamped
applied_in st [] = []
applied_in st (x ∷ xs) = let rest = applied_in (step st x) xs in cond (eqb (outcome_of st x) 1) (x ∷ rest) rest

-- some move among these placed x's node at x's time
unfoldable pub already_placed : List Stamped → Stamped → Bool
already_placed ys x = any (λ y. is_move y.op && eqb y.time x.time && eqb (node_of y.op) (node_of x.op)) ys

-- xs are the ops judged before x
abbrev pub PlacedSays : Type 0
PlacedSays =
    (w : ℕ) (f : List ℕ) → structural w f ≡ true
    → (cut : Vector) → covered (log_of w f) cut ≡ true → closed (log_of w f) cut ≡ true
    → (xs : List Stamped) (x : Stamped) (ys : List Stamped) → ordered (log_of w f) cut ≡ xs ++ (x ∷ ys) → is_move x.op ≡ true
    → eqb (get_or (foldl step start xs).placed (slot_of (node_of x.op)) 0) x.time ≡ already_placed (applied_in start xs) x
