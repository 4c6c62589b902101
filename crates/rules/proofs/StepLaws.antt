-- Laws of one step of a replay: what an op does to the tables.
use Rattle.rules.specs.File.{Log}
use Rattle.rules.specs.Op.{Op, Vector, is_add, is_move, kind_of, node_of, parent_of}
use Rattle.rules.specs.Replay.{Stamped, State, ordered, outcome_of, outcome_slot, replay, start, step}
use Rattle.rules.specs.Tree.{no_parent, at_or_below, slot_of, slots}
use mathlib.Core.Bool.{Bool, ◌&&◌, ◌||◌, cond, false, not, or-true, true}
use mathlib.Core.List.{List, [], ◌∷◌, foldl}
use mathlib.Core.Path.{ap, ◌∙◌, ◌≡◌, refl}
use mathlib.Core.Logic.{◌⊎◌, inl, inr}
use borrow.Author.Tests.{eq-eqb, ne_eqb}
use lib.Dec.{eqb}
use lib.ListN.{get_or, length, length-replicate, length-set, set}
use Prim.Native.Nat.{suc, ℕ}

pub step_add : (st : State) (x : Stamped) → kind_of x.op ≡ 1 → (step st x).parents ≡ set st.parents (slot_of (node_of x.op))
    (parent_of x.op)
unfolding step outcome_of is_add is_move
step_add st x k = rw k

pub step_remove : (st : State) (x : Stamped) → kind_of x.op ≡ 2 → (step st x).parents ≡ st.parents
unfolding step outcome_of is_add is_move
step_remove st x k = rw k

-- a move is passed over, or is free
pub step_move : (st : State) (x : Stamped) → is_move x.op ≡ true → is_add x.op ≡ false
    → ((step st x).parents ≡ st.parents) ⊎ (((step st x).parents ≡ set st.parents (slot_of (node_of x.op)) (parent_of x.op))
    × (at_or_below st.parents (parent_of x.op) (node_of x.op) ≡ false))
unfolding step outcome_of
step_move st x m a = rw (m, a) (go (eqb (get_or st.placed (slot_of (node_of x.op)) 0) x.time)
    (at_or_below st.parents (parent_of x.op) (node_of x.op)))
  where
    hung : List ℕ
    hung = set st.parents (slot_of (node_of x.op)) (parent_of x.op)

    go : (b c : Bool) → (cond (eqb (cond (not true) 1 (cond b 2 (cond c 3 1))) 1 && (false || true)) hung st.parents ≡ st.parents)
        ⊎ ((cond (eqb (cond (not true) 1 (cond b 2 (cond c 3 1))) 1 && (false || true)) hung st.parents ≡ hung) × (c ≡ false))
    go true c = inl refl
    go false true = inl refl
    go false false = inr (refl, refl)

---- sizes

pub record Full (st : State) : Type 0 where
  pub parents_full : length st.parents ≡ slots
  pub outcomes_full : length st.outcomes ≡ slots
  pub placed_full : length st.placed ≡ slots

pub full_step : (st : State) (x : Stamped) → Full st → Full (step st x)
unfolding step
full_step st x h =
    let r = x.op in
    let n = slot_of (node_of r) in
    let done = eqb (outcome_of st x) 1 in
    record {
      parents_full = go (done && (is_add r || is_move r)) st.parents n (parent_of r) ∙ h.parents_full;
      outcomes_full = length-set st.outcomes (outcome_slot r) (outcome_of st x) ∙ h.outcomes_full;
      placed_full = go (done && is_move r) st.placed n x.time ∙ h.placed_full;
    }
  where
    go : (b : Bool) (t : List ℕ) (i v : ℕ) → length (cond b (set t i v) t) ≡ length t
    go true t i v = length-set t i v
    go false t i v = refl

pub full_run : (xs : List Stamped) (st : State) → Full st → Full (foldl step st xs)
full_run [] st h = h
full_run (x ∷ xs) st h = full_run xs (step st x) (full_step st x h)

pub full_first : Full start
unfolding start
full_first = record {
  parents_full = ap suc (length-replicate {A = ℕ} 2040 no_parent);
  outcomes_full = length-replicate {A = ℕ} slots 0;
  placed_full = length-replicate {A = ℕ} slots 0;
}

pub tables_full : (log : Log) (cut : Vector) → Full (replay log cut)
unfolding replay
tables_full log cut = full_run (ordered log cut) start full_first

---- a move

module _ (st : State) (t : ℕ) (r : Op) (m : is_move r ≡ true) where
  abbrev it : Stamped
  it = record { time = t; op = r }

  pub applied : outcome_of st it ≡ 1
      → step st it ≡ record {
        parents = set st.parents (slot_of (node_of r)) (parent_of r);
        outcomes = set st.outcomes (outcome_slot r) 1;
        placed = set st.placed (slot_of (node_of r)) t;
      }
  unfolding step
  applied e = rw (e, m, or-true)

  pub passed_over : (o : ℕ) → eqb o 1 ≡ false → outcome_of st it ≡ o
      → step st it ≡ record { parents = st.parents; outcomes = set st.outcomes (outcome_slot r) o; placed = st.placed }
  unfolding step
  passed_over o ne e = rw (e, ne)

  pub applies : (get_or st.placed (slot_of (node_of r)) 0 ≡ t → ⊥) → at_or_below st.parents (parent_of r) (node_of r) ≡ false
      → outcome_of st it ≡ 1
  unfolding outcome_of
  applies p free = rw (m, ne_eqb _ t p, free)

  pub placed_already : get_or st.placed (slot_of (node_of r)) 0 ≡ t → outcome_of st it ≡ 2
  unfolding outcome_of
  placed_already p = rw (m, eq-eqb _ t p)

  pub blocked : (get_or st.placed (slot_of (node_of r)) 0 ≡ t → ⊥) → at_or_below st.parents (parent_of r) (node_of r) ≡ true
      → outcome_of st it ≡ 3
  unfolding outcome_of
  blocked p under = rw (m, ne_eqb _ t p, under)
