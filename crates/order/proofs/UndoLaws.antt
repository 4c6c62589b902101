-- Taking back is exact: what was judged last is taken back to the whole state before it.
use Prim.Native.Nat.{ℕ, ◌<◌}
use lib.Dec.{eqb}
use lib.ListN.{get_or, set, length, length-set, length-replicate, get_or-replicate}
use lib.Seq.{set-set, set-get_or, get_or-set_same, get_or-set_other}
use mathlib.Core.Bool.{Bool, true, false, cond, ◌&&◌, ◌||◌}
use mathlib.Core.List.{List, [], ◌∷◌, ◌++◌, map, map-append, foldl, foldl-append}
use mathlib.Core.Path.{◌≡◌, refl, sym, ap, ◌∙◌}
use native.Mathlib.Omega.{arith}
use Rattle.lists.specs.Lists.{is_in}
use Rattle.lists.proofs.MemberLaws.{is_in_here, is_in_right, is_in_there}
use Rattle.rules.specs.File.{Log}
use Rattle.rules.specs.Op.{Op, Vector, node_of, parent_of, is_add, is_move}
use Rattle.rules.specs.Replay.{Stamped, step, start, outcome_of, outcome_slot, ordered, replay}
use Rattle.rules.specs.Tree.{slot_of, slots}
use Rattle.order.specs.Claims.{Distinct}
use Rattle.order.specs.Undo.{IsSlot, Undoable, unjudged, step_keeping, undo, take_back, replay_keeping}

abbrev pub slots_of : List Stamped → List ℕ
slots_of xs = map (λ (x : Stamped). outcome_slot x.op) xs

abbrev pub ops_in : List Stamped → List Op
ops_in xs = map (λ (x : Stamped). x.op) xs

-- the tables say nothing of slot i
record Blank (i : ℕ) (k : Undoable) : Type 0 where
  pub outcome : get_or k.state.outcomes i 0 ≡ 0
  pub no_took : get_or k.took i 0 ≡ 0
  pub no_was : get_or k.was i 0 ≡ 0
  pub took_size : i < length k.took
  pub was_size : i < length k.was

blank_first : (i : ℕ) → IsSlot i → Blank i unjudged
unfolding unjudged start
blank_first i b = record {
  outcome = get_or-replicate {A = ℕ} slots i 0 0 (omega (arith, b.most));
  no_took = get_or-replicate {A = ℕ} slots i 0 0 (omega (arith, b.most));
  no_was = get_or-replicate {A = ℕ} slots i 0 0 (omega (arith, b.most));
  took_size = omega (arith, b.most, length-replicate {A = ℕ} slots 0);
  was_size = omega (arith, b.most, length-replicate {A = ℕ} slots 0);
}

-- judging another op leaves a slot as it is
blank_step : (i : ℕ) (k : Undoable) (x : Stamped) → (i ≡ outcome_slot x.op → ⊥) → Blank i k → Blank i (step_keeping k x)
unfolding step_keeping step
blank_step i k x ne b = record {
  outcome = get_or-set_other k.state.outcomes (outcome_slot x.op) i _ 0 ne ∙ b.outcome;
  no_took = get_or-set_other k.took (outcome_slot x.op) i _ 0 ne ∙ b.no_took;
  no_was = get_or-set_other k.was (outcome_slot x.op) i _ 0 ne ∙ b.no_was;
  took_size =
      omega (arith, b.took_size, length-set k.took (outcome_slot x.op) (get_or k.state.parents (slot_of (node_of x.op)) 0));
  was_size =
      omega (arith, b.was_size, length-set k.was (outcome_slot x.op) (get_or k.state.placed (slot_of (node_of x.op)) 0));
}

-- an entry that was perhaps overwritten, put back
put_back : (b : Bool) (xs : List ℕ) (n a : ℕ) → set (cond b (set xs n a) xs) n (get_or xs n 0) ≡ xs
put_back true xs n a = set-set xs n a (get_or xs n 0) ∙ set-get_or xs n 0
put_back false xs n a = set-get_or xs n 0

put_blank : (xs : List ℕ) (i a : ℕ) → get_or xs i 0 ≡ 0 → set (set xs i a) i 0 ≡ xs
put_blank xs i a e = set-set xs i a 0 ∙ ap (set xs i) (sym e) ∙ set-get_or xs i 0

-- taking back the last step gives what was before it, every entry
undo_step : (k : Undoable) (x : Stamped) → Blank (outcome_slot x.op) k → undo (step_keeping k x) x.op ≡ k
unfolding undo step_keeping step
undo_step k x b =
    let n : ℕ = slot_of (node_of x.op) in
    let i : ℕ = outcome_slot x.op in
    let o : ℕ = outcome_of k.state x in
    let parent : ℕ = get_or k.state.parents n 0 in
    let placed : ℕ = get_or k.state.placed n 0 in
    rw (
      get_or-set_same k.took i parent 0 b.took_size,
      get_or-set_same k.was i placed 0 b.was_size,
      put_back (eqb o 1 && (is_add x.op || is_move x.op)) k.state.parents n (parent_of x.op),
      put_back (eqb o 1 && is_move x.op) k.state.placed n x.time,
      put_blank k.state.outcomes i o b.outcome,
      put_blank k.took i parent b.no_took,
      put_blank k.was i placed b.no_was,
    )

---- in a list of ops, each once

abbrev AllBlank : List ℕ → Undoable → Type 0
AllBlank is k = (i : ℕ) → is_in i is ≡ true → Blank i k

blanks_step : (is : List ℕ) (k : Undoable) (x : Stamped) → (is_in (outcome_slot x.op) is ≡ true → ⊥) → AllBlank is k
    → AllBlank is (step_keeping k x)
blanks_step is k x ne b i e = blank_step i k x (λ z. ne (rw z at e)) (b i e)

-- ops that were judged, each once, are taken back
take_back_law : (xs : List Stamped) (k : Undoable) → Distinct (slots_of xs) → AllBlank (slots_of xs) k
    → take_back (foldl step_keeping k xs) (ops_in xs) ≡ k
unfolding take_back
take_back_law [] k d b = refl
take_back_law (x ∷ xs) k d b =
    ap (λ (z : Undoable). undo z x.op) (take_back_law xs (step_keeping k x) d.1
    (blanks_step (slots_of xs) k x d.0 (λ i e. b i (is_in_there i (outcome_slot x.op) (slots_of xs) e))))
    ∙ undo_step k x (b (outcome_slot x.op) (is_in_here (outcome_slot x.op) (slots_of xs)))

distinct_right : (is js : List ℕ) → Distinct (is ++ js) → Distinct js
distinct_right [] js d = d
distinct_right (i ∷ is) js d = distinct_right is js d.1

blanks_run : (js : List ℕ) (xs : List Stamped) (k : Undoable) → Distinct (slots_of xs ++ js) → AllBlank js k
    → AllBlank js (foldl step_keeping k xs)
blanks_run js [] k d b = b
blanks_run js (x ∷ xs) k d b =
    blanks_run js xs (step_keeping k x) d.1
    (blanks_step js k x (λ e. d.0 (is_in_right (outcome_slot x.op) (slots_of xs) js e)) b)

-- the ops behind any place are taken back
pub take_back_after : (xs ys : List Stamped) → ((i : ℕ) → is_in i (slots_of (xs ++ ys)) ≡ true → IsSlot i) → Distinct (slots_of (xs ++ ys))
    → take_back (foldl step_keeping unjudged (xs ++ ys)) (ops_in ys) ≡ foldl step_keeping unjudged xs
take_back_after xs ys h d =
    let split : slots_of (xs ++ ys) ≡ slots_of xs ++ slots_of ys = map-append (λ (x : Stamped). outcome_slot x.op) xs ys in
    let d' : Distinct (slots_of xs ++ slots_of ys) = rw split at d in
    rw foldl-append (take_back_law ys (foldl step_keeping unjudged xs) (distinct_right (slots_of xs) (slots_of ys) d')
    (blanks_run (slots_of ys) xs unjudged d' (λ i e. blank_first i (h i (rw split (is_in_right i (slots_of xs) (slots_of ys) e))))))

-- the code takes back from the end of the list
pub take_back_last : (k : Undoable) (rs : List Op) (r : Op) → take_back k (rs ++ (r ∷ [])) ≡ take_back (undo k r) rs
unfolding take_back
take_back_last k [] r = refl
take_back_last k (q ∷ rs) r = ap (λ (z : Undoable). undo z q) (take_back_last k rs r)

---- the state beside the tables is that of replay

keeping_state : (xs : List Stamped) (k : Undoable) → (foldl step_keeping k xs).state ≡ foldl step k.state xs
unfolding step_keeping
keeping_state [] k = refl
keeping_state (x ∷ xs) k = keeping_state xs (step_keeping k x)

pub replay_keeping_law : (log : Log) (cut : Vector) → (replay_keeping log cut).state ≡ replay log cut
unfolding replay_keeping replay unjudged
replay_keeping_law log cut = keeping_state (ordered log cut) unjudged
