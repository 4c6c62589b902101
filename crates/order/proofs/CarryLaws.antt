-- A replay is carried from one cut to another along an order that has both: what the first counts from some place on is taken back, and
-- what the second counts there is judged.
use Prim.Native.Nat.{ℕ}
use lib.ListN.{take, drop, take-append-drop}
use mathlib.Core.Bool.{true}
use mathlib.Core.List.{List, ◌++◌, foldl, foldl-append}
use mathlib.Core.Path.{◌≡◌, sym, ap, ◌∙◌}
use native.Mathlib.Omega.{arith}
use Rattle.lists.specs.Lists.{filter}
use Rattle.lists.proofs.EachLaws.{Each}
use Rattle.lists.proofs.FilterLaws.{filter_alike, filter_append}
use Rattle.rules.specs.File.{Log, counts_of}
use Rattle.rules.specs.Log.{covered}
use Rattle.rules.specs.Op.{Vector}
use Rattle.rules.specs.Replay.{Stamped, order_of, ordered}
use Rattle.rules.proofs.CausalLaws.{Le, le_within}
use Rattle.rules.proofs.StructureLaws.{GoodLog, held_in}
use Rattle.order.specs.Undo.{replay_keeping, step_keeping, take_back, unjudged}
use Rattle.order.proofs.PartLaws.{in_cut, ordered_part}
use Rattle.order.proofs.SlotLaws.{slots_distinct, slots_in}
use Rattle.order.proofs.UndoLaws.{ops_in, take_back_after}

-- two cuts count the same of these
abbrev pub Agrees : Vector → Vector → List Stamped → Type 0
Agrees v w xs = Each (λ x. in_cut v x ≡ in_cut w x) xs

module _ (log : Log) (good : GoodLog log) (v w u : Vector) (cu : covered log u ≡ true) (vu : Le v u) (wu : Le w u) (i : ℕ) where
  abbrev front : List Stamped
  front = take i (ordered log u)

  abbrev back : List Stamped
  back = drop i (ordered log u)

  parts : (z : Vector) → Le z u → ordered log z ≡ filter (in_cut z) front ++ filter (in_cut z) back
  parts z le =
      ordered_part log good z u cu le ∙ ap (filter (in_cut z)) (sym (take-append-drop i (ordered log u)))
      ∙ filter_append (in_cut z) front back

  pub carried : Agrees v w front
      → foldl step_keeping (take_back (replay_keeping log v) (ops_in (filter (in_cut v) back))) (filter (in_cut w) back) ≡ replay_keeping log w
  unfolding replay_keeping order_of covered
  carried agree =
      let cv : covered log v ≡ true = le_within v (counts_of log) (λ s l b. omega (arith, vu s l b, held_in log u cu s l b)) in
      let taken : take_back (foldl step_keeping unjudged (ordered log v)) (ops_in (filter (in_cut v) back))
      ≡ foldl step_keeping unjudged (filter (in_cut v) front) =
      ap (λ ys. take_back (foldl step_keeping unjudged ys) (ops_in (filter (in_cut v) back))) (parts v vu)
      ∙ take_back_after (filter (in_cut v) front) (filter (in_cut v) back) (rw (← parts v vu) (slots_in log good v cv))
      (rw (← parts v vu) (slots_distinct log good v cv)) in
      rw (taken, filter_alike (in_cut v) (in_cut w) front agree, parts w wu, foldl-append)
