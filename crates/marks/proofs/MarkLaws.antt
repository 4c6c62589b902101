-- The table has a mark for each marked node, and no other.
use Prim.Native.Nat.{ℕ}
use borrow.Author.Tests.{eq-eqb, ne_eqb}
use lib.Dec.{eqb}
use lib.ListN.{get_or, get_or-replicate, length, length-replicate, length-set, replicate, set}
use lib.Seq.{get_or-set_other, get_or-set_same}
use mathlib.Core.Bool.{Bool, cond, false, not, or_assoc, or-false, or-true, true, ◌||◌}
use mathlib.Core.List.{List, [], foldl, map, ◌∷◌}
use mathlib.Core.Logic.{inr}
use mathlib.Core.Path.{refl, sym, ◌∙◌, ◌≡◌}
use native.Mathlib.Decide.{ℕ_discrete}
use native.Mathlib.Omega.{arith}
use Rattle.rules.proofs.KnownLaws.{Known, named_valid}
use Rattle.lists.proofs.BoolLaws.{and_left, and_right}
use Rattle.rules.proofs.StructureLaws.{GoodLog}
use Rattle.rules.proofs.SlotLaws.{Valid, slot_below, slot_injective}
use Rattle.lists.specs.Lists.{all, any, concat, filter, is_in}
use Rattle.rules.specs.File.{Log, counts_of}
use Rattle.rules.specs.Op.{Op, is_remove, node_of}
use Rattle.rules.specs.Replay.{ops_within, removed_in}
use Rattle.rules.specs.Tree.{slot_of, slots}
use Rattle.rules.specs.Marks.{marked}
use Rattle.tree.proofs.SlotLaws.{slot_in_valid}
use Rattle.order.proofs.RemoveLaws.{ops_all, removes_known_law, removes_known}
use Rattle.tree.specs.Slots.{at_node, slot_in}
use Rattle.marks.specs.Marking.{mark, marks_of, no_marks}

mark_size : (t : List ℕ) (r : Op) → length (mark t r) ≡ length t
unfolding mark
mark_size t r = go (is_remove r)
  where
    go : (b : Bool) → length (cond b (set t (slot_in (node_of r)) 1) t) ≡ length t
    go true = length-set t _ _
    go false = refl

marks_size : (rs : List Op) (t : List ℕ) → length (foldl mark t rs) ≡ length t
marks_size [] t = refl
marks_size (r ∷ rs) t = marks_size rs (mark t r) ∙ mark_size t r

pub marks_long : (log : Log) → length (marks_of log) ≡ slots
unfolding marks_of no_marks
marks_long log = marks_size (concat log) (replicate slots 0) ∙ length-replicate {A = ℕ} slots 0

-- whether a table has a mark for a node
abbrev mark_in : List ℕ → ℕ → Bool
mark_in t n = not (eqb (get_or t (slot_of n) 0) 0)

module _ (log : Log) (good : GoodLog log) where
  mark_one : (t : List ℕ) (r : Op) (n : ℕ) → length t ≡ slots → Valid n → removes_known log r ≡ true → is_remove r ≡ true
      → mark_in (set t (slot_in (node_of r)) 1) n ≡ (mark_in t n || eqb n (node_of r))
  mark_one t r n size v f e =
      let w : Known log (counts_of log) (node_of r) = rw e at f in
      let vr : Valid (node_of r) = named_valid log (counts_of log) (node_of r) (inr w) in
      rw (slot_in_valid (node_of r) vr) (elim (ℕ_discrete n (node_of r)) [
        | yes q ↦ rw (
          q,
          get_or-set_same t (slot_of (node_of r)) 1 0 (omega (arith, slot_below (node_of r) vr)),
          eq-eqb (node_of r)
              (node_of r) refl,
        ) (sym (or-true (mark_in t (node_of r))))
        | no nq ↦ rw (
          get_or-set_other t (slot_of (node_of r)) (slot_of n) 1 0 (λ x. nq (slot_injective n (node_of r) v vr x)),
          ne_eqb n
              (node_of r) nq,
        ) (sym (or-false (mark_in t n)))
      ])

  marks_are : (rs : List Op) (t : List ℕ) (n : ℕ) → length t ≡ slots → Valid n → all (removes_known log) rs ≡ true
      → mark_in (foldl mark t rs) n ≡ (mark_in t n || is_in n (map node_of (filter is_remove rs)))
  unfolding all is_in any filter mark
  marks_are [] t n size v f = sym (or-false (mark_in t n))
  marks_are (r ∷ rs) t n size v f =
      marks_are rs (mark t r) n (mark_size t r ∙ size) v (and_right (removes_known log r) _ f) ∙ go (is_remove r) refl
    where
      go : (b : Bool) → is_remove r ≡ b → (mark_in (mark t r) n || any (eqb n) (map node_of (filter is_remove rs))) ≡ (mark_in t n
          || any (eqb n) (map node_of (cond b (r ∷ filter is_remove rs) (filter is_remove rs))))
      go true e = rw (e, mark_one t r n size v (and_left (removes_known log r) _ f) e) (or_assoc (mark_in t n) (eqb n (node_of r)) _)
      go false e = rw e

  pub marks_say : (n : ℕ) → Valid n → not (eqb (at_node (marks_of log) n) 0) ≡ marked log (counts_of log) n
  unfolding marks_of no_marks marked removed_in
  marks_say n v =
      rw (slot_in_valid n v, ← ops_all log good.eight) (marks_are (ops_within log (counts_of log)) (replicate slots 0) n
      (length-replicate {A = ℕ} slots 0) v (removes_known_law log good) ∙ rw (get_or-replicate {A = ℕ} slots (slot_of n) 0 0 (slot_below n v)))
