-- The parent of a batch stays where it hangs: no move that is accepted moves what is above it.
use Prim.Native.Nat.{ℕ, zero, suc}
use borrow.Author.Tests.{eq-eqb, ne_eqb, not-true}
use lib.ListN.{set}
use lib.Seq.{get_or-set_other}
use mathlib.Core.Bool.{false, and-eq-true_iff}
use mathlib.Core.List.{List, [], ◌∷◌}
use mathlib.Core.Logic.{inr}
use mathlib.Core.Path.{◌≡◌, refl, sym, ap, ◌∙◌}
use native.Mathlib.Decide.{ℕ_discrete}
use Rattle.lists.specs.Lists.{any, is_in}
use Rattle.lists.proofs.BoolLaws.{never}
use Rattle.rules.specs.Answer.{accepted}
use Rattle.rules.specs.File.{Log, counts_of, log_of, width}
use Rattle.rules.specs.Issue.{move, issue_answer, request_clear, request_known}
use Rattle.rules.specs.Replay.{parents_of}
use Rattle.rules.specs.Tree.{at_or_below, climb, no_parent, parent_in, path, slot_of, slots}
use Rattle.rules.proofs.IssueLaws.{allowed}
use Rattle.rules.proofs.KnownLaws.{Named, named_valid, parent_reads}
use Rattle.rules.proofs.SlotLaws.{Valid, slot_injective}
use Rattle.rules.proofs.SoundLaws.{sound_good}
use Rattle.rules.proofs.StructureLaws.{GoodLog}
use Rattle.order.proofs.TreePathLaws.{named_parent}
use Rattle.batch_rules.specs.Batch.{move_buffer, moves_buffer}
use Rattle.batch_rules.proofs.BatchLaws.{AllTaken, parents_after}

-- a climb that does not meet a node is the same where that node hangs elsewhere
module _ (log : Log) (good : GoodLog log) (n p : ℕ) (vn : Valid n) where
  abbrev parents : List ℕ
  parents = parents_of log

  abbrev hung : List ℕ
  hung = set parents (slot_of n) p

  first_not : (m : ℕ) (rest : List ℕ) → is_in n (m ∷ rest) ≡ false → (m ≡ n → ⊥) × (is_in n rest ≡ false)
  unfolding is_in any
  first_not m rest e = elim (ℕ_discrete n m) [
    | yes z ↦ never (sym e ∙ rw (eq-eqb n m z))
    | no nz ↦ (λ z. nz (sym z), rw (ne_eqb n m nz) at e)
  ]

  climb_stays : (k m : ℕ) → Named log (counts_of log) m → is_in n (climb k parents m) ≡ false → climb k hung m ≡ climb k parents m
  unfolding climb parent_in
  climb_stays zero m named e = refl
  climb_stays (suc k) m named e = elim (ℕ_discrete m 0) [
    | yes z ↦ rw (eq-eqb m 0 z)
    | no nz ↦
        let apart = first_not m (climb k parents (parent_in parents m)) (rw (ne_eqb m 0 nz) at e) in
        let same : parent_in hung m ≡ parent_in parents m =
        get_or-set_other parents (slot_of n) (slot_of m) p no_parent
        (λ q. apart.0 (slot_injective m n (named_valid log (counts_of log) m named) vn q)) in
        rw (ne_eqb m 0 nz, same)
        (ap (◌∷◌ m) (climb_stays k (parent_in parents m) (named_parent log good m named nz) apart.1))
  ]

-- one move, and all
move_stays : (f : List ℕ) (s n p m : ℕ) → issue_answer width f width s (move n p) ≡ accepted m
    → path (parents_of (log_of width (move_buffer width f s n p))) p ≡ path (parents_of (log_of width f)) p
unfolding request_known request_clear at_or_below path
move_stays f s n p m e =
    let a = allowed width f width s (move n p) m e in
    let log = log_of width f in
    let names = simp and-eq-true_iff at a.names in
    let node : Valid n = named_valid log (counts_of log) n (inr names.0.0) in
    let parent : Named log (counts_of log) p = parent_reads log (counts_of log) p names.0.1 in
    rw (parents_after f s n p m e) (climb_stays log (sound_good width f a.is_sound_so) n p node slots p parent (not-true _ a.clear))

pub taken_stays : (ns f : List ℕ) (s p : ℕ) → AllTaken f s ns p
    → path (parents_of (log_of width (moves_buffer width f s ns p))) p ≡ path (parents_of (log_of width f)) p
unfolding moves_buffer
taken_stays [] f s p t = refl
taken_stays (n ∷ ns) f s p t =
    let (m, e) = t.0 in taken_stays ns (move_buffer width f s n p) s p t.1 ∙ move_stays f s n p m e
