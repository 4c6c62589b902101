-- Trees in which the depth that nodes had in the tree of a log falls from each to its parent: moves to less depth keep this, and close no
-- circle.
use Prim.Native.Nat.{◌≤◌, ◌<◌, ℕ, suc, zero}
use lib.ListN.{length, set}
use mathlib.Core.Bool.{false}
use mathlib.Core.List.{List}
use mathlib.Core.Path.{◌≡◌}
use native.Mathlib.Decide.{ℕ_discrete}
use native.Mathlib.Nat.{le_refl}
use native.Mathlib.Omega.{arith}
use Rattle.lists.proofs.BoolLaws.{fails}
use Rattle.rules.specs.File.{Log, counts_of}
use Rattle.rules.specs.Replay.{parents_of}
use Rattle.rules.specs.Tree.{at_or_below, depth, parent_in, path, slot_of, slots}
use Rattle.rules.proofs.ClimbLaws.{climb_in, climb_length, up}
use Rattle.rules.proofs.KnownLaws.{Named, named_valid}
use Rattle.rules.proofs.SlotLaws.{Valid}
use Rattle.rules.proofs.StructureLaws.{GoodLog}
use Rattle.rules.proofs.TreeLaws.{above_n, up_same}
use Rattle.order.proofs.LevelLaws.{whole_cut}
use Rattle.order.proofs.RunLaws.{replay_reaches}

module _ (log : Log) where
  abbrev named : ℕ → Type 0
  named = Named log (counts_of log)

  abbrev valid : (n : ℕ) → named n → Valid n
  valid = named_valid log (counts_of log)

  -- the depth in the tree of the log
  abbrev old : ℕ → ℕ
  old = depth (parents_of log)

  abbrev pub Falls : List ℕ → Type 0
  Falls parents =
      (m : ℕ) → Named log (counts_of log) m → (m ≡ 0 → ⊥)
      → Named log (counts_of log) (parent_in parents m) × (depth (parents_of log) (parent_in parents m) < depth (parents_of log) m)

  module _ (parents : List ℕ) (f : Falls parents) where
    falls_up : (i m : ℕ) → named m → ((j : ℕ) → j < i → up parents j m ≡ 0 → ⊥) → old (up parents i m) ≤ old m
    unfolding up
    falls_up zero m k o = le_refl _
    falls_up (suc i) m k o =
        let x = f m k (o 0 (omega arith)) in
        omega (arith, x.1, falls_up i (parent_in parents m) x.0 (λ j h. o (suc j) (omega arith)))

    -- so a node of less depth does not lie below
    pub falls_free : (p n : ℕ) → named p → old p < old n → at_or_below parents p n ≡ false
    unfolding at_or_below path
    falls_free p n k less =
        fails _ (λ e.
        let (i, l, is, o) = climb_in parents slots p n e in
        let le : old n ≤ old p = rw is at (falls_up i p k o) in
        omega arith)

    -- and a node that is hung under one of less depth leaves it so
    module _ (size : length parents ≡ slots) (n p : ℕ) (kn : named n) (ne : n ≡ 0 → ⊥) (kp : named p) (less : old p < old n) where
      abbrev hung : List ℕ
      hung = set parents (slot_of n) p

      other_stays : (m : ℕ) → named m → (m ≡ n → ⊥) → parent_in hung m ≡ parent_in parents m
      unfolding up
      other_stays m k apart =
          let first : (j : ℕ) → j < 1 → j ≡ 0 = λ j l. omega arith in
          up_same parents size n p (valid n kn) ne 1 m (λ j l. rw (first j l) (valid m k)) (λ j l. rw (first j l) apart)

      pub falls_hung : Falls hung
      unfolding up
      falls_hung m k nm = elim (ℕ_discrete m n) [
        | yes e ↦
            let here : parent_in hung m ≡ p = rw e (above_n parents size n p (valid n kn) ne 0) in
            rw here (kp, rw e less)
        | no apart ↦ rw (other_stays m k apart) (f m k nm)
      ]

-- as it does in the tree of the log itself
module _ (log : Log) (good : GoodLog log) where
  abbrev parents : List ℕ
  parents = parents_of log

  pub falls_first : Falls log (parents_of log)
  unfolding depth path parents_of up
  falls_first m k nz =
      let (j, b, r, first) = replay_reaches log good (counts_of log) (whole_cut log good) m k in
      go j b r.root r.on first
    where
      go : (j : ℕ) → j ≤ 2040 → up parents j m ≡ 0 → ((i : ℕ) → i ≤ j → named log (up parents i m))
          → ((k : ℕ) → k < j → up parents k m ≡ 0 → ⊥)
          → named log (parent_in parents m) × (depth parents (parent_in parents m) < depth parents m)
      go zero b e on first = absurd (nz e)
      go (suc j) b e on first =
          let a = climb_length parents slots (suc j) m (omega arith) e first in
          let c = climb_length parents slots j (parent_in parents m) (omega arith) e (λ i l. first (suc i) (omega arith)) in
          (on 1 (omega arith), omega arith)
