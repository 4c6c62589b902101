-- Level after level: the order of a cut in the tables, as the code has it.
use mathlib.Core.Path.{◌≡◌, refl, sym, ap, ap₂, ◌∙◌}
use mathlib.Core.Bool.{Bool, true, false, cond}
use mathlib.Core.List.{List, [], ◌∷◌, ◌++◌, map, map-append}
use Prim.Native.Nat.{ℕ, zero, suc, ◌+◌, ◌-◌, ◌≤◌, ◌<◌}
use native.Mathlib.Omega.{arith}
use native.Mathlib.Numerals.{add-one}
use native.Mathlib.Decide.{ℕ_discrete}
use lib.Dec.{eqb}
use lib.ListN.{length, length-map, replicate}
use borrow.Author.Tests.{ne_eqb}
use Rattle.lists.specs.Lists.{up_from, down_from, concat}
use Rattle.lists.proofs.RangeLaws.{concat_nothing, concat_none, map_up_from, map_down_from}
use Rattle.lists.proofs.EachLaws.{Each, each_map, each_of_map}
use Rattle.lists.proofs.ListLaws.{map_concat}
use Rattle.rules.specs.Op.{count_in, kind_of, replica_of, seq_of, Op, Vector}
use Rattle.rules.specs.File.{Log, log_of, op_at, counts_of, within}
use Rattle.rules.specs.Log.{structural, closed, covered}
use Rattle.rules.specs.Replay.{Stamped, outcome_slot, ordered, stamp}
use Rattle.rules.specs.Tree.{slot, slots, most_ops}
use Rattle.rules.proofs.CausalLaws.{within_le, le_within, total_small, within_length}
use Rattle.rules.proofs.FileLaws.{count_map, vector_eta}
use Rattle.rules.proofs.KnownLaws.{kinds}
use Rattle.rules.proofs.ReplicaLaws.{map_replicas}
use Rattle.rules.proofs.StructureLaws.{structural_good}
use Rattle.vector.proofs.VectorLaws.{length_eight}
use Rattle.order.specs.Levels.{level_kind, advanced_at, ready_op, level, levels, ready_ops, nothing, advanced}
use Rattle.order.proofs.LevelLaws.{Cut, count_nothing, ordered_levels}
use Rattle.order.proofs.OnceLaws.{ordered_length}
use Rattle.order.proofs.OrderLaws.{ordered_each}
use Rattle.oplog.specs.Places.{Held}
use Rattle.oplog.proofs.FieldLaws.{counts_in, in_file_of, small}
use Rattle.oplog.proofs.HeldLaws.{held_op, count_small}
use Rattle.tree.specs.Slots.{InSlot, op_in, replica_in, sequence_in}
use Rattle.schedule.specs.declared.entries.Entry.{Entry}
use Rattle.schedule.specs.Schedule.{entry_of, scheduled, stamped_of}
use Rattle.schedule.specs.Level.{Room, SchedulableCut, class_at, class_entries, classes_of, due_entry, level_entries}
use Rattle.schedule.proofs.ReadyLaws.{next_held}
use Rattle.schedule.proofs.ClassLaws.{class_is}
use Rattle.schedule.proofs.WritingLaws.{Left, left_all, left_none, left_on, left_room}

---- the entries of a level are its ops

module _ (w : ℕ) (f : List ℕ) (st : structural w f ≡ true) (next : Vector) (h : Held w f next) (t : ℕ) where
  some_due : (k s : ℕ) → 1 ≤ s → s ≤ 8 → (count_in next s ≡ 0 → ⊥)
      → due_entry (classes_of (log_of w f) next) next t k s ≡ map entry_of (ready_op (log_of w f) t next k s)
  unfolding due_entry classes_of class_at ready_op entry_of outcome_slot
  some_due k s l u nz =
      let q = count_in next s in
      let r = op_at (log_of w f) s q in
      let op = held_op w f st s q (in_file_of w f next h s q l u (omega (arith, nz)) (omega arith)) in
      let n = kinds r op.formed in
      rw (count_map (class_at (log_of w f) next) s l u, ne_eqb q 0 nz, class_is (kind_of r) n.0 n.1)
      (go (eqb (kind_of r) k) r (ap₂ slot op.origin op.number))
    where
      go : (b : Bool) (r : Op) → outcome_slot r ≡ slot s (count_in next s)
          → cond b (record { slot = slot s (count_in next s); time = t } ∷ []) []
          ≡ map entry_of (cond b (record { time = t; op = r } ∷ []) [])
      go true r e = rw (← e)
      go false r e = refl

  no_due : (k s : ℕ) → 1 ≤ k → 1 ≤ s → s ≤ 8 → count_in next s ≡ 0
      → due_entry (classes_of (log_of w f) next) next t k s ≡ map entry_of (ready_op (log_of w f) t next k s)
  unfolding due_entry classes_of class_at ready_op
  no_due k s lk l u z = rw (count_map (class_at (log_of w f) next) s l u, z, ne_eqb 0 k (λ e. omega arith))

  due_is : (k s : ℕ) → 1 ≤ k → 1 ≤ s → s ≤ 8
      → due_entry (classes_of (log_of w f) next) next t k s ≡ map entry_of (ready_op (log_of w f) t next k s)
  due_is k s lk l u = elim (ℕ_discrete (count_in next s) 0) [ yes z ↦ no_due k s lk l u z | no nz ↦ some_due k s l u nz ]

  class_entries_law : (k : ℕ) → 1 ≤ k → class_entries (classes_of (log_of w f) next) next t k ≡ map entry_of (level_kind (log_of w f) t next k)
  unfolding class_entries level_kind
  class_entries_law k lk =
      ap concat (map_down_from _ (λ s. map entry_of (ready_op (log_of w f) t next k s)) 8 (λ s l u. due_is k s lk l u))
      ∙ sym (map_concat entry_of (ready_op (log_of w f) t next k) (down_from 8))

  level_entries_law : level_entries (classes_of (log_of w f) next) next t ≡ map entry_of (level (log_of w f) t next)
  unfolding level_entries level
  level_entries_law =
      ap concat (map_up_from _ (λ k. map entry_of (level_kind (log_of w f) t next k)) 4 1 (λ k l u. class_entries_law k l))
      ∙ sym (map_concat entry_of (level_kind (log_of w f) t next) (up_from 1 4))

---- the levels from time t on, with the ops counted in done behind them

module _ (log : Log) (cut : Vector) where
  unfoldable pub levels_from : ℕ → Vector → List Entry
  levels_from t done = map entry_of (levels (slots + 1 - t) log cut t done)

  levels_turn : (t : ℕ) (done : Vector) → t < slots + 1
      → levels_from t done ≡ map entry_of (level log t (ready_ops log cut done)) ++ levels_from (t + 1) (advanced done (ready_ops log cut done))
  unfolding levels_from levels
  levels_turn t done h = let e : slots + 1 - t ≡ suc (slots + 1 - (t + 1)) = omega arith in rw (e, map-append, ← add-one t)

  levels_none : (t : ℕ) (done : Vector) → slots + 1 ≤ t → levels_from t done ≡ []
  unfolding levels_from levels
  levels_none t done h = let e : slots + 1 - t ≡ 0 = omega arith in rw e

  -- where nothing is ready, no level has an op
  module _ (done : Vector) (eight : length done ≡ 8) (idle : within (ready_ops log cut done) nothing ≡ true) where
    idle_at : (s : ℕ) → 1 ≤ s → s ≤ 8 → count_in (ready_ops log cut done) s ≡ 0
    idle_at s l u = omega (arith, within_le (ready_ops log cut done) nothing idle s l u, count_nothing s l u)

    idle_op : (t k s : ℕ) → 1 ≤ s → s ≤ 8 → ready_op log t (ready_ops log cut done) k s ≡ []
    unfolding ready_op
    idle_op t k s l u = rw (idle_at s l u)

    idle_level : (t : ℕ) → level log t (ready_ops log cut done) ≡ []
    unfolding level level_kind
    idle_level t =
        let next = ready_ops log cut done in
        concat_nothing (level_kind log t next) 4 1 (λ k a b. concat_none (ready_op log t next k) 8 (idle_op t k))

    idle_done : advanced done (ready_ops log cut done) ≡ done
    unfolding advanced advanced_at
    idle_done = map_replicas (advanced_at done (ready_ops log cut done)) (count_in done) (λ s l u. rw (idle_at s l u)) ∙ vector_eta done eight

    idle_levels : (n t : ℕ) → levels n log cut t done ≡ []
    unfolding levels
    idle_levels zero t = refl
    idle_levels (suc n) t = rw (idle_level t, idle_done) (idle_levels n (suc t))

---- the loop over the levels

-- a cut as the laws of the order want it
cut_of : (w : ℕ) (f : List ℕ) (cut : Vector) → Held w f cut → closed (log_of w f) cut ≡ true → Cut (log_of w f) cut
unfolding covered
cut_of w f cut h c = record {
  is_covered = le_within cut (counts_of (log_of w f)) (λ s l u. omega (arith, h.each s l u, counts_in w f s l u));
  is_closed = c;
}

-- a log has no more ops than a table has entries
pub few_ops : (w : ℕ) (f : List ℕ) → structural w f ≡ true → (cut : Vector) → Held w f cut → closed (log_of w f) cut ≡ true
    → length (ordered (log_of w f) cut) ≤ most_ops
few_ops w f st cut h c =
    let is = cut_of w f cut h c in
    omega (
      arith,
      ordered_length (log_of w f) (structural_good w f st) cut is,
      within_length (log_of w f) cut is.is_covered,
      total_small cut (count_small w f cut h),
    )

-- at the start of a time: so many entries are written, and the ops counted in done are behind
pub record AtTime (log : Log) (cut : Vector) (now : List Entry) (time : ℕ) (done : Vector) : Type 0 where
  pub eight : length done ≡ 8
  pub rest : Left [] (scheduled log cut) now (levels_from log cut time done)

module _ (w : ℕ) (f : List ℕ) (cut : Vector) (x : SchedulableCut w f cut) where
  pub order_starts : AtTime (log_of w f) cut [] 1 (replicate 8 0)
  unfolding levels_from nothing scheduled
  order_starts =
      let few : length (scheduled (log_of w f) cut) ≤ most_ops = rw length-map (few_ops w f x.is_structural cut x.held x.is_closed) in
      record {
        eight = refl;
        rest = left_all _ _ _ (omega (arith, few))
            (ap (map entry_of) (ordered_levels (log_of w f) (structural_good w f x.is_structural) cut
            (cut_of w f cut x.held x.is_closed)));
      }

  module _ (now : List Entry) (time : ℕ) (done : Vector) (h : AtTime (log_of w f) cut now time done) where
    pub order_ends : slots + 1 ≤ time → now ≡ scheduled (log_of w f) cut
    order_ends u = left_none _ _ _ _ h.rest (levels_none (log_of w f) cut time done u)

    module _ (next : Vector) (is : next ≡ ready_ops (log_of w f) cut done) where
      pub order_idle : within next (replicate 8 0) ≡ true → now ≡ scheduled (log_of w f) cut
      unfolding levels_from nothing
      order_idle e =
          let idle : within (ready_ops (log_of w f) cut done) nothing ≡ true = rw is at e in
          left_none _ _ _ _ h.rest (ap (map entry_of) (idle_levels (log_of w f) cut done h.eight idle (slots + 1 - time) time))

      pub next_asks : Held w f next
      next_asks = rw is (next_held w f cut done x.held)

      module _ (classes : Vector) (c : classes ≡ classes_of (log_of w f) next) (u : time < slots + 1) where
        turn : levels_from (log_of w f) cut time done
            ≡ level_entries classes next time ++ levels_from (log_of w f) cut (time + 1) (advanced done next)
        turn =
            levels_turn (log_of w f) cut time done u
            ∙ rw (c, level_entries_law w f x.is_structural next next_asks time, is)

        pub level_asks : Room now (level_entries classes next time)
        level_asks = left_room _ _ _ _ h.rest _ _ turn

        pub order_on : (after : List Entry) → after ≡ now ++ level_entries classes next time
            → (behind : Vector) → behind ≡ advanced done next → AtTime (log_of w f) cut after (time + 1) behind
        unfolding advanced
        order_on after e behind a = record {
          eight = ap length a ∙ length_eight (advanced_at done next);
          rest = rw a (left_on _ _ _ _ h.rest _ _ turn after e);
        }

---- what the schedule then has

-- a slot gives replica and sequence back
slot_back : (s q : ℕ) → 1 ≤ s → 1 ≤ q → q ≤ 255 → (replica_in (slot s q) ≡ s) × (sequence_in (slot s q) ≡ q) × (1 ≤ slot s q)
unfolding slot
slot_back s q ls lq uq = (omega arith, omega arith, omega arith)

module _ (w : ℕ) (f : List ℕ) (cut : Vector) where
  -- an op of the order has its slot in the file
  pub record Slotted (x : Stamped) : Type 0 where
    pub in_slot : InSlot w f (entry_of x).slot
    pub same_op : stamped_of (log_of w f) (entry_of x) ≡ x

  slotted : structural w f ≡ true → Held w f cut → Each Slotted (ordered (log_of w f) cut)
  unfolding stamp outcome_slot op_in entry_of stamped_of
  slotted st h = ordered_each (log_of w f) cut Slotted (λ s q l u lq uq.
      let i = in_file_of w f cut h s q l u lq uq in
      let op = held_op w f st s q i in
      let b = slot_back s q l lq (small w f s q i) in
      let e : slot (replica_of (op_at (log_of w f) s q)) (seq_of (op_at (log_of w f) s q)) ≡ slot s q = ap₂ slot op.origin op.number in
      record { in_slot = rw e (record { some = b.2; in_file = rw (b.0, b.1) i }); same_op = rw (e, b.0, b.1) })

  pub entries_in_slots : structural w f ≡ true → Held w f cut → Each (λ (e : Entry). InSlot w f e.slot) (scheduled (log_of w f) cut)
  unfolding scheduled
  entries_in_slots st h = each_of_map _ entry_of _ (each_map Slotted _ _ (λ x k. k.in_slot) (slotted st h))

  -- its entries are its ops
  pub entries_are : structural w f ≡ true → Held w f cut
      → map (stamped_of (log_of w f)) (scheduled (log_of w f) cut) ≡ ordered (log_of w f) cut
  unfolding scheduled
  entries_are st h = go (ordered (log_of w f) cut) (slotted st h)
    where
      go : (xs : List Stamped) → Each Slotted xs → map (stamped_of (log_of w f)) (map entry_of xs) ≡ xs
      go [] k = refl
      go (x ∷ xs) k = rw (k.0.same_op, go xs k.1)

---- what the code that writes the order needs
pub ruleset ordering = (order_starts, order_ends, order_idle, level_asks, order_on)
