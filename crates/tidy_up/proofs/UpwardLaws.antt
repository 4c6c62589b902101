-- Upward moves that saw one log are judged as one level, from the highest replica down: each goes to a node of less depth in the tree
-- before them, so none closes a circle, and the first that moves a node is applied.
use Prim.Native.Nat.{◌≤◌, ◌<◌, ◌+◌, ℕ, suc, zero}
use borrow.Author.Tests.{eq-eqb}
use lib.Dec.{eqb}
use lib.ListN.{get_or, set}
use lib.Seq.{get_or-set_same, get_or-set_other}
use mathlib.Core.Bool.{true, false, cond}
use mathlib.Core.List.{foldl-append, [], ◌∷◌, List, map, foldl, append-nil}
use mathlib.Core.Logic.{◌⊎◌, inl, inr, ⊎_elim}
use mathlib.Core.Path.{refl, ap, ◌≡◌, ◌∙◌, sym}
use native.Mathlib.Decide.{ℕ_discrete, dec_le}
use native.Mathlib.Nat.{le_refl}
use native.Mathlib.Omega.{arith}
use Rattle.lists.specs.Lists.{concat, down_from, up_from}
use Rattle.lists.proofs.RangeLaws.{concat_none}
use Rattle.rules.specs.File.{Log, counts_of, op_at}
use Rattle.rules.specs.Log.{names_known}
use Rattle.rules.specs.Op.{Op, count_in, is_move, kind_of, node_of, parent_of, replica_of, vector_of}
use Rattle.rules.specs.Replay.{Stamped, State, outcome_slot, outcomes_of, parents_of, replay, step}
use Rattle.rules.specs.Tree.{depth, no_parent, slot, slot_of, slots}
use Rattle.rules.proofs.AppendLaws.{names_more, same_within, seq_positive}
use Rattle.rules.proofs.InLaws.{OpIn}
use Rattle.rules.proofs.KnownLaws.{Known, Named, known_reads, named_valid, names_move, names_node}
use Rattle.rules.proofs.SlotLaws.{Valid, slot_below, slot_injective}
use Rattle.rules.proofs.StepLaws.{Full, applied, applies, full_step, passed_over, placed_already, tables_full}
use Rattle.rules.proofs.StructureLaws.{GoodLog, HeldOp, counts_covered, good_ops}
use Rattle.order.specs.Levels.{level, level_kind, ready_op, ready_ops}
use Rattle.order.proofs.LateLaws.{Late, late_empty, late_ready, ordered_late, top}
use Rattle.order.proofs.PlacedLaws.{placed_by}
use Rattle.convergence.specs.Clash.{next_slot}
use Rattle.tidy_up.proofs.FallLaws.{Falls, falls_first, falls_free, falls_hung}

-- replica s has an op in more that log has not, and the first such op
pub record New (log more : Log) (s : ℕ) : Type 0 where
  pub low : 1 ≤ s
  pub high : s ≤ 8
  pub beyond : count_in (counts_of log) s < count_in (counts_of more) s

abbrev pub new_op : Log → Log → ℕ → Op
new_op log more s = op_at more s (count_in (counts_of log) s + 1)

-- a replica above n moves m by a new op
abbrev pub Mover : Log → Log → ℕ → ℕ → Type 0
Mover log more n m = (t : ℕ) × (n < t) × New log more t × (node_of (new_op log more t) ≡ m)

-- an upward move that saw this log and no more, and tells the truth: its new parent has less depth there than its node
pub record TrueUp (log : Log) (r : Op) : Type 0 where
  pub upward : kind_of r ≡ 3
  pub saw : vector_of r ≡ counts_of log
  pub rises : depth (parents_of log) (parent_of r) < depth (parents_of log) (node_of r)

module _ (log more : Log) (late : Late log more) (good : GoodLog log) (Good-more : GoodLog more)
    (truth : (s : ℕ) → New log more s → TrueUp log (new_op log more s)) where
  abbrev held : List ℕ
  held = counts_of log

  abbrev now : ℕ
  now = suc (top log more late good Good-more)

  abbrev ops : ℕ → ℕ → List Stamped
  ops = ready_op more now (ready_ops more (counts_of more) held)

  abbrev it : ℕ → Stamped
  it s = record { time = now; op = new_op log more s }

  abbrev node : ℕ → ℕ
  node s = node_of (new_op log more s)

  ---- one new op

  module _ (s : ℕ) (a : New log more s) where
    abbrev r : Op
    r = new_op log more s

    held_op : HeldOp more s (count_in held s + 1) r
    held_op = good_ops Good-more s (count_in held s + 1) a.low a.high (omega arith) (omega (arith, a.beyond))

    is_kind : kind_of r ≡ 3
    is_kind = (truth s a).upward

    names : names_known log r ≡ true
    names =
        let same = same_within log more late.extends held (counts_covered log) in
        sym (names_more log more r (rw (truth s a).saw same)) ∙ held_op.names

    node_known : Known log held (node_of r)
    node_known = rw (truth s a).saw at (names_node log r names (λ e. omega (arith, is_kind)))

    node_named : Named log held (node_of r)
    node_named = inr node_known

    node_valid : Valid (node_of r)
    node_valid = named_valid log held (node_of r) node_named

    no_root : node_of r ≡ 0 → ⊥
    no_root e = let h = (known_reads log held (node_of r) node_known).0.low in omega arith

    parent_named : Named log held (parent_of r)
    parent_named = rw (truth s a).saw at (names_move log r names (λ e. omega (arith, is_kind)) (λ e. omega (arith, is_kind)))

    is_move_law : is_move r ≡ true
    unfolding is_move
    is_move_law = rw (eq-eqb _ 3 is_kind)

    slot_is : outcome_slot r ≡ next_slot log s
    unfolding outcome_slot next_slot
    slot_is = rw (held_op.origin, held_op.number)

    slot_in : next_slot log s < slots
    unfolding next_slot slot
    slot_in = omega (arith, a.low, a.high, a.beyond, Good-more.counts s a.low a.high)

    ready : (k : ℕ) → ops k s ≡ cond (eqb 3 k) (it s ∷ []) []
    ready k = late_ready log more late good Good-more k s a.low a.high a.beyond ∙ rw is_kind

  slots_apart : (s t : ℕ) → New log more s → New log more t → (s ≡ t → ⊥) → next_slot log s ≡ next_slot log t → ⊥
  unfolding next_slot slot
  slots_apart s t a b ne e =
      let most_s = Good-more.counts s a.low a.high in
      let most_t = Good-more.counts t b.low b.high in
      ne (omega (arith, a.low, a.beyond, b.low, b.beyond))

  ---- their level

  new_or_not : (s : ℕ) → 1 ≤ s → s ≤ 8 → New log more s ⊎ (New log more s → ⊥)
  new_or_not s l u = elim (dec_le (count_in (counts_of more) s) (count_in held s)) [
    | yes h ↦ inr (λ a. omega (arith, a.beyond))
    | no h ↦ inl (record { low = l; high = u; beyond = omega arith })
  ]

  idle : (s k : ℕ) → 1 ≤ s → s ≤ 8 → (New log more s → ⊥) → ops k s ≡ []
  idle s k l u none =
      late_empty log more late good Good-more k s l u (elim (dec_le (count_in (counts_of more) s) (count_in held s)) [
        | yes h ↦ omega (arith, late.extends.counts s l u)
        | no h ↦ absurd (none (record { low = l; high = u; beyond = omega arith }))
      ])

  other_kind : (k : ℕ) → eqb 3 k ≡ false → concat (map (ops k) (down_from 8)) ≡ []
  other_kind k e = concat_none (ops k) 8 (λ s l u.
      ⊎_elim (λ (a : New log more s). ready s a k ∙ rw e) (λ (none : New log more s → ⊥). idle s k l u none) (new_or_not s l u))

  only_upward : level more now (ready_ops more (counts_of more) held) ≡ concat (map (ops 3) (down_from 8))
  unfolding level level_kind up_from concat
  only_upward = rw (other_kind 1 refl, other_kind 2 refl, other_kind 4 refl) (append-nil _)

  ---- the new ops of the replicas above n are judged

  -- what the outcome of the replica's new op is: 1 if no higher one moves the node, and else 2
  abbrev Fair : ℕ → ℕ → Type 0
  Fair s o = ((o ≡ 1) × (Mover log more s (node s) → ⊥)) ⊎ ((o ≡ 2) × Mover log more s (node s))

  record JudgedAbove (n : ℕ) (st : State) : Type 0 where
    full : Full st
    falls : Falls log st.parents
    placed_if : (m : ℕ) → Mover log more n m → get_or st.placed (slot_of m) 0 ≡ now
    placed_only : (m : ℕ) → Valid m → get_or st.placed (slot_of m) 0 ≡ now → Mover log more n m
    fair : (s : ℕ) → n < s → New log more s → Fair s (get_or st.outcomes (next_slot log s) 0)
    old_outcome : (i : ℕ) → ((s : ℕ) → n < s → New log more s → next_slot log s ≡ i → ⊥)
        → get_or st.outcomes i 0 ≡ get_or (outcomes_of log) i 0
    moved : (s : ℕ) → n < s → New log more s → (Mover log more s (node s) → ⊥)
        → get_or st.parents (slot_of (node s)) no_parent ≡ parent_of (new_op log more s)
    stayed : (i : ℕ) → ((s : ℕ) → n < s → New log more s → slot_of (node s) ≡ i → ⊥)
        → get_or st.parents i no_parent ≡ get_or (parents_of log) i no_parent

  lower : (n m : ℕ) → Mover log more (suc n) m → Mover log more n m
  lower n m (t, h, a, e) = (t, omega arith, a, e)

  -- a replica without a new op
  skip : (n : ℕ) (st : State) → (New log more (suc n) → ⊥) → JudgedAbove (suc n) st → JudgedAbove n st
  skip n st none t = record {
    full = t.full;
    falls = t.falls;
    placed_if = λ m p. t.placed_if m (p.0, higher p.0 p.1 p.2, p.2, p.3);
    placed_only = λ m v e. lower n m (t.placed_only m v e);
    fair = λ s h a. t.fair s (higher s h a) a;
    old_outcome = λ i none. t.old_outcome i (λ s h. none s (omega arith));
    moved = λ s h a. t.moved s (higher s h a) a;
    stayed = λ i none. t.stayed i (λ s h. none s (omega arith));
  }
    where
      higher : (s : ℕ) → n < s → New log more s → suc n < s
      higher s h a = elim (ℕ_discrete s (suc n)) [
        | yes e ↦ absurd (none (rw e at a))
        | no ne ↦ omega arith
      ]

  -- a new op is judged
  module _ (n : ℕ) (st : State) (a : New log more (suc n)) (t : JudgedAbove (suc n) st) where
    abbrev s₀ : ℕ
    s₀ = suc n

    abbrev r₀ : Op
    r₀ = new_op log more s₀

    abbrev n₀ : ℕ
    n₀ = node_of r₀

    -- its outcome is put into the table
    outcomes_set : (o : ℕ) → Fair s₀ o → (s : ℕ) → n < s → New log more s
        → Fair s (get_or (set st.outcomes (outcome_slot r₀) o) (next_slot log s) 0)
    outcomes_set o f s h b = rw (slot_is s₀ a) (elim (ℕ_discrete s s₀) [
      | yes e ↦
          let inside : next_slot log s₀ < slots = slot_in s₀ a in
          rw (e, get_or-set_same st.outcomes (next_slot log s₀) o 0 (omega (arith, t.full.outcomes_full))) f
      | no ne ↦
          rw (get_or-set_other st.outcomes (next_slot log s₀) (next_slot log s) o 0 (slots_apart s s₀ b a ne))
          (t.fair s (omega arith) b)
    ])

    old_set : (o i : ℕ) → ((s : ℕ) → n < s → New log more s → next_slot log s ≡ i → ⊥)
        → get_or (set st.outcomes (outcome_slot r₀) o) i 0 ≡ get_or (outcomes_of log) i 0
    old_set o i none =
        let apart : i ≡ next_slot log s₀ → ⊥ = λ z. none s₀ (omega arith) a (sym z) in
        rw (slot_is s₀ a, get_or-set_other st.outcomes (next_slot log s₀) i o 0 apart) (t.old_outcome i (λ s h. none s (omega arith)))

    -- its node was placed by a higher replica
    judge_second : get_or st.placed (slot_of n₀) 0 ≡ now → JudgedAbove n (step st (it s₀))
    judge_second e =
        let m = is_move_law s₀ a in
        let p = t.placed_only n₀ (node_valid s₀ a) e in
        let full' = full_step st (it s₀) t.full in
        let after = passed_over st now r₀ m 2 refl (placed_already st now r₀ m e) in
        rw after (record {
          full = rw after at full';
          falls = t.falls;
          placed_if = λ m q. elim (ℕ_discrete q.0 s₀) [
            | yes z ↦ let m_is : n₀ ≡ m = rw z at q.3 in rw (← m_is) e
            | no nz ↦ t.placed_if m (q.0, omega (arith, q.1), q.2, q.3)
          ];
          placed_only = λ m v q. lower n m (t.placed_only m v q);
          fair = outcomes_set 2 (inr (refl, p));
          old_outcome = old_set 2;
          moved = λ s h b free. elim (ℕ_discrete s s₀) [
            | yes z ↦ absurd (rw z at free p)
            | no nz ↦ t.moved s (omega arith) b free
          ];
          stayed = λ i none. t.stayed i (λ s h. none s (omega arith));
        })

    -- it is the first to place its node
    module _ (ne : get_or st.placed (slot_of n₀) 0 ≡ now → ⊥) where
      not_moved : Mover log more s₀ n₀ → ⊥
      not_moved p = ne (t.placed_if n₀ p)

      in_table : slot_of n₀ < slots
      in_table = slot_below n₀ (node_valid s₀ a)

      abbrev hung : List ℕ
      hung = set st.parents (slot_of n₀) (parent_of r₀)

      abbrev placing : List ℕ
      placing = set st.placed (slot_of n₀) now

      placed_now : (m : ℕ) → Mover log more n m → get_or placing (slot_of m) 0 ≡ now
      placed_now m q = elim (ℕ_discrete (slot_of m) (slot_of n₀)) [
        | yes z ↦ rw z (get_or-set_same st.placed (slot_of n₀) now 0 (omega (arith, t.full.placed_full, in_table)))
        | no nz ↦ rw (get_or-set_other st.placed (slot_of n₀) (slot_of m) now 0 nz) (elim (ℕ_discrete q.0 s₀) [
          | yes z ↦ absurd (nz (ap slot_of (sym (rw z at q.3))))
          | no nz' ↦ t.placed_if m (q.0, omega (arith, q.1), q.2, q.3)
        ])
      ]

      only_now : (m : ℕ) → Valid m → get_or placing (slot_of m) 0 ≡ now → Mover log more n m
      only_now m v q = elim (ℕ_discrete m n₀) [
        | yes z ↦ (s₀, omega arith, a, sym z)
        | no nz ↦
            let apart : slot_of m ≡ slot_of n₀ → ⊥ = λ z. nz (slot_injective m n₀ v (node_valid s₀ a) z) in
            lower n m (t.placed_only m v (sym (get_or-set_other st.placed (slot_of n₀) (slot_of m) now 0 apart) ∙ q))
      ]

      moved_now : (s : ℕ) → n < s → New log more s → (Mover log more s (node s) → ⊥)
          → get_or hung (slot_of (node s)) no_parent ≡ parent_of (new_op log more s)
      moved_now s h b free = elim (ℕ_discrete s s₀) [
        | yes z ↦ rw z (get_or-set_same st.parents (slot_of n₀) (parent_of r₀) no_parent (omega (arith, t.full.parents_full, in_table)))
        | no nz ↦
            let apart : slot_of (node s) ≡ slot_of n₀ → ⊥ =
            λ z. not_moved (s, omega arith, b, slot_injective (node s) n₀ (node_valid s b) (node_valid s₀ a) z) in
            rw (get_or-set_other st.parents (slot_of n₀) (slot_of (node s)) (parent_of r₀) no_parent apart) (t.moved s (omega arith) b free)
      ]

      stayed_now : (i : ℕ) → ((s : ℕ) → n < s → New log more s → slot_of (node s) ≡ i → ⊥)
          → get_or hung i no_parent ≡ get_or (parents_of log) i no_parent
      stayed_now i none =
          get_or-set_other st.parents (slot_of n₀) i (parent_of r₀) no_parent (λ z. none s₀ (omega arith) a (sym z))
          ∙ t.stayed i (λ s h. none s (omega arith))

      judge_first : JudgedAbove n (step st (it s₀))
      judge_first =
          let m = is_move_law s₀ a in
          let rise = (truth s₀ a).rises in
          let free = falls_free log st.parents t.falls (parent_of r₀) n₀ (parent_named s₀ a) rise in
          let full' = full_step st (it s₀) t.full in
          let after = applied st now r₀ m (applies st now r₀ m ne free) in
          rw after (record {
            full = rw after at full';
            falls = falls_hung log st.parents t.falls t.full.parents_full n₀ (parent_of r₀)
                (node_named s₀ a) (no_root s₀ a) (parent_named s₀ a) rise;
            placed_if = placed_now;
            placed_only = only_now;
            fair = outcomes_set 1 (inl (refl, not_moved));
            old_outcome = old_set 1;
            moved = moved_now;
            stayed = stayed_now;
          })

    judge_next : JudgedAbove n (step st (it s₀))
    judge_next = elim (ℕ_discrete (get_or st.placed (slot_of n₀) 0) now) [ yes e ↦ judge_second e | no ne ↦ judge_first ne ]

  judge_all : (n : ℕ) → n ≤ 8 → (st : State) → JudgedAbove n st → JudgedAbove 0 (foldl step st (concat (map (ops 3) (down_from n))))
  unfolding concat down_from
  judge_all zero h st t = t
  judge_all (suc n) h st t =
      rw foldl-append (judge_all n (omega arith) (foldl step st (ops 3 (suc n))) (⊎_elim
      (λ (a : New log more (suc n)). rw (ready (suc n) a 3) (judge_next n st a t))
      (λ (none : New log more (suc n) → ⊥). rw (idle (suc n) 3 (omega arith) h none) (skip n st none t))
      (new_or_not (suc n) (omega arith) h)))

  before : JudgedAbove 8 (replay log held)
  unfolding parents_of outcomes_of top
  before = record {
    full = tables_full log held;
    falls = falls_first log good;
    placed_if = λ m q. absurd (omega (arith, q.1, q.2.high));
    placed_only = λ m v q. absurd (omega (arith, placed_by log held (slot_of m)));
    fair = λ s h a. absurd (omega (arith, a.high));
    old_outcome = λ i none. refl;
    moved = λ s h a. absurd (omega (arith, a.high));
    stayed = λ i none. refl;
  }

  after_all : JudgedAbove 0 (replay more (counts_of more))
  unfolding replay
  after_all = rw (ordered_late log more late good Good-more, only_upward, foldl-append) (judge_all 8 (le_refl 8) _ before)

  ---- what the new ops come to

  pub fair_outcome : (s : ℕ) → New log more s → Fair s (get_or (outcomes_of more) (next_slot log s) 0)
  unfolding outcomes_of
  fair_outcome s a = after_all.fair s a.low a

  -- an op of the log has another slot than the new ones
  pub old_there : (r : Op) → OpIn log r → get_or (outcomes_of more) (outcome_slot r) 0 ≡ get_or (outcomes_of log) (outcome_slot r) 0
  unfolding outcomes_of outcome_slot next_slot slot
  old_there r i = after_all.old_outcome (outcome_slot r) (λ s h a e.
      let most = Good-more.counts s a.low a.high in
      elim (ℕ_discrete s (replica_of r)) [
        | yes z ↦ omega (arith, i.here, ap (count_in held) z)
        | no nz ↦ nz (omega (arith, a.low, a.beyond, i.low, i.here, good.counts (replica_of r) i.low i.high, seq_positive r))
      ])

  pub moved_there : (s : ℕ) → New log more s → (Mover log more s (node s) → ⊥)
      → get_or (parents_of more) (slot_of (node s)) no_parent ≡ parent_of (new_op log more s)
  unfolding parents_of
  moved_there s a free = after_all.moved s a.low a free

  pub stayed_there : (n : ℕ) → Valid n → ((s : ℕ) → New log more s → node s ≡ n → ⊥)
      → get_or (parents_of more) (slot_of n) no_parent ≡ get_or (parents_of log) (slot_of n) no_parent
  unfolding parents_of
  stayed_there n v none = after_all.stayed (slot_of n) (λ s h a e. none s a (slot_injective (node s) n (node_valid s a) v e))
