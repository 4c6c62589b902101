-- Revealing every unmarked node and what is above it leaves hidden what the keeping view hides.
use Rattle.lists.proofs.BoolLaws.{and_turn, and_both, and_left, and_right, never, or_cases, not_not}
use Rattle.std.proofs.Common.{◌≡◌, ℕ, zero, suc, ◌+◌, ◌-◌, ◌<◌, ◌≤◌, Bool, true, false, cond, not, ◌&&◌, ◌||◌, eqb, List, length, get_or, set, replicate, sym, refl, ap, ◌∙◌, inl, inr, ⊎_elim, le_of_suc-le-suc, not-suc-le-zero, arith, lit≤, length-set, get_or-set_other, get_or-set_same, eq-eqb, ne_eqb, eqb-true}
use lib.ListN.{get_or-replicate, length-replicate}
use mathlib.Core.Bool.{or_assoc, or-false, or-true}
use mathlib.Core.List.{foldl}
use native.Mathlib.Decide.{ℕ_discrete}
use Rattle.rules.proofs.ClimbLaws.{Depth, up, up_last}
use Rattle.rules.proofs.KnownLaws.{Named, named_valid}
use Rattle.tree.proofs.ClimbLaws.{parent_read}
use Rattle.rules.proofs.StructureLaws.{GoodLog}
use Rattle.rules.proofs.SlotLaws.{Valid, slot_below, slot_injective, slot_root}
use Rattle.lists.specs.Lists.{any, is_in, up_from}
use Rattle.rules.specs.File.{Log, counts_of}
use Rattle.rules.specs.Replay.{parents_of}
use Rattle.rules.specs.Tree.{at_or_below, climb, no_parent, parent_in, path, slot_of, slots}
use Rattle.rules.specs.Views.{keeping, shown}
use Rattle.rules.specs.Marks.{is_known, knowledge, marked}
use Rattle.marks.proofs.MarkLaws.{marks_say}
use Rattle.tour.proofs.NodesLaws.{held_parent, nodes_slots, unheld_parent, valid_parent}
use Rattle.lists.proofs.FilterLaws.{any_map_filter}
use Rattle.tree.proofs.SlotLaws.{node_valid, slot_positive, slot_in_below, slot_in_node, slot_in_valid}
use Rattle.order.proofs.TreePathLaws.{depth_parent, no_cycle, path_closed, root_way, table_size}
use Rattle.tour.specs.Tables.{all_hidden, hidden_of, reveal, reveal_slot}
use Rattle.tree.specs.Slots.{at_node, slot_node, slot_in}
use Rattle.marks.specs.Marking.{marks_of}

module _ (parents : List ℕ) (size : length parents ≡ slots) where
  abbrev shows : List ℕ → ℕ → Bool
  shows hidden n = eqb (at_node hidden n) 0

  -- what is above a shown node of the way is shown
  abbrev Closed : List ℕ → ℕ → ℕ → Type 0
  Closed hidden j n = (i : ℕ) → i < j → shows hidden (up parents i n) ≡ true → shows hidden (up parents (suc i) n) ≡ true

  all_shown : (hidden : List ℕ) (m k j n : ℕ) → Depth parents j n → j < k → Closed hidden j n → shows hidden n ≡ true
      → is_in m (climb k parents n) ≡ true → shows hidden m ≡ true
  unfolding climb is_in any up
  all_shown hidden m zero j n d h c s i = absurd (not-suc-le-zero h)
  all_shown hidden m (suc k) zero n d h c s i =
      let i' : (eqb m n || false) ≡ true = rw (eq-eqb n 0 d.root) at i in
      rw (eqb-true m n (sym (or-false (eqb m n)) ∙ i')) s
  all_shown hidden m (suc k) (suc j) n d h c s i =
      let nz : n ≡ 0 → ⊥ = d.first 0 (omega arith) in
      let d' : Depth parents j (parent_in parents n) = record { root = d.root; first = λ t w. d.first (suc t) (omega arith) } in
      ⊎_elim
      (λ (q : eqb m n ≡ true). rw (eqb-true m n q) s)
      (λ (q : is_in m (climb k parents (parent_in parents n)) ≡ true). all_shown hidden m k j (parent_in parents n) d' (le_of_suc-le-suc h)
      (λ t w. c (suc t) (omega arith)) (c 0 (omega arith) s) q)
      (or_cases (eqb m n) _ (rw (ne_eqb n 0 nz) at i))

  show_one : (hidden : List ℕ) (n m : ℕ) → length hidden ≡ slots → Valid n → Valid m
      → shows (set hidden (slot_in n) 0) m ≡ (shows hidden m || eqb m n)
  show_one hidden n m l vn vm = elim (ℕ_discrete m n) [
    | yes e ↦ rw (e, get_or-set_same hidden (slot_in n) 0 0 (omega (arith, slot_in_below n)), eq-eqb n n refl) (sym (or-true (shows hidden n)))
    | no ne ↦ rw (
      get_or-set_other hidden (slot_in n) (slot_in m) 0 0
          (λ q. ne (slot_injective m n vm vn (sym (slot_in_valid m vm) ∙ q ∙ slot_in_valid n vn))),
      ne_eqb m n ne,
    ) (sym (or-false (shows hidden m)))
  ]

  parent_entry : (n : ℕ) → Valid n → at_node parents n ≡ parent_in parents n
  parent_entry n v = sym (parent_read parents n (slot_in n) (slot_in_valid n v) size (slot_below n v))

  reveal_size : (k : ℕ) (hidden : List ℕ) (n : ℕ) → length (reveal k parents hidden n) ≡ length hidden
  unfolding reveal
  reveal_size zero hidden n = refl
  reveal_size (suc k) hidden n =
      go (eqb (at_node hidden n) 0) (reveal_size k (set hidden (slot_in n) 0) (at_node parents n) ∙ length-set hidden (slot_in n) 0)
    where
      go : (b : Bool) → length (reveal k parents (set hidden (slot_in n) 0) (at_node parents n)) ≡ length hidden
          → length (cond b hidden (reveal k parents (set hidden (slot_in n) 0) (at_node parents n))) ≡ length hidden
      go true e = refl
      go false e = e

  abbrev Reveals : ℕ → Type 0
  Reveals k = (j : ℕ) (hidden : List ℕ) (n m : ℕ) → length hidden ≡ slots → Depth parents j n → ((i : ℕ) → i ≤ j → Valid (up parents i n))
      → j < k → shows hidden 0 ≡ true → Closed hidden j n → Valid m
      → shows (reveal k parents hidden n) m ≡ (shows hidden m || is_in m (climb k parents n))

  reveals_above : (k : ℕ) → Reveals k → (j : ℕ) (hidden : List ℕ) (n m : ℕ) → length hidden ≡ slots → Depth parents j n
      → ((i : ℕ) → i ≤ j → Valid (up parents i n)) → j < suc k → shows hidden 0 ≡ true → Closed hidden j n → Valid m
      → shows hidden n ≡ false → shows (reveal k parents (set hidden (slot_in n) 0) (at_node parents n)) m ≡ (shows hidden m
      || is_in m (climb (suc k) parents n))
  unfolding climb is_in any up
  reveals_above k ih j hidden n m l d v h r c vm e =
      let vn : Valid n = v 0 (omega arith) in
      let nz : n ≡ 0 → ⊥ = λ z. never (sym e ∙ rw z r) in
      let (i, q, d') = depth_parent parents j n d nz in
      let closed' : Closed (set hidden (slot_in n) 0) i (parent_in parents n) = λ t b s.
      rw (
        show_one hidden n (up parents (suc (suc t)) n) l vn (v (suc (suc t)) (omega arith)),
        c (suc t) (omega arith)
            (step t (omega arith) s),
      ) in
      let r' : shows (set hidden (slot_in n) 0) 0 ≡ true = rw (show_one hidden n 0 l vn (inl refl), r) in
      rw (
        parent_entry n vn,
        ih i (set hidden (slot_in n) 0) (parent_in parents n) m (length-set hidden (slot_in n) 0 ∙ l) d'
            (λ t b. v (suc t) (omega arith)) (omega arith) r' closed' vm,
        show_one hidden n m l vn vm,
        ne_eqb n 0 nz,
      )
      (or_assoc (shows hidden m) (eqb m n) (any (eqb m) (climb k parents (parent_in parents n))))
    where
      step : (t : ℕ) → t < j → shows (set hidden (slot_in n) 0) (up parents (suc t) n) ≡ true → shows hidden (up parents (suc t) n) ≡ true
      step t b s =
          let s' : (shows hidden (up parents (suc t) n) || eqb (up parents (suc t) n) n) ≡ true = sym
          (show_one hidden n (up parents (suc t) n) l (v 0 (omega arith)) (v (suc t) b)) ∙ s in
          let s'' : (shows hidden (up parents (suc t) n) || false) ≡ true = rw (ne_eqb (up parents (suc t) n) n (no_cycle parents j n t d b))
          at s' in
          sym (or-false (shows hidden (up parents (suc t) n))) ∙ s''

  reveals : (k : ℕ) → Reveals k
  unfolding reveal
  reveals zero j hidden n m l d v h r c vm = absurd (not-suc-le-zero h)
  reveals (suc k) j hidden n m l d v h r c vm = go (shows hidden n) refl (λ j hidden n m l d v h r c vm. reveals k j hidden n m l d v h r c
      vm)
    where
      absorb : (a b : Bool) → (b ≡ true → a ≡ true) → a ≡ (a || b)
      absorb true b f = refl
      absorb false true f = f refl
      absorb false false f = refl

      go : (b : Bool) → shows hidden n ≡ b → Reveals k
          → shows (cond b hidden (reveal k parents (set hidden (slot_in n) 0) (at_node parents n))) m ≡ (shows hidden m
          || is_in m (climb (suc k) parents n))
      go true e ih = absorb (shows hidden m) (is_in m (climb (suc k) parents n)) (all_shown hidden m (suc k) j n d h c e)
      go false e ih = reveals_above k ih j hidden n m l d v h r c vm e

---- all slots

module _ (log : Log) (good : GoodLog log) where
  abbrev P : List ℕ
  P = parents_of log

  abbrev marks : List ℕ
  marks = marks_of log

  abbrev held : ℕ → Bool
  held k = is_known (knowledge log (counts_of log) (slot_node k))

  abbrev unmarked : ℕ → Bool
  unmarked k = held k && eqb (get_or marks k 0) 0

  abbrev shows_in : List ℕ → ℕ → Bool
  shows_in hidden n = eqb (at_node hidden n) 0

  -- a set of nodes with all that is above them
  record Upward (S : ℕ → Bool) : Type 0 where
    has_root : S 0 ≡ true
    upward : (c : ℕ) → Named log (counts_of log) c → (c ≡ 0 → ⊥) → S c ≡ true → S (parent_in P c) ≡ true

  reveal_node : (n : ℕ) → Named log (counts_of log) n → (hidden : List ℕ) (S : ℕ → Bool) → length hidden ≡ slots
      → ((m : ℕ) → Valid m → shows_in hidden m ≡ S m) → Upward S → (m : ℕ) → Valid m
      → shows_in (reveal slots P hidden n) m ≡ (S m || is_in m (path P n))
  unfolding path
  reveal_node n w hidden S l is u m vm =
      let (j, b, r, o) = root_way log good n w in
      let d : Depth P j n = record { root = r.root; first = o } in
      let v : (i : ℕ) → i ≤ j → Valid (up P i n) = λ i h. named_valid log (counts_of log) (up P i n) (r.on i h) in
      let c : (i : ℕ) → i < j → shows_in hidden (up P i n) ≡ true → shows_in hidden (up P (suc i) n) ≡ true = λ i h s.
      is (up P (suc i) n) (v (suc i) h) ∙ rw (up_last P i n) (u.upward (up P i n) (r.on i (omega arith)) (o i h)
      (sym (is (up P i n) (v i (omega arith))) ∙ s)) in
      reveals P (table_size log good) slots j hidden n m l d v (omega arith) (is 0 (inl refl) ∙ u.has_root) c vm ∙ rw (is m vm)

  reveal_slot_law : (k : ℕ) → 0 < k → k < slots → (hidden : List ℕ) (S : ℕ → Bool) → length hidden ≡ slots
      → ((m : ℕ) → Valid m → shows_in hidden m ≡ S m) → Upward S → (m : ℕ) → Valid m
      → shows_in (reveal_slot P marks hidden k) m ≡ (S m || (unmarked k && is_in m (path P (slot_node k))))
  unfolding reveal_slot
  reveal_slot_law k p b hidden S l is u m vm = go (held k) refl
    where
      go : (t : Bool) → held k ≡ t
          → shows_in (reveal_slot P marks hidden k) m ≡ (S m || (t && eqb (get_or marks k 0) 0 && is_in m (path P (slot_node k))))
      go false e = rw (eq-eqb _ _ (unheld_parent log good k p b e)) (is m vm ∙ sym (or-false (S m)))
      go true e = rw (ne_eqb _ _ (valid_parent (get_or P k 0) (named_valid log (counts_of log) (get_or P k 0) (held_parent log good k p b e))))
          (on (eqb (get_or marks k 0) 0))
        where
          on : (t : Bool) → shows_in (cond t (reveal slots P hidden (slot_node k)) hidden) m ≡ (S m || (t && is_in m (path P (slot_node k))))
          on true = reveal_node (slot_node k) (inr e) hidden S l is u m vm
          on false = is m vm ∙ sym (or-false (S m))

  slot_size : (hidden : List ℕ) (k : ℕ) → length (reveal_slot P marks hidden k) ≡ length hidden
  unfolding reveal_slot
  slot_size hidden k = go (eqb (get_or P k 0) no_parent) (eqb (get_or marks k 0) 0)
    where
      go : (a b : Bool) → length (cond a hidden (cond b (reveal slots P hidden (slot_node k)) hidden)) ≡ length hidden
      go true b = refl
      go false true = reveal_size P (table_size log good) slots hidden (slot_node k)
      go false false = refl

  upward_more : (k : ℕ) (S : ℕ → Bool) → Upward S → Upward (λ m. S m || (unmarked k && is_in m (path P (slot_node k))))
  upward_more k S u = record {
    has_root = rw u.has_root;
    upward = λ c w nz e.
        ⊎_elim
        (λ (s : S c ≡ true). rw (u.upward c w nz s))
        (λ (s : (unmarked k && is_in c (path P (slot_node k))) ≡ true).
        let a : unmarked k ≡ true = and_left (unmarked k) _ s in
        let h : held k ≡ true = and_left (held k) _ a in
        rw (and_both a (path_closed log good (slot_node k) c (inr h) (and_right (unmarked k) _ s) nz)) (or-true (S (parent_in P c))))
        (or_cases (S c) _ e);
  }

  reveal_slots : (n a : ℕ) → 1 ≤ a → a + n ≤ slots → (hidden : List ℕ) (S : ℕ → Bool) → length hidden ≡ slots
      → ((m : ℕ) → Valid m → shows_in hidden m ≡ S m) → Upward S → (m : ℕ) → Valid m
      → shows_in (foldl (reveal_slot P marks) hidden (up_from a n)) m ≡ (S m || any (λ k. unmarked k && is_in m (path P (slot_node k)))
      (up_from a n))
  unfolding any up_from
  reveal_slots zero a p b hidden S l is u m vm = is m vm ∙ sym (or-false (S m))
  reveal_slots (suc n) a p b hidden S l is u m vm =
      reveal_slots n (suc a) (omega arith) (omega arith) (reveal_slot P marks hidden a)
      (λ m. S m || (unmarked a && is_in m (path P (slot_node a)))) (slot_size hidden a ∙ l) (reveal_slot_law a p (omega arith) hidden S l is u)
      (upward_more a S u) m vm
      ∙ or_assoc (S m) _ (any (λ k. unmarked k && is_in m (path P (slot_node k))) (up_from (suc a) n))

  start_hidden : (m : ℕ) → Valid m → shows_in (set (replicate slots 1) 0 0) m ≡ eqb m 0
  start_hidden m (inl e) =
      let t : List ℕ = replicate slots 1 in
      let z : slot_in m ≡ 0 = slot_in_valid m (inl e) ∙ slot_root m e in
      eq-eqb _ 0 (ap (λ (i : ℕ). get_or (set t 0 0) i 0) z ∙ get_or-set_same t 0 0 0 (rw (length-replicate {A = ℕ} slots 1) (lit≤ tt)))
      ∙ sym (eq-eqb m 0 e)
  start_hidden m (inr v) =
      let p = slot_positive m v in
      rw (
        slot_in_valid m (inr v),
        get_or-set_other {A = ℕ} (replicate slots 1) 0 (slot_of m) 0 0 (λ e. omega arith),
        get_or-replicate {A = ℕ} slots
            (slot_of m) 1 0 (slot_below m (inr v)),
      ) (sym (ne_eqb m 0 (λ e. omega arith)))

  unmarked_is : (k : ℕ) → 0 < k → k < slots → eqb (get_or marks k 0) 0 ≡ not (marked log (counts_of log) (slot_node k))
  unmarked_is k p b =
      rw (← marks_say log good (slot_node k) (node_valid k p b), slot_in_node k p b) (sym (not_not (eqb (get_or marks k 0) 0)))

  pub keeping_hidden : (m : ℕ) → Valid m → shows_in (hidden_of P marks keeping) m ≡ shown keeping log P m
  unfolding hidden_of all_hidden shown at_or_below
  keeping_hidden m vm =
      reveal_slots 2040 1 (omega arith) (omega arith) (set (replicate slots 1) 0 0) (λ m. eqb m 0)
      (length-set {A = ℕ} (replicate slots 1) 0 0 ∙ length-replicate {A = ℕ} slots 1) start_hidden
      (record { has_root = refl; upward = λ c w nz e. absurd (nz (eqb-true c 0 e)) }) m vm
      ∙ ap (λ (b : Bool). eqb m 0 || b) (sym (ap (any below) (nodes_slots log good)
      ∙ any_map_filter below slot_node held (λ k. unmarked k && is_in m (path P (slot_node k))) (slots - 1) 1 slot_is))
    where
      -- x lies at or below m, and is unmarked
      below : ℕ → Bool
      below x = is_in m (path P x) && not (marked log (counts_of log) x)

      slot_is : (k : ℕ) → 1 ≤ k → k < 1 + (slots - 1) → (held k && below (slot_node k)) ≡ (unmarked k && is_in m (path P (slot_node k)))
      slot_is k l u =
          rw (unmarked_is k l (omega arith))
          (and_turn (held k) (is_in m (path P (slot_node k))) (not (marked log (counts_of log) (slot_node k))))
