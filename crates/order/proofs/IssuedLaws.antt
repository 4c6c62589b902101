-- An op whose vector is the held counts, as an issued one has it, is replayed last; a move that is issued is applied, and changes nothing
-- that the counts know of a node.
use Prim.Native.Nat.{ℕ, zero, suc, ◌+◌, ◌-◌, ◌/◌, ◌%◌, ◌≤◌}
use borrow.Author.Tests.{ne_eqb}
use lib.Dec.{eqb}
use lib.ListN.{get_or, set}
use mathlib.Core.Bool.{Bool, true, false, cond}
use mathlib.Core.List.{List, [], ◌∷◌, ◌++◌, foldl-append, map}
use mathlib.Core.Path.{◌≡◌, refl, sym, ap, ◌∙◌}
use native.Mathlib.Decide.{ℕ_discrete, dec_le}
use native.Mathlib.Omega.{arith}
use Rattle.lists.specs.Lists.{concat, down_from, up_from}
use Rattle.lists.proofs.BoolLaws.{both_ways, never}
use Rattle.lists.proofs.FilterLaws.{filter_set}
use Rattle.lists.proofs.RangeLaws.{map_up_from, one_down}
use Rattle.rules.specs.File.{Log, append, counts_of, op_at, ops_of}
use Rattle.rules.specs.Marks.{is_known, knowledge, marked}
use Rattle.rules.specs.Op.{Op, Vector, count_in, is_add, is_move, is_remove, kind_of, node_of, parent_of, replica_of, seq_of, vector_of}
use Rattle.rules.specs.Replay.{Stamped, State, ordered, outcome_slot, outcomes_of, parents_of, removed_in, replay, step}
use Rattle.rules.specs.Tree.{at_or_below, slot_of}
use Rattle.rules.proofs.AppendLaws.{Admits, extends, good_append, in_range, new_seq, other_count, own_count_law, own_next}
use Rattle.rules.proofs.InLaws.{new_in}
use Rattle.rules.proofs.KnownLaws.{Known, kinds, known_is, known_of, known_reads}
use Rattle.rules.proofs.StepLaws.{applied, applies}
use Rattle.rules.proofs.StructureLaws.{GoodLog}
use Rattle.order.specs.Levels.{level, level_kind, ready_op, ready_ops}
use Rattle.order.proofs.LateLaws.{Late, late_empty, late_ready, ordered_late, top}
use Rattle.order.proofs.PlacedLaws.{placed_by}
use Rattle.order.proofs.RemoveLaws.{ops_all}

---- the last op of an order

-- of the four kinds an op has one
one_kind : {A : Type 0} (x : A) (k : ℕ) → 1 ≤ k → k ≤ 4 → concat (map (λ j. cond (eqb k j) (x ∷ []) []) (up_from 1 4)) ≡ x ∷ []
unfolding concat up_from
one_kind x zero l u = absurd (omega arith)
one_kind x (suc zero) l u = refl
one_kind x (suc (suc zero)) l u = refl
one_kind x (suc (suc (suc zero))) l u = refl
one_kind x (suc (suc (suc (suc zero)))) l u = refl
one_kind x (suc (suc (suc (suc (suc k))))) l u = absurd (omega arith)

module _ (log : Log) (good : GoodLog log) (r : Op) (h : Admits log r) (whole : vector_of r ≡ counts_of log) where
  abbrev more : Log
  more = append log r

  abbrev held : Vector
  held = counts_of log

  good_more : GoodLog more
  good_more = good_append log r good h

  new_op_law : (q : ℕ) → q ≡ seq_of r → op_at more (replica_of r) q ≡ r
  new_op_law q e =
      let b = in_range log r good h in
      rw (e) (new_in log r good.eight b.0 b.1 (own_next log r good h)).there

  pub late : Late log more
  late = record {
    extends = extends log r good h;
    vector = λ s q l u a b. elim (ℕ_discrete s (replica_of r)) [
      | yes e ↦
          let own = own_count_law log r good h in
          let number : q ≡ seq_of r = omega (arith, new_seq log r good h, own, ap (count_in held) e, ap (count_in (counts_of more)) e) in
          rw (e, new_op_law q number) whole
      | no ne ↦ absurd (omega (arith, other_count log r good h s l ne))
    ];
  }

  -- the op with its timestamp, which is later than every other
  abbrev latest : Stamped
  latest = record { time = suc (top log more late good good_more); op = r }

  abbrev entries : ℕ → ℕ → List Stamped
  entries = ready_op more latest.time (ready_ops more (counts_of more) held)

  entry : (k : ℕ) → concat (map (entries k) (down_from 8)) ≡ cond (eqb (kind_of r) k) (latest ∷ []) []
  entry k =
      let b = in_range log r good h in
      let is : op_at more (replica_of r) (count_in held (replica_of r) + 1) ≡ r = new_op_law _ (omega (arith, new_seq log r good h)) in
      one_down (entries k) 8 (replica_of r) b.0 b.1
      (λ s l u ne. late_empty log more late good good_more k s l u (other_count log r good h s l ne))
      ∙ late_ready log more late good good_more k (replica_of r) b.0 b.1 (omega (arith, own_count_law log r good h)) ∙ rw is

  last_level : level more latest.time (ready_ops more (counts_of more) held) ≡ latest ∷ []
  unfolding level level_kind
  last_level =
      let k = kinds r h.formed in
      ap concat (map_up_from _ _ 4 1 (λ j a b. entry j)) ∙ one_kind latest (kind_of r) k.0 k.1

  ordered_last : ordered more (counts_of more) ≡ ordered log held ++ (latest ∷ [])
  ordered_last = ordered_late log more late good good_more ∙ ap (λ xs. ordered log held ++ xs) last_level

  replay_last : replay more (counts_of more) ≡ step (replay log held) latest
  unfolding replay
  replay_last = rw (ordered_last, foldl-append)

  ---- a move that is clear in the present tree

  module _ (m : is_move r ≡ true) (clear : at_or_below (parents_of log) (parent_of r) (node_of r) ≡ false) where
    not_placed : get_or (replay log held).placed (slot_of (node_of r)) 0 ≡ latest.time → ⊥
    unfolding top
    not_placed e = omega (arith, placed_by log held (slot_of (node_of r)))

    moved : replay more (counts_of more) ≡ record {
      parents = set (parents_of log) (slot_of (node_of r)) (parent_of r);
      outcomes = set (outcomes_of log) (outcome_slot r) 1;
      placed = set (replay log held).placed (slot_of (node_of r)) latest.time;
    }
    unfolding parents_of outcomes_of
    moved =
        let st = replay log held in
        replay_last ∙ applied st latest.time r m (applies st latest.time r m not_placed clear)

    pub parents_moved : parents_of more ≡ set (parents_of log) (slot_of (node_of r)) (parent_of r)
    unfolding parents_of
    parents_moved = ap (λ (st : State). st.parents) moved

    pub outcomes_moved : outcomes_of more ≡ set (outcomes_of log) (outcome_slot r) 1
    unfolding outcomes_of
    outcomes_moved = ap (λ (st : State). st.outcomes) moved

---- what the counts know of a node

module _ (log : Log) (good : GoodLog log) (r : Op) (h : Admits log r) (m : is_move r ≡ true) where
  no_add : is_add r ≡ false
  unfolding is_add is_move
  no_add = elim (ℕ_discrete (kind_of r) 1) [
    | yes e ↦ let z : ◌≡◌ {A = Bool} false true = rw e at m in never z
    | no ne ↦ ne_eqb (kind_of r) 1 ne
  ]

  no_remove : is_remove r ≡ false
  unfolding is_remove is_move
  no_remove = elim (ℕ_discrete (kind_of r) 2) [
    | yes e ↦ let z : ◌≡◌ {A = Bool} false true = rw e at m in never z
    | no ne ↦ ne_eqb (kind_of r) 2 ne
  ]

  removed_still : removed_in (append log r) (counts_of (append log r)) ≡ removed_in log (counts_of log)
  unfolding removed_in append ops_of
  removed_still =
      rw (ops_all (append log r) (good_append log r good h).eight, ops_all log good.eight)
      (ap (map node_of) (filter_set is_remove r no_remove log (replica_of r - 1)))

  known_still : (n : ℕ) → is_known (knowledge (append log r) (counts_of (append log r)) n) ≡ is_known (knowledge log (counts_of log) n)
  known_still n = both_ways _ _ back there
    where
      back : Known (append log r) (counts_of (append log r)) n → Known log (counts_of log) n
      back k =
          let (w, a) = known_reads (append log r) (counts_of (append log r)) n k in
          elim (dec_le (n % 256) (count_in (counts_of log) (n / 256))) [
            | yes l ↦
                let same = (extends log r good h).ops (n / 256) (n % 256) w.low w.high w.first l in
                known_of log (counts_of log) n (record { low = w.low; high = w.high; first = w.first; last = l })
                (ap is_add (sym same) ∙ a)
            | no nl ↦ elim (ℕ_discrete (n / 256) (replica_of r)) [
              | yes e ↦
                  let own = own_count_law log r good h in
                  let number : n % 256 ≡ seq_of r = omega (
                    arith,
                    w.last,
                    new_seq log r good h,
                    ap (count_in (counts_of log)) e,
                    ap (count_in (counts_of (append log r))) e,
                  ) in
                  let b = in_range log r good h in
                  let it = (new_in log r good.eight b.0 b.1 (own_next log r good h)).there in
                  never (sym no_add ∙ ap is_add (sym it) ∙ rw (e, number) at a)
              | no ne ↦ absurd (omega (arith, w.last, other_count log r good h (n / 256) w.low ne))
            ]
          ]

      there : Known log (counts_of log) n → Known (append log r) (counts_of (append log r)) n
      there k =
          let (w, a) = known_reads log (counts_of log) n k in
          let x = extends log r good h in
          known_of (append log r) (counts_of (append log r)) n (record {
            low = w.low;
            high = w.high;
            first = w.first;
            last = omega (arith, w.last, x.counts (n / 256) w.low w.high);
          }) (ap is_add (x.ops (n / 256) (n % 256) w.low w.high w.first w.last) ∙ a)

  pub knowledge_still : (n : ℕ) → knowledge (append log r) (counts_of (append log r)) n ≡ knowledge log (counts_of log) n
  unfolding knowledge marked
  knowledge_still n =
      let k = sym (known_is (append log r) (counts_of (append log r)) n) ∙ known_still n ∙ known_is log (counts_of log) n in
      rw (k, removed_still)
