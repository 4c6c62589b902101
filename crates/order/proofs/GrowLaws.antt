-- The tree grows as a tree: every op of a replay finds its node and its parent hung, and every added node has a way to the root.
use Rattle.rules.proofs.KnownLaws.{Known, kinds, Named, known_later, known_of, known_reads, named_later, named_valid, names_add, names_move, names_node}
use mathlib.Core.Path.{◌≡◌, refl, sym, ap, ◌∙◌}
use mathlib.Core.Logic.{inl, inr, ⊎_elim}
use mathlib.Core.Bool.{true, false, ◌||◌}
use mathlib.Core.List.{List}
use Prim.Native.Nat.{ℕ, suc, ◌+◌, ◌*◌, ◌/◌, ◌%◌, ◌≤◌, ◌<◌}
use native.Mathlib.Nat.{le_refl}
use native.Mathlib.Omega.{arith}
use native.Mathlib.Decide.{ℕ_discrete}
use borrow.Author.Tests.{eq-eqb, ne_eqb, eqb-true}
use lib.ListN.{length, get_or, set, length-set}
use lib.Dec.{eqb}
use lib.Seq.{get_or-set_other}
use Rattle.rules.specs.Op.{Op, Vector, count_in, kind_of, replica_of, node_of, parent_of, vector_of, seq_of, node_number, is_add, is_move}
use Rattle.rules.specs.File.{Log, op_at, counts_of}
use Rattle.rules.specs.Tree.{slot_of, at_or_below, no_parent, slots}
use Rattle.rules.specs.Replay.{Stamped, State, step}
use Rattle.rules.proofs.CausalLaws.{Le}
use Rattle.rules.proofs.SlotLaws.{Valid, slot_injective}
use Rattle.rules.proofs.ClimbLaws.{up, Reaches, short}
use Rattle.rules.proofs.TreeLaws.{free_avoids, new_reaches, still_reaches}
use Rattle.rules.proofs.StructureLaws.{HeldOp, GoodLog, good_ops}
use Rattle.rules.proofs.CircleLaws.{reached}
use Rattle.rules.proofs.StepLaws.{step_add, step_move, step_remove}

---- one op

hung_root : (parents : List ℕ) (n p : ℕ) → Valid n → (n ≡ 0 → ⊥) → get_or (set parents (slot_of n) p) 0 no_parent ≡ get_or parents 0 no_parent
unfolding slot_of
hung_root parents n p v ne = get_or-set_other parents (slot_of n) 0 p no_parent (λ e. ne (slot_injective n 0 v (inl refl) (sym e)))

hung_bare : (parents : List ℕ) (n p i : ℕ) → (slot_of n ≡ i → ⊥) → get_or (set parents (slot_of n) p) i 0 ≡ get_or parents i 0
hung_bare parents n p i ne = get_or-set_other parents (slot_of n) i p 0 (λ e. ne (sym e))

-- the state's parents are a tree of the nodes that D knows
pub record Tree (log : Log) (D : Vector) (st : State) : Type 0 where
  pub size : length st.parents ≡ slots
  pub way : (m : ℕ) → Named log D m → (i : ℕ) × Reaches (Named log D) st.parents i m
  pub root : get_or st.parents 0 no_parent ≡ 0
  -- a slot of none of these nodes
  pub bare : (i : ℕ) → 0 < i → i < slots → ((m : ℕ) → Named log D m → slot_of m ≡ i → ⊥) → get_or st.parents i 0 ≡ no_parent

-- a vector that knows the same nodes
pub tree_same : (log : Log) (D E : Vector) (st : State) → Le D E → ((m : ℕ) → Known log E m → Known log D m) → Tree log D st
    → Tree log E st
tree_same log D E st le back x = record {
  size = x.size;
  way = λ m k. let (i, r) = x.way m (less m k) in (i, record { root = r.root; on = λ j h. named_later log D E le _ (r.on j h) });
  root = x.root;
  bare = λ i p b none. x.bare i p b (λ m k. none m (named_later log D E le m k));
}
  where
    less : (m : ℕ) → Named log E m → Named log D m
    less m (inl e) = inl e
    less m (inr e) = inr (back m e)

-- an op finds its nodes: each that it names lies below the root
pub record Finds (st : State) (x : Stamped) : Type 0 where
  pub parent : (kind_of x.op ≡ 2 → ⊥) → at_or_below st.parents (parent_of x.op) 0 ≡ true
  pub node : (kind_of x.op ≡ 1 → ⊥) → at_or_below st.parents (node_of x.op) 0 ≡ true

-- what the vector knows lies below the root
pub tree_below : (log : Log) (D : Vector) (st : State) → Tree log D st → (m : ℕ) → Named log D m → at_or_below st.parents m 0 ≡ true
tree_below log D st tree m w = let (i, r) = tree.way m w in reached (Named log D) (named_valid log D) st.parents i m r

module _ (log : Log) (good : GoodLog log) where
  -- an op whose vector lies within D
  module _ (s q : ℕ) (l : 1 ≤ s) (u : s ≤ 8) (lq : 1 ≤ q) (uq : q ≤ count_in (counts_of log) s) (t : ℕ) where
    abbrev r : Op
    r = op_at log s q

    abbrev x : Stamped
    x = record { time = t; op = r }

    held : HeldOp log s q r
    held = good_ops good s q l u lq uq

    module _ (D : Vector) (le : Le (vector_of r) D) (st : State) (tree : Tree log D st) where
      parent_named : (kind_of r ≡ 2 → ⊥) → Named log D (parent_of r)
      parent_named k2 = elim (ℕ_discrete (kind_of r) 1) [
        | yes e ↦ named_later log (vector_of r) D le _ (names_add log r held.names e).0
        | no ne ↦ named_later log (vector_of r) D le _ (names_move log r held.names ne k2)
      ]

      pub finds : Finds st x
      finds = record {
        parent = λ k. tree_below log D st tree (parent_of r) (parent_named k);
        node = λ k. tree_below log D st tree (node_of r) (inr (known_later log (vector_of r) D le _ (names_node log r held.names k)));
      }

      -- an add: E counts it besides
      module _ (E : Vector) (more : Le D E) (here : count_in D s < q) (there : count_in E s ≡ q) (same : (z : ℕ) → 1 ≤ z → z ≤ 8 → (z ≡ s → ⊥)
          → count_in E z ≡ count_in D z) where
        back : (m : ℕ) → Known log E m → (m ≡ node_number s q → ⊥) → q ≡ count_in D s + 1 → Known log D m
        unfolding node_number
        back m e ne step1 =
            let (h, a) = known_reads log E m e in
            known_of log D m (record {
              low = h.low;
              high = h.high;
              first = h.first;
              last = elim (ℕ_discrete (m / 256) s) [
                | yes z ↦
                    let b : count_in E (m / 256) ≡ q = ap (count_in E) z ∙ there in
                    let c : count_in D (m / 256) ≡ count_in D s = ap (count_in D) z in
                    let nq : m % 256 ≡ q → ⊥ = λ w. ne (omega arith) in
                    omega (arith, h.last)
                | no nz ↦ omega (arith, h.last, same (m / 256) h.low h.high nz)
              ];
            }) a

        -- another kind of op: nothing new is known
        pub tree_passed : (kind_of r ≡ 1 → ⊥) → q ≡ count_in D s + 1 → Tree log E st
        unfolding is_add node_number
        tree_passed k e = tree_same log D E st more (λ m h. back m h (λ z.
            let few = good.counts s l u in
            let a : m / 256 ≡ s = omega arith in
            let b : m % 256 ≡ q = omega arith in
            let w : eqb (kind_of (op_at log s q)) 1 ≡ true = rw (a, b) at (known_reads log E m h).1 in
            k (eqb-true _ _ w)) e) tree

        pub tree_added : kind_of r ≡ 1 → q ≡ count_in D s + 1 → Tree log E (step st x)
        unfolding node_number is_add
        tree_added k e = record {
          size = rw (step_add st x k) (length-set st.parents (slot_of (node_of r)) (parent_of r) ∙ tree.size);
          way = λ m w. rw (step_add st x k) (elim (ℕ_discrete m (node_of r)) [
            | yes z ↦ rw z (
              suc jp,
              new_reaches (Named log D) (named_valid log D) st.parents tree.size (node_of r) (parent_of r) valid_n
                  nonzero jp rp avoids (Named log E) new_named (named_later log D E more),
            )
            | no nz ↦
                let (i, o) = tree.way m (old m w nz) in
                let (k, o') = still_reaches (Named log D) (named_valid log D) st.parents tree.size (node_of r) (parent_of r) valid_n
                nonzero jp rp avoids i m o in
                (k, record { root = o'.root; on = λ j h. named_later log D E more _ (o'.on j h) })
          ]);
          root = rw (step_add st x k) (hung_root st.parents (node_of r) (parent_of r) valid_n nonzero ∙ tree.root);
          bare = λ i p b none. rw (step_add st x k) (hung_bare st.parents (node_of r) (parent_of r) i (none _ new_named) ∙ tree.bare i p b
              (λ m w. none m (named_later log D E more m w)));
        }
          where
            names : Named log (vector_of r) (parent_of r) × (node_of r ≡ node_number (replica_of r) (seq_of r))
            names = names_add log r held.names k

            number : node_of r ≡ 256 * s + q
            number = names.1 ∙ rw (held.origin, held.number)

            small : q ≤ 255
            small = omega (arith, good.counts s l u)

            whole : (node_of r / 256 ≡ s) × (node_of r % 256 ≡ q)
            whole = (omega (arith, number, small), omega (arith, number, small))

            new_named : Named log E (node_of r)
            new_named = inr (known_of log E (node_of r)
                (record {
                  low = omega (arith, whole.0);
                  high = omega (arith, whole.0);
                  first = omega (arith, whole.1);
                  last =
                      rw (whole.0, whole.1, there) (le_refl q);
                }) (rw (whole.0, whole.1) (eq-eqb _ 1 k)))

            valid_n : Valid (node_of r)
            valid_n = named_valid log E (node_of r) new_named

            nonzero : node_of r ≡ 0 → ⊥
            nonzero z = omega (arith, number)

            way_p : (i : ℕ) × Reaches (Named log D) st.parents i (parent_of r)
            way_p = tree.way (parent_of r) (named_later log (vector_of r) D le _ names.0)

            jp : ℕ
            jp = way_p.0

            rp : Reaches (Named log D) st.parents jp (parent_of r)
            rp = way_p.1

            not_yet : Named log D (node_of r) → ⊥
            not_yet (inl z) = nonzero z
            not_yet (inr z) = let h = (known_reads log D (node_of r) z).0 in let c = rw (whole.0, whole.1) at h.last in omega arith

            avoids : (i : ℕ) → i ≤ jp → up st.parents i (parent_of r) ≡ node_of r → ⊥
            avoids i h z = not_yet (rw z at (rp.on i h))

            old : (m : ℕ) → Named log E m → (m ≡ node_of r → ⊥) → Named log D m
            old m (inl z) ne = inl z
            old m (inr z) ne = inr (back m z (λ w. ne (w ∙ sym number)) e)

      -- a remove or a move
      unmoved : (step st x).parents ≡ st.parents → Tree log D (step st x)
      unmoved e = record { size = rw e tree.size; way = rw e tree.way; root = rw e tree.root; bare = rw e tree.bare }

      moved : (step st x).parents ≡ set st.parents (slot_of (node_of r)) (parent_of r)
          → at_or_below st.parents (parent_of r) (node_of r) ≡ false → (kind_of r ≡ 1 → ⊥) → (kind_of r ≡ 2 → ⊥) → Tree log D (step st x)
      moved e free k1 k2 = record {
        size = rw e (length-set st.parents (slot_of (node_of r)) (parent_of r) ∙ tree.size);
        way = λ m w. rw e (let (i, o) = tree.way m w in still_reaches (Named log D) (named_valid log D) st.parents tree.size
            (node_of r) (parent_of r) (named_valid log D _ node_named) nonzero first.0 first.2
            (free_avoids st.parents (node_of r) (parent_of r) first.0 first.1 first.3 free) i m o);
        root = rw e (hung_root st.parents (node_of r) (parent_of r) (named_valid log D _ node_named) nonzero ∙ tree.root);
        bare = λ i p b none. rw e (hung_bare st.parents (node_of r) (parent_of r) i (none _ node_named) ∙ tree.bare i p b none);
      }
        where
          node_known : Known log D (node_of r)
          node_known = known_later log (vector_of r) D le _ (names_node log r held.names k1)

          node_named : Named log D (node_of r)
          node_named = inr node_known

          nonzero : node_of r ≡ 0 → ⊥
          nonzero z = let h = (known_reads log D (node_of r) node_known).0 in omega arith

          first : (j : ℕ) × (j ≤ 2040) × Reaches (Named log D) st.parents j (parent_of r) × ((k : ℕ) → k < j
              → up st.parents k (parent_of r) ≡ 0 → ⊥)
          first = let (i, o) = tree.way (parent_of r) (parent_named k2) in short (Named log D) (named_valid log D) st.parents i
              (parent_of r) o

      pub tree_kept : (kind_of r ≡ 1 → ⊥) → Tree log D (step st x)
      unfolding is_move is_add
      tree_kept k1 = elim (ℕ_discrete (kind_of r) 2) [
        | yes e ↦ unmoved (step_remove st x e)
        | no k2 ↦
            let k = kinds r held.formed in
            let m : (eqb (kind_of r) 3 || eqb (kind_of r) 4) ≡ true = elim (ℕ_discrete (kind_of r) 3) [
              | yes z ↦ rw (eq-eqb (kind_of r) 3 z)
              | no nz ↦ rw (ne_eqb (kind_of r) 3 nz, eq-eqb (kind_of r) 4 (omega arith))
            ] in
            ⊎_elim unmoved (λ y. moved y.0 y.1 k1 k2) (step_move st x m (ne_eqb (kind_of r) 1 k1))
      ]
