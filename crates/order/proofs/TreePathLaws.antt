-- Paths and children in the tree of a log.
use Prim.Native.Nat.{◌+◌, ◌-◌, ◌<◌, suc, zero, ℕ, ◌≤◌}
use borrow.Author.Tests.{eq-eqb, eqb-true, ne_eqb}
use lib.Dec.{eqb}
use lib.ListN.{get_or, length}
use mathlib.Core.Bool.{false, or-false, or-true, true, ◌||◌}
use mathlib.Core.List.{List, [], ◌∷◌}
use mathlib.Core.Logic.{inr, ⊎_elim}
use mathlib.Core.Path.{ap, refl, subst, sym, ◌∙◌, ◌≡◌}
use native.Mathlib.Nat.{le_of_suc-le-suc, not-suc-le-zero}
use native.Mathlib.Omega.{arith}
use Rattle.rules.proofs.ClimbLaws.{Depth, climb_enough, climb_up, depth_unique, Reaches, up, up_add}
use Rattle.order.proofs.FuelLaws.{has_depth}
use Rattle.rules.proofs.KnownLaws.{Known, Named, known_reads}
use Rattle.order.proofs.RunLaws.{replay_reaches}
use Rattle.order.proofs.LevelLaws.{whole_cut}
use Rattle.order.proofs.NodeLaws.{added_is}
use Rattle.order.proofs.TreeTheorem.{is_tree}
use Rattle.lists.proofs.BoolLaws.{or_cases}
use Rattle.rules.proofs.StructureLaws.{GoodLog}
use Rattle.lists.specs.Lists.{any, is_in}
use Rattle.rules.specs.Listing.{children}
use Rattle.rules.specs.File.{Log, counts_of}
use Rattle.rules.specs.Marks.{is_known, knowledge}
use Rattle.rules.specs.Replay.{parents_of}
use Rattle.rules.specs.Tree.{climb, parent_in, path, slots}
use Rattle.rules.specs.Views.{nodes}
use Rattle.lists.proofs.EachLaws.{Each, each_passing}

pub up_none : (parents : List ℕ) (n : ℕ) → up parents 0 n ≡ n
unfolding up
up_none parents n = refl

pub climb_at : (parents : List ℕ) (k j n i : ℕ) → j < k → i ≤ j → ((i : ℕ) → i < j → up parents i n ≡ 0 → ⊥)
    → get_or (climb k parents n) i 0 ≡ up parents i n
unfolding climb up
climb_at parents zero j n i h l o = absurd (not-suc-le-zero h)
climb_at parents (suc k) j n zero h l o = refl
climb_at parents (suc k) zero n (suc i) h l o = absurd (not-suc-le-zero l)
climb_at parents (suc k) (suc j) n (suc i) h l o =
    rw (ne_eqb n 0 (o 0 (omega arith))) (climb_at parents k j (parent_in parents n) i (le_of_suc-le-suc h) (le_of_suc-le-suc l)
    (λ m b. o (suc m) (omega arith)))

-- what is above a node of a climb is on it
climb_closed : (parents : List ℕ) (k j m c : ℕ) → Depth parents j m → j < k → is_in c (climb k parents m) ≡ true → (c ≡ 0 → ⊥)
    → is_in (parent_in parents c) (climb k parents m) ≡ true
unfolding climb is_in any up
climb_closed parents zero j m c d h i nz = absurd (not-suc-le-zero h)
climb_closed parents (suc k) zero m c d h i nz =
    let z : m ≡ 0 = d.root in
    let i' : (eqb c 0 || false) ≡ true = rw (z) at i in
    absurd (nz (eqb-true c 0 (sym (or-false (eqb c 0)) ∙ i')))
climb_closed parents (suc k) (suc j) m c d h i nz =
    let nm : m ≡ 0 → ⊥ = d.first 0 (omega arith) in
    let e = ne_eqb m 0 nm in
    let d' : Depth parents j (parent_in parents m) = record { root = d.root; first = λ n w. d.first (suc n) (omega arith) } in
    rw e (⊎_elim
    (λ (q : eqb c m ≡ true). rw (found (sym (eqb-true c m q))) (or-true (eqb (parent_in parents c) m)))
    (λ (q : is_in c (climb k parents (parent_in parents m)) ≡ true). rw (climb_closed parents k j (parent_in parents m) c d'
    (le_of_suc-le-suc h) q nz) (or-true (eqb (parent_in parents c) m)))
    (or_cases (eqb c m) _ (rw e at i)))
  where
    head : (k n : ℕ) → 0 < k → any (eqb n) (climb k parents n) ≡ true
    head zero n l = absurd (not-suc-le-zero l)
    head (suc k) n l = rw (eq-eqb n n refl)

    found : m ≡ c → any (eqb (parent_in parents c)) (climb k parents (parent_in parents m)) ≡ true
    found q =
        subst (λ x. any (eqb (parent_in parents x)) (climb k parents (parent_in parents m)) ≡ true) q
        (head k (parent_in parents m) (omega arith))

pub depth_parent : (parents : List ℕ) (j n : ℕ) → Depth parents j n → (n ≡ 0 → ⊥)
    → (i : ℕ) × (suc i ≡ j) × Depth parents i (parent_in parents n)
unfolding up
depth_parent parents zero n d nz = absurd (nz d.root)
depth_parent parents (suc j) n d nz = (j, refl, record { root = d.root; first = λ m w. d.first (suc m) (omega arith) })

depth_up : (parents : List ℕ) (j n i : ℕ) → Depth parents j n → i ≤ j → Depth parents (j - i) (up parents i n)
depth_up parents j n i d h =
    let e : i + (j - i) ≡ j = omega arith in
    record {
      root = sym (up_add parents i (j - i) n) ∙ ap (λ (k : ℕ). up parents k n) e ∙ d.root;
      first = λ k l z. d.first (i + k) (omega arith) (up_add parents i k n ∙ z);
    }

-- no node lies above itself
pub no_cycle : (parents : List ℕ) (j n i : ℕ) → Depth parents j n → i < j → up parents (suc i) n ≡ n → ⊥
no_cycle parents j n i d h e =
    let d' : Depth parents (j - suc i) n = rw e at (depth_up parents j n (suc i) d h) in
    let z : j - suc i ≡ j = depth_unique parents (j - suc i) j n d' d in
    omega arith

module _ (log : Log) (good : GoodLog log) where
  abbrev P : List ℕ
  P = parents_of log

  pub table_size : length (parents_of log) ≡ slots
  unfolding parents_of
  table_size = (is_tree log good (counts_of log) (whole_cut log good)).size

  -- the way to the root
  pub root_way : (n : ℕ) → Named log (counts_of log) n
      → (j : ℕ) × (j ≤ 2040) × Reaches (Named log (counts_of log)) (parents_of log) j n × ((k : ℕ) → k < j → up (parents_of log) k n ≡ 0 → ⊥)
  unfolding parents_of
  root_way n w = replay_reaches log good (counts_of log) (whole_cut log good) n w

  -- what hangs, hangs under a known node or the root
  pub named_parent : (n : ℕ) → Named log (counts_of log) n → (n ≡ 0 → ⊥) → Named log (counts_of log) (parent_in (parents_of log) n)
  unfolding up
  named_parent n w nz =
      let (j, b, r, o) = root_way n w in
      go j r.root r.on
    where
      go : (j : ℕ) → up (parents_of log) j n ≡ 0 → ((i : ℕ) → i ≤ j → Named log (counts_of log) (up (parents_of log) i n))
          → Named log (counts_of log) (parent_in (parents_of log) n)
      go zero z on = absurd (nz z)
      go (suc j) z on = on 1 (omega arith)

  pub known_nonzero : (n : ℕ) → Known log (counts_of log) n → n ≡ 0 → ⊥
  known_nonzero n e z = let h = (known_reads log (counts_of log) n e).0 in omega (arith, h.low)

  pub nodes_known : (n : ℕ) → is_in n (nodes log) ≡ is_known (knowledge log (counts_of log) n)
  unfolding nodes
  nodes_known n = added_is log good (counts_of log) (whole_cut log good) n

  -- c hangs under n
  pub record Under (n c : ℕ) : Type 0 where
    pub node : Named log (counts_of log) c
    pub parent : parent_in (parents_of log) c ≡ n
    pub below_root : c ≡ 0 → ⊥

  pub path_child : (n c : ℕ) → Under n c → path P c ≡ c ∷ path P n
  unfolding path
  path_child n c u =
      let (j, b, d) = has_depth log good c u.node in
      let (i, e, d') = depth_parent P j c d u.below_root in
      rw (
        climb_up P 2040 c u.below_root,
        climb_enough P i 2040 slots (parent_in P c) d' (omega arith)
            (omega arith),
        u.parent,
      )

  pub path_root : path P 0 ≡ 0 ∷ []
  unfolding path climb
  path_root = refl

  pub path_closed : (m c : ℕ) → Named log (counts_of log) m → is_in c (path P m) ≡ true → (c ≡ 0 → ⊥) → is_in (parent_in P c) (path P m) ≡ true
  unfolding path
  path_closed m c w i nz = let (j, b, d) = has_depth log good m w in climb_closed P slots j m c d (omega arith) i nz

  -- the children of a node hang under it
  pub children_under : (n : ℕ) → Each (Under n) (children log P n)
  unfolding children
  children_under n = each_passing (λ m. eqb (parent_in P m) n) (Under n) (nodes log) (λ c i e.
      let k : Known log (counts_of log) c = sym (nodes_known c) ∙ i in
      record { node = inr k; parent = eqb-true _ _ e; below_root = known_nonzero c k })
