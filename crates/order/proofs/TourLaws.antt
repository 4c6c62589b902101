-- The listing's order: the root and every added node stand in it exactly once, so it has at most 2,041 entries; and
-- how long a listing can be.
use mathlib.Core.Path.{◌≡◌, refl, sym, ap, ◌∙◌}
use mathlib.Core.Logic.{inl, inr, ⊎_elim}
use mathlib.Core.Bool.{true, or-true}
use mathlib.Core.List.{List, map}
use Prim.Native.Nat.{ℕ, zero, suc, ◌+◌, ◌≤◌, ◌<◌}
use native.Mathlib.Nat.{zero-add}
use native.Mathlib.Omega.{arith}
use borrow.Author.Tests.{eq-eqb}
use lib.ListN.{length}
use Rattle.lists.specs.Lists.{concat, filter, any, is_in}
use Rattle.rules.specs.File.{Log, counts_of, log_of}
use Rattle.rules.specs.Log.{known_parent}
use Rattle.rules.specs.Sound.{sound}
use Rattle.rules.specs.Tree.{parent_in, slots, depth}
use Rattle.rules.specs.Replay.{parents_of, added_in}
use Rattle.rules.specs.Views.{nodes, View, shown}
use Rattle.rules.specs.Marks.{marked}
use Rattle.rules.specs.Listing.{children, preorder, line, listing_in, listing_of}
use Rattle.lists.proofs.BoolLaws.{never, both_ways}
use Rattle.rules.proofs.StructureLaws.{GoodLog}
use Rattle.rules.proofs.SlotLaws.{Valid}
use Rattle.rules.proofs.ClimbLaws.{up, up_last, Depth, depth_unique, depth_child}
use Rattle.rules.proofs.SoundLaws.{sound_good}
use Rattle.rules.proofs.DecimalLaws.{line_short}
use Rattle.order.proofs.LevelLaws.{whole_cut}
use Rattle.rules.proofs.KnownLaws.{Known, Named, known_reads, named_valid, parent_reads}
use Rattle.order.proofs.RunLaws.{replay_reaches}
use Rattle.order.proofs.NodeLaws.{added_is}
use Rattle.order.proofs.DepthLaws.{depth_added}
use Rattle.order.proofs.FuelLaws.{child_named}
use Rattle.lists.proofs.MemberLaws.{is_in_filter, is_in_here, is_in_there, is_in_cons, is_in_concat, concat_is_in, filter_is_in, concat_length}
use Rattle.order.proofs.RisingLaws.{Rising, rising_filter, added_rises, distinct_concat, distinct_length}
use Rattle.order.specs.Claims.{Distinct}
use Rattle.lists.proofs.FilterLaws.{filter_length}

module _ (log : Log) (good : GoodLog log) where
  abbrev parents : List ℕ
  parents = parents_of log

  -- "in rising node number"
  nodes_rise : Rising (nodes log)
  unfolding nodes
  nodes_rise = added_rises log good (counts_of log) (whole_cut log good)

  children_rise : (n : ℕ) → Rising (children log parents n)
  unfolding children
  children_rise n = rising_filter _ (nodes log) nodes_rise

  child_depth : (d n c : ℕ) → Depth parents d n → is_in c (children log parents n) ≡ true → Depth parents (suc d) c
  child_depth d n c at e =
      let (k, p) = child_named log good n c e in
      depth_child parents d n c p (λ z. let w = (known_reads log (counts_of log) c k).0 in omega (arith, w.low)) at

  -- what stands below n is some steps below it
  below : (k n d m : ℕ) → Depth parents d n → is_in m (preorder k log parents n) ≡ true
      → (i : ℕ) × (up parents i m ≡ n) × Depth parents (i + d) m
  unfolding preorder is_in any up
  below zero n d m at e = never e
  below (suc k) n d m at e =
      ⊎_elim (λ (z : m ≡ n). (0, z, rw (z, zero-add) at))
      (λ (w : is_in m (concat (map (preorder k log parents) (children log parents n))) ≡ true).
      let (c, a, b) = is_in_concat (preorder k log parents) (children log parents n) m w in
      let (i, u, at') = below k c (suc d) m (child_depth d n c at a) b in
      let s : i + suc d ≡ suc i + d = omega arith in
      (suc i, up_last parents i m ∙ rw u (child_named log good n c a).1, rw s at at'))
      (is_in_cons m n (concat (map (preorder k log parents) (children log parents n))) e)

  -- no node stands in it twice
  once : (k n d : ℕ) → Depth parents d n → Distinct (preorder k log parents n)
  unfolding preorder
  once zero n d at = tt
  once (suc k) n d at = (
    λ w.
        let (c, a, b) = is_in_concat (preorder k log parents) (children log parents n) n w in
        let (i, u, at') = below k c (suc d) n (child_depth d n c at a) b in
        let same : i + suc d ≡ d = depth_unique parents (i + suc d) d n at' at in
        omega arith,
    distinct_concat (preorder k log parents) (children log parents n) (children_rise n) (λ c e. once k c (suc d) (child_depth d n c at e))
        (λ a b y p q l v w.
        let (i, u, x) = below k a (suc d) y (child_depth d n a at p) v in
        let (j, t, z) = below k b (suc d) y (child_depth d n b at q) w in
        let same : i + suc d ≡ j + suc d = depth_unique parents (i + suc d) (j + suc d) y x z in
        let e : i ≡ j = omega arith in
        let r : a ≡ b = sym u ∙ ap (λ (h : ℕ). up parents h y) e ∙ t in
        omega arith),
  )

  -- only the root and added nodes stand in it
  preorder_named : (k n m : ℕ) → Named log (counts_of log) n → is_in m (preorder k log parents n) ≡ true → Named log (counts_of log) m
  unfolding preorder is_in any
  preorder_named zero n m w e = never e
  preorder_named (suc k) n m w e =
      ⊎_elim (λ (z : m ≡ n). rw z w) (λ (v : is_in m (concat (map (preorder k log parents) (children log parents n))) ≡ true).
      let (c, a, b) = is_in_concat (preorder k log parents) (children log parents n) m v in
      preorder_named k c m (inr (child_named log good n c a).0) b)
      (is_in_cons m n (concat (map (preorder k log parents) (children log parents n))) e)

  root_depth : Depth parents 0 0
  unfolding up
  root_depth = record { root = refl; first = λ k h z. omega arith }

  pub preorder_once : (k : ℕ) → Distinct (preorder k log parents 0)
  preorder_once k = once k 0 0 root_depth

  -- at most 2,040 nodes and the root
  pub preorder_length : (k : ℕ) → length (preorder k log parents 0) ≤ slots
  preorder_length k = distinct_length (preorder k log parents 0) (preorder_once k) (λ y e. named_valid log (counts_of log) y
      (preorder_named k 0 y (inl refl) e))

  ---- every node stands in it

  child_of : (c n : ℕ) → Known log (counts_of log) c → parent_in parents c ≡ n → is_in c (children log parents n) ≡ true
  unfolding children nodes
  child_of c n w e =
      filter_is_in _ (added_in log (counts_of log)) c (added_is log good (counts_of log) (whole_cut log good) c ∙ w) (eq-eqb _ _ e)

  has : (m j : ℕ) → ((i : ℕ) → i < j → Known log (counts_of log) (up parents i m)) → (i k : ℕ) → i ≤ j → i < k
      → is_in m (preorder k log parents (up parents i m)) ≡ true
  unfolding preorder up
  has m j on i zero h l = absurd (omega arith)
  has m j on zero (suc k) h l = is_in_here m (concat (map (preorder k log parents) (children log parents m)))
  has m j on (suc i) (suc k) h l =
      let n : ℕ = up parents i (parent_in parents m) in
      is_in_there m n (concat (map (preorder k log parents) (children log parents n)))
      (concat_is_in (preorder k log parents) (children log parents n) (up parents i m) m
      (child_of (up parents i m) n (on i (omega arith)) (sym (up_last parents i m))) (has m j on i k (omega arith) (omega arith)))

  preorder_has : (m : ℕ) → Named log (counts_of log) m → is_in m (preorder slots log parents 0) ≡ true
  unfolding parents_of
  preorder_has m w =
      let (j, b, r, first) = replay_reaches log good (counts_of log) (whole_cut log good) m w in
      rw r.root at (has m j (λ i h. not_root (up parents i m) (r.on i (omega arith)) (first i h)) j slots (omega arith) (omega arith))
    where
      not_root : (n : ℕ) → Named log (counts_of log) n → (n ≡ 0 → ⊥) → Known log (counts_of log) n
      not_root n (inl z) nz = absurd (nz z)
      not_root n (inr v) nz = v

  -- it has the root and the added nodes, and no others
  pub preorder_is : (m : ℕ) → is_in m (preorder slots log parents 0) ≡ known_parent log (counts_of log) m
  unfolding known_parent
  preorder_is m =
      both_ways (is_in m (preorder slots log parents 0)) (known_parent log (counts_of log) m)
      (λ e. back (preorder_named slots 0 m (inl refl) e)) (λ e. preorder_has m (parent_reads log (counts_of log) m e))
    where
      back : Named log (counts_of log) m → known_parent log (counts_of log) m ≡ true
      back (inl z) = rw (eq-eqb m 0 z)
      back (inr v) = rw (v, or-true)

  ---- how long a listing can be

  pub line_size : (y : ℕ) → Named log (counts_of log) y → length (line log parents y) ≤ 12
  unfolding line parents_of
  line_size y w =
      let (a, b, c) = depth_added log good (counts_of log) (whole_cut log good) y w in
      line_short (depth parents y) y (marked log (counts_of log) y) (omega (arith, c)) (number (named_valid log (counts_of log) y w))
    where
      number : Valid y → y < 10000
      number (inl z) = omega arith
      number (inr v) = omega arith

  -- 12 x 2,041
  pub listing_size : (view : View) → length (listing_of view log) ≤ 24492
  unfolding listing_of listing_in
  listing_size view =
      let all : List ℕ = preorder slots log parents 0 in
      let xs : List ℕ = filter (shown view log parents) all in
      let n : length xs ≤ slots = omega (arith, filter_length (shown view log parents) all, preorder_length slots) in
      omega (
        arith,
        n,
        concat_length (line log parents) 12 xs
            (λ y e. line_size y (preorder_named slots 0 y (inl refl) (is_in_filter (shown view log parents) all y e).0)),
      )

-- of a sound file, in either view
pub sound_listing : (w : ℕ) (f : List ℕ) (view : View) → sound w f ≡ true → length (listing_of view (log_of w f)) ≤ 24492
sound_listing w f view e = listing_size (log_of w f) (sound_good w f e) view
