-- Moves that a log let through: the op of each, and what two of them do in the tree before them.
use Prim.Native.Nat.{◌≤◌, ◌<◌, ◌+◌, ℕ}
use borrow.Author.Tests.{not-true, leb-true}
use lib.Dec.{ltb}
use lib.ListN.{length, length-set}
use mathlib.Core.Bool.{Bool, true, cond, false, and-eq-true_iff, not}
use mathlib.Core.List.{List}
use mathlib.Core.Logic.{inr}
use mathlib.Core.Path.{refl, ◌≡◌, ◌∙◌}
use native.Mathlib.Omega.{arith}
use Rattle.rules.proofs.CircleLaws.{second_blocked, first_below, second_free, cut_off, reached}
use Rattle.convergence.specs.Clash.{Move, next_slot, request, circle, hang}
use Rattle.rules.proofs.KnownLaws.{Known, Named, named_valid, parent_reads, known_reads}
use Rattle.order.proofs.GrowLaws.{Tree}
use Rattle.order.proofs.LevelLaws.{whole_cut}
use Rattle.order.proofs.RunLaws.{replay_run}
use Rattle.rules.proofs.IssueLaws.{counts_eight, bytes_parent, bytes_vector, bytes_node, issued_moves, Allowed}
use Rattle.rules.proofs.PutOutLaws.{issued_origin}
use Rattle.rules.proofs.StructureLaws.{GoodLog}
use Rattle.rules.proofs.SlotLaws.{Valid}
use Rattle.rules.proofs.ClimbLaws.{Reaches, short}
use Rattle.rules.proofs.TreeLaws.{still_reaches, free_avoids}
use Rattle.rules.specs.Issue.{issued, op_bytes, request_known, request_clear}
use Rattle.rules.specs.Tree.{move_kind, depth, slot, slots, at_or_below, slot_of}
use Rattle.rules.specs.File.{Log, counts_of, log_of}
use Rattle.rules.specs.Op.{Op, count_in, is_move, node_of, parent_of, seq_of, kind_of, own_count, replica_of, vector_of, is_replica}
use Rattle.rules.specs.Replay.{outcome_slot, parents_of, replay}

---- one move

abbrev pub op_of : Log → Move → Op
op_of log x = issued log x.replica (request x)

abbrev pub upward : Log → Move → Bool
upward log x = ltb (depth (parents_of log) x.parent) (depth (parents_of log) x.node)

-- what an accepted issue of a move says
pub record Asked (log : Log) (x : Move) : Type 0 where
  pub low : 1 ≤ x.replica
  pub high : x.replica ≤ 8
  pub count : count_in (counts_of log) x.replica < 255
  pub node_known : Known log (counts_of log) x.node
  pub parent_named : Named log (counts_of log) x.parent
  pub clear : at_or_below (parents_of log) x.parent x.node ≡ false

pub asked : (w : ℕ) (f : List ℕ) (room n : ℕ) (x : Move) → Allowed w f room x.replica (request x) n → Asked (log_of w f) x
unfolding request_known request_clear is_replica
asked w f room n x a =
    let names = simp and-eq-true_iff at a.names in
    let range = simp and-eq-true_iff at a.is_replica_so in
    record {
      low = leb-true _ _ range.0;
      high = leb-true _ _ range.1;
      count = a.count;
      node_known = names.0.0;
      parent_named = parent_reads (log_of w f) (counts_of (log_of w f)) x.parent names.0.1;
      clear = not-true _ a.clear;
    }

-- its op, and its place among the outcomes
pub record Drawn (log : Log) (x : Move) : Type 0 where
  pub kind : kind_of (op_of log x) ≡ cond (upward log x) 3 4
  pub moves : is_move (op_of log x) ≡ true
  pub origin : replica_of (op_of log x) ≡ x.replica
  pub node_is : node_of (op_of log x) ≡ x.node
  pub parent_is : parent_of (op_of log x) ≡ x.parent
  pub vector : vector_of (op_of log x) ≡ counts_of log
  pub next : seq_of (op_of log x) ≡ count_in (counts_of log) x.replica + 1
  pub slot_is : outcome_slot (op_of log x) ≡ next_slot log x.replica

module _ (log : Log) (good : GoodLog log) (x : Move) where
  kind_is : kind_of (op_of log x) ≡ cond (upward log x) 3 4
  unfolding issued op_bytes kind_of move_kind
  kind_is = refl

  origin_is : replica_of (op_of log x) ≡ x.replica
  origin_is = issued_origin log x.replica (request x)

  vector_is : vector_of (op_of log x) ≡ counts_of log
  unfolding issued
  vector_is = bytes_vector _ x.replica x.node x.parent (counts_of log) (counts_eight log good)

  next_is : seq_of (op_of log x) ≡ count_in (counts_of log) x.replica + 1
  unfolding seq_of own_count
  next_is = rw (vector_is, origin_is)

  pub drawn : Drawn log x
  unfolding issued outcome_slot next_slot
  drawn = record {
    kind = kind_is;
    moves = issued_moves log x.replica x.node x.parent;
    origin = origin_is;
    node_is = bytes_node _ x.replica x.node x.parent (counts_of log);
    parent_is = bytes_parent _ x.replica x.node x.parent (counts_of log);
    vector = vector_is;
    next = next_is;
    slot_is = rw (origin_is, next_is);
  }

module _ (log : Log) (x : Move) (ax : Asked log x) where
  pub slot_in : next_slot log x.replica < slots
  unfolding next_slot slot
  slot_in = omega (arith, ax.low, ax.high, ax.count)

  pub valid_node : Valid x.node
  valid_node = named_valid log (counts_of log) x.node (inr ax.node_known)

  no_root : x.node ≡ 0 → ⊥
  no_root e = let h = (known_reads log (counts_of log) x.node ax.node_known).0.low in omega arith

---- two moves

module _ (log : Log) (good : GoodLog log) (x y : Move) (ax : Asked log x) (ay : Asked log y) where
  -- the nodes that are known, and the tree before the moves
  abbrev named : ℕ → Type 0
  named = Named log (counts_of log)

  abbrev parents : List ℕ
  parents = parents_of log

  valid : (n : ℕ) → named n → Valid n
  valid = named_valid log (counts_of log)

  tree : Tree log (counts_of log) (replay log (counts_of log))
  unfolding replay
  tree = (replay_run log good (counts_of log) (whole_cut log good)).tree

  size : length parents ≡ slots
  unfolding parents_of
  size = tree.size

  way : (n : ℕ) → named n → (i : ℕ) × Reaches named parents i n
  unfolding parents_of
  way = tree.way

  abbrev after_x : List ℕ
  after_x = hang parents x

  -- if they close a circle, y's new parent is below its node once x is made, and so is x's node
  pub y_blocked : circle parents x y ≡ true → at_or_below after_x y.parent y.node ≡ true
  unfolding circle hang
  y_blocked c =
      let (ip, rp) = way x.parent ax.parent_named in
      let (iq, rq) = way y.parent ay.parent_named in
      let h = simp and-eq-true_iff at c in
      second_blocked named valid parents size x.node x.parent y.node y.parent
      (valid_node log x ax) (no_root log x ax) (no_root log y ay) ip iq rp rq ax.clear h.0 h.1

  x_below : circle parents x y ≡ true → at_or_below after_x x.node y.node ≡ true
  unfolding circle hang
  x_below c =
      let (ip, rp) = way x.parent ax.parent_named in
      let (iq, rq) = way y.parent ay.parent_named in
      let h = simp and-eq-true_iff at c in
      first_below named valid parents size x.node x.parent y.node y.parent
      (valid_node log x ax) (no_root log x ax) (no_root log y ay) ip iq rp rq ax.clear h.0

  -- and else it is not
  y_free : circle parents x y ≡ false → at_or_below after_x y.parent y.node ≡ false
  unfolding circle hang
  y_free c =
      let (ip, rp) = way x.parent ax.parent_named in
      let (iq, rq) = way y.parent ay.parent_named in
      second_free named valid parents size x.node x.parent y.node y.parent
      (valid_node log x ax) (no_root log x ax) (no_root log y ay) ip iq rp rq ax.clear ay.clear c

  -- the tree after x
  size_x : length after_x ≡ slots
  unfolding hang
  size_x = length-set parents (slot_of x.node) x.parent ∙ size

  way_x : (n : ℕ) → named n → (i : ℕ) × Reaches named after_x i n
  unfolding hang
  way_x n k =
      let (ip, rp) = way x.parent ax.parent_named in
      let (jp, bound, rp', first) = short named valid parents ip x.parent rp in
      let avoids = free_avoids parents x.node x.parent jp bound first ax.clear in
      let (i, r) = way n k in
      still_reaches named valid parents size x.node x.parent (valid_node log x ax) (no_root log x ax) jp rp' avoids i n r

  abbrev after_both : List ℕ
  after_both = hang after_x y

  cut_there : circle parents x y ≡ true → at_or_below after_both x.node 0 ≡ false
  unfolding hang
  cut_there c =
      let (iq, rq) = way_x y.parent ay.parent_named in
      let (im, rn) = way_x x.node (inr ax.node_known) in
      cut_off named valid after_x size_x y.node y.parent (valid_node log y ay) (no_root log y ay) iq rq
      (y_blocked c) x.node im rn (x_below c)

  reached_there : circle parents x y ≡ false → at_or_below after_both x.node 0 ≡ true
  unfolding hang
  reached_there c =
      let (iq, rq) = way_x y.parent ay.parent_named in
      let (im, rn) = way_x x.node (inr ax.node_known) in
      let (jq, bound, rq', first) = short named valid after_x iq y.parent rq in
      let avoids = free_avoids after_x y.node y.parent jq bound first (y_free c) in
      let (k, rk) = still_reaches named valid after_x size_x y.node y.parent
      (valid_node log y ay) (no_root log y ay) jq rq' avoids im x.node rn in
      reached named valid after_both k x.node rk

  -- the moves close a circle exactly if x's node then has no way to the root
  pub circle_is : circle parents x y ≡ not (at_or_below after_both x.node 0)
  circle_is = go (circle parents x y) refl
    where
      go : (b : Bool) → circle parents x y ≡ b → b ≡ not (at_or_below after_both x.node 0)
      go true c = rw (cut_there c)
      go false c = rw (reached_there c)
