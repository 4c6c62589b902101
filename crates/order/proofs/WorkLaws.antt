-- What a line prints of a node, and what an issued op names, by what the held counts know.
use Prim.Native.Nat.{ℕ, ◌*◌, ◌+◌, ◌/◌, ◌<◌}
use borrow.Author.Tests.{not-true}
use mathlib.Core.Bool.{false, not, true, and-eq-true_iff}
use mathlib.Core.Path.{sym, ◌∙◌, ◌≡◌}
use native.Mathlib.Omega.{arith}
use Rattle.lists.proofs.BoolLaws.{never}
use Rattle.rules.proofs.IssueLaws.{bytes_node, bytes_parent}
use Rattle.rules.proofs.KnownLaws.{known_reads}
use Rattle.rules.proofs.StructureLaws.{GoodLog}
use Rattle.rules.specs.File.{Log, counts_of}
use Rattle.rules.specs.Issue.{Request, add, move, remove, issued, op_bytes, request_unmarked}
use Rattle.rules.specs.Listing.{line, line_of}
use Rattle.rules.specs.Marks.{is_marked, knowledge, marked}
use Rattle.rules.specs.Op.{count_in, is_remove, kind_of, node_number}
use Rattle.rules.specs.Replay.{parents_of}
use Rattle.rules.specs.Tree.{depth, move_kind}
use Rattle.order.specs.Claims.{WorkUnmarked}
use Rattle.order.proofs.RemoveLaws.{mark_is, unknown_unmarked}

module _ (log : Log) (good : GoodLog log) where
  pub marked_line : (n : ℕ) → line log (parents_of log) n ≡ line_of (depth (parents_of log) n) n (is_marked (knowledge log (counts_of log) n))
  unfolding line
  marked_line n = rw (mark_is log good n)

  -- a name that passed number 11
  passed : (n : ℕ) → not (is_marked (knowledge log (counts_of log) n)) ≡ true → marked log (counts_of log) n ≡ false
  passed n e = sym (mark_is log good n) ∙ not-true _ e

  module _ (s : ℕ) where
    -- the node of an add is new
    new_node : count_in (counts_of log) s < 255 → marked log (counts_of log) (node_number s (count_in (counts_of log) s + 1)) ≡ false
    unfolding node_number
    new_node c = unknown_unmarked log good _ (λ k.
        let h = (known_reads log (counts_of log) (256 * s + (count_in (counts_of log) s + 1)) k).0 in
        let is : (256 * s + (count_in (counts_of log) s + 1)) / 256 ≡ s = omega arith in
        let last = rw is at h.last in
        omega arith)

    pub issued_unmarked : (q : Request) → count_in (counts_of log) s < 255
        → request_unmarked log q ≡ true → is_remove (issued log s q) ≡ false → WorkUnmarked log (issued log s q)
    unfolding issued request_unmarked is_remove kind_of op_bytes
    issued_unmarked (add p) c u ne = record {
      node = rw (bytes_node 1 s (node_number s (count_in (counts_of log) s + 1)) p (counts_of log)) (new_node c);
      parent = rw (bytes_parent 1 s (node_number s (count_in (counts_of log) s + 1)) p (counts_of log)) (passed p u);
    }
    issued_unmarked (remove n) c u ne = never (sym ne)
    issued_unmarked (move n p) c u ne =
        let h = simp and-eq-true_iff at u in
        record {
          node = rw (bytes_node (move_kind (parents_of log) n p) s n p (counts_of log)) (passed n h.0);
          parent = rw (bytes_parent (move_kind (parents_of log) n p) s n p (counts_of log)) (passed p h.1);
        }
