-- One move of a batch, as the code meets it: its tests, its op and the tree after it.
use mathlib.Core.Path.{◌≡◌, sym, ◌∙◌}
use mathlib.Core.Bool.{true, false}
use mathlib.Core.List.{List, [], ◌++◌, append-nil}
use mathlib.Core.Logic.{inr}
use Prim.Native.Nat.{ℕ, ◌+◌, ◌-◌, ◌≤◌, ◌<◌}
use native.Mathlib.Omega.{arith}
use lib.Dec.{ltb}
use lib.ListN.{drop, length, length-drop, set}
use borrow.Author.Rules.{rules}
use borrow.Author.Tests.{le-leb, lt-leb}
use mathlib.Core.Bool.{and-eq-true_iff}
use Rattle.lists.proofs.BoolLaws.{tested}
use Rattle.lists.proofs.ListLaws.{no_length}
use Rattle.rules.specs.Answer.{Answer, accepted, refused, require}
use Rattle.rules.specs.File.{Log, counts_of, log_of, width}
use Rattle.rules.specs.Issue.{move, op_bytes, request_known, request_unmarked}
use Rattle.rules.specs.Op.{Vector, count_in}
use Rattle.rules.specs.Tree.{slot_of, slots}
use Rattle.rules.proofs.KnownLaws.{named_valid}
use Rattle.rules.proofs.SlotLaws.{slot_below}
use Rattle.codec.specs.Answers.{number_of}
use Rattle.codec.specs.Kind.{number}
use Rattle.codec.specs.declared.answer.Refusal.{Refusal}
use Rattle.codec.specs.declared.answer.Refusal.TheVariants.{Unknown, Exhausted, Marked}
use Rattle.delivery.specs.Adding.{room_test}
use Rattle.issue.specs.Issuing.{InTree, bytes_of, moved_in}
use Rattle.issue.specs.declared.draft.Draft.{Draft}
use Rattle.issue.specs.Issuing.{Drafted}
use Rattle.std.specs.Prelude.{Ok, Err}
use Rattle.issue.proofs.IssueCases.{drafted_names, known_small, passes}
use Rattle.batch.specs.declared.drafting.Batch.{Batch}
use Rattle.batch.specs.Planning.{Drawable, Next, Turn, drafted_in, next_by, put_next}

---- the tests 9, 7, 11 and 10

module _ (log : Log) (u : Vector) (t : List ℕ) (s n p : ℕ) where
  pub exhausted : ltb (count_in u s) 255 ≡ false → Err Exhausted ≡ drafted_in log u t s n p
  unfolding drafted_in
  exhausted e = rw e

  module _ (a : ltb (count_in u s) 255 ≡ true) where
    pub unknown : request_known log (move n p) ≡ false → Err Unknown ≡ drafted_in log u t s n p
    unfolding drafted_in
    unknown e = rw (a, e)

    module _ (b : request_known log (move n p) ≡ true) where
      pub marked : request_unmarked log (move n p) ≡ false → Err Marked ≡ drafted_in log u t s n p
      unfolding drafted_in
      marked e = rw (a, b, e)

      pub drafts : request_unmarked log (move n p) ≡ true → (r : Drafted) → r ≡ moved_in t n p → r ≡ drafted_in log u t s n p
      unfolding drafted_in
      drafts e r is = rw (a, b, e) is

pub in_tree : (t : List ℕ) → length t ≡ slots → (log : Log) (n p : ℕ) → request_known log (move n p) ≡ true → InTree t n
in_tree t h log n p e = record { size = h; small = known_small log n p e }

-- what a draft says
module _ (log : Log) (u : Vector) (t : List ℕ) (s n p : ℕ) (d : Draft) (e : drafted_in log u t s n p ≡ Ok d) where
  opened : (request_known log (move n p) ≡ true) × (moved_in t n p ≡ Ok d)
  unfolding drafted_in
  opened =
      let a = passes (ltb (count_in u s) 255) Exhausted _ d e in
      let b = passes (request_known log (move n p)) Unknown _ d a.1 in
      (b.0, (passes (request_unmarked log (move n p)) Marked _ d b.1).1)

  pub draft_moved : moved_in t n p ≡ Ok d
  draft_moved = opened.1

  pub draft_node : d.node ≡ n
  draft_node = (drafted_names t n p d draft_moved).0

  pub draft_parent : d.parent ≡ p
  draft_parent = (drafted_names t n p d draft_moved).1

  -- its node has a slot
  draft_slot : slot_of d.node < slots
  unfolding request_known
  draft_slot =
      let names = simp and-eq-true_iff at opened.0 in
      rw draft_node (slot_below n (named_valid log (counts_of log) n (inr names.0.0)))

---- number 8, and what a move leaves

pub hung : (t : List ℕ) (n p k : ℕ) → k ≡ slot_of n → set t k p ≡ set t (slot_of n) p
hung t n p k e = rw e

abbrev next : Answer → (tree op : List ℕ) → Next
next a t op = record { answer = a; tree = t; op = op }

module _ (size end : ℕ) (u : Vector) (s : ℕ) (t op : List ℕ) where
  pub no_room : (d : Draft) → end ≤ size → size - end < width → next (refused 8) t op ≡ put_next size end u s t op d
  unfolding put_next room_test require
  no_room d l h = rw (lt-leb (end + width) size (omega arith))

  pub put_there : (d : Draft) (k : ℕ) → k ≡ number d.kind → end ≤ size → width ≤ size - end → length op ≡ width → (tree bytes : List ℕ)
      → tree ≡ set t (slot_of d.node) d.parent → bytes ≡ op_bytes k s d.node d.parent u ++ drop 14 op
      → next (accepted (end + width)) tree bytes ≡ put_next size end u s t op d
  unfolding put_next room_test require
  put_there d k ek i h l tree bytes et eb =
      let none : drop 14 op ≡ [] = no_length _ (rw (length-drop, l)) in
      let b : bytes ≡ bytes_of s d u = eb ∙ rw (none, append-nil, ek) in
      rw (le-leb (end + width) size (omega arith), et, b)

  module _ (x : Drafted) where
    pub next_refused : (why : Refusal) → Err why ≡ x → next (refused (number_of why)) t op ≡ next_by size end u s t op x
    unfolding next_by
    next_refused why e = rw (← e)

    pub next_put : (d : Draft) → Ok d ≡ x → (y : Next) → y ≡ put_next size end u s t op d → y ≡ next_by size end u s t op x
    unfolding next_by
    next_put d e y h = rw (← e) h

pub drawable : (b : Batch) (end : ℕ) (t op : List ℕ) → Turn b end t op → (v : Vector) (n : ℕ) (d : Draft)
    → Ok d ≡ drafted_in (log_of width b.file.now) v t b.replica n b.parent → (size : ℕ) → size ≡ length b.file.now → Drawable t op d end size
drawable b end t op x v n d e size l = record {
  there = rw x.ground.size (draft_slot (log_of width b.file.now) v t b.replica n b.parent d (sym e));
  bytes = x.bytes;
  inside = rw l x.inside;
}

---- what the code of one move needs: search drafting
pub ruleset leaving = (hung, no_room, put_there, next_refused, next_put, drawable)

pub ruleset drafting = (rules, tested, exhausted, unknown, marked, drafts, in_tree, leaving)
