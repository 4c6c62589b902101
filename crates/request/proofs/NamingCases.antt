-- The tests of what a request names, as the code meets them.
use mathlib.Core.Path.{◌≡◌}
use mathlib.Core.Bool.{Bool, true, false, not}
use mathlib.Core.List.{List}
use Prim.Native.Nat.{ℕ}
use lib.Dec.{eqb}
use borrow.Author.Rules.{rules}
use Rattle.lists.proofs.BoolLaws.{tested}
use Rattle.rules.specs.File.{Log, counts_of, log_of, width}
use Rattle.rules.specs.Issue.{move, request_known, request_unmarked}
use Rattle.rules.specs.Log.{known_parent}
use Rattle.rules.specs.Marks.{is_known, is_marked, knowledge}
use Rattle.rules.specs.Op.{Vector}
use Rattle.rules.proofs.KnownLaws.{Known}
use Rattle.soundness.proofs.SoundCases.{tallied_held}
use Rattle.marks.specs.Knowing.{MarkedLog, knowledge_of}
use Rattle.marks.specs.Marking.{marks_of}
use Rattle.soundness.specs.Asked.{Tallied}
use Rattle.marks.specs.declared.knowing.Knowledge.{Knowledge}
use Rattle.marks.proofs.MarkingCases.{fresh_marks}
use Rattle.request.specs.Requests.{request_of}
use Rattle.request.specs.declared.request.Request.TheVariants.{Add, Remove, Move}
use Rattle.request.specs.declared.request.Request as code
use Rattle.marks.specs.declared.knowing.Knowledge.TheVariants as marks

---- number 7; v are the held counts

module _ (log : Log) (q : code.Request) (r : Bool) where
  module _ (v : Vector) (is : v ≡ counts_of log) where
    pub add_known : (p : ℕ) → q ≡ Add p → r ≡ known_parent log v p → r ≡ request_known log (request_of q)
    unfolding request_known
    add_known p e h = rw (e, ← is) h

    pub remove_known : (n : ℕ) → q ≡ Remove n → r ≡ is_known (knowledge log v n) → r ≡ request_known log (request_of q)
    unfolding request_known
    remove_known n e h = rw (e, ← is) h

  pub move_known : (n p : ℕ) → q ≡ Move n p → r ≡ request_known log (move n p) → r ≡ request_known log (request_of q)
  move_known n p e h = rw e h

module _ (log : Log) (v : Vector) (is : v ≡ counts_of log) (n p : ℕ) where
  pub node_unknown : is_known (knowledge log v n) ≡ false → false ≡ request_known log (move n p)
  unfolding request_known
  node_unknown e = rw (← is, e)

  module _ (a : Known log v n) where
    pub parent_unknown : known_parent log v p ≡ false → false ≡ request_known log (move n p)
    unfolding request_known
    parent_unknown e = rw (← is, a, e)

    pub both_known : known_parent log v p ≡ true → not (eqb p n) ≡ request_known log (move n p)
    unfolding request_known
    both_known e = rw (← is, a, e)

---- number 11

-- k is what the held counts know of a node
module _ (log : Log) (v : Vector) (n : ℕ) (k : Knowledge) (is : knowledge_of k ≡ knowledge log v n) where
  pub work_unknown : k ≡ marks.Unknown → true ≡ not (is_marked (knowledge log v n))
  unfolding is_marked
  work_unknown e = rw (← is, e)

  pub work_unmarked : k ≡ marks.KnownUnmarked → true ≡ not (is_marked (knowledge log v n))
  unfolding is_marked
  work_unmarked e = rw (← is, e)

  pub work_marked : k ≡ marks.KnownMarked → false ≡ not (is_marked (knowledge log v n))
  unfolding is_marked
  work_marked e = rw (← is, e)

module _ (log : Log) (v : Vector) (is : v ≡ counts_of log) (n p : ℕ) where
  pub node_marked : not (is_marked (knowledge log v n)) ≡ false → false ≡ request_unmarked log (move n p)
  unfolding request_unmarked
  node_marked e = rw (← is, e)

  pub move_works : not (is_marked (knowledge log v n)) ≡ true → (r : Bool) → r ≡ not (is_marked (knowledge log v p))
      → r ≡ request_unmarked log (move n p)
  unfolding request_unmarked
  move_works e r h = rw (← is, e) h

module _ (log : Log) (q : code.Request) where
  pub remove_unmarked : (n : ℕ) → q ≡ Remove n → true ≡ request_unmarked log (request_of q)
  unfolding request_unmarked
  remove_unmarked n e = rw e

  module _ (r : Bool) where
    pub add_unmarked : (v : Vector) → v ≡ counts_of log → (p : ℕ) → q ≡ Add p → r ≡ not (is_marked (knowledge log v p))
        → r ≡ request_unmarked log (request_of q)
    unfolding request_unmarked
    add_unmarked v is p e h = rw (e, ← is) h

    pub move_unmarked : (n p : ℕ) → q ≡ Move n p → r ≡ request_unmarked log (move n p) → r ≡ request_unmarked log (request_of q)
    move_unmarked n p e h = rw e h

pub marked_log : (f : List ℕ) (u : Vector) → Tallied f u → (m : List ℕ) → m ≡ marks_of (log_of width f) → MarkedLog f u m
marked_log f u t m e = record { tallied = t; marks_are = e }

---- what the code of naming needs: search naming
pub ruleset knowing = (add_known, remove_known, move_known, node_unknown, parent_unknown, both_known)

pub ruleset works = (work_unknown, work_unmarked, work_marked, node_marked, move_works)

pub ruleset unmarking = (fresh_marks, marked_log, works, add_unmarked, remove_unmarked, move_unmarked)

pub ruleset naming = (rules, tested, tallied_held, knowing, unmarking)
