-- What a batch promises, proved.
use Prim.Native.Nat.{ℕ, suc, ◌*◌, ◌≤◌}
use borrow.Author.Tests.{le-leb, leb-true, lt-leb}
use lib.Dec.{leb}
use lib.ListN.{drop, get_or, length, length-append, length-drop, take}
use lib.Seq.{get_or-set_same, length-take-le}
use mathlib.Core.Bool.{Bool, true, false, ◌&&◌}
use mathlib.Core.List.{List, [], ◌∷◌, ◌++◌, append-nil, foldl-append, map}
use mathlib.Core.Logic.{inl, inr}
use mathlib.Core.Path.{◌≡◌, refl, sym, ap, ◌∙◌}
use native.Mathlib.Nat.{le_refl}
use native.Mathlib.Omega.{arith}
use Rattle.lists.specs.Lists.{all, concat}
use Rattle.lists.proofs.BoolLaws.{and_left, and_right, and_false, never}
use Rattle.lists.proofs.ListLaws.{no_length}
use Rattle.rules.specs.Answer.{Answer, accepted, refused, require, unless_refused, if_accepted}
use Rattle.rules.specs.File.{chunks, counts_of, file_end, log_of, width}
use Rattle.rules.specs.Log.{known_parent}
use Rattle.rules.specs.Issue.{Issued, move, request_clear, request_known, request_unmarked, issued, issue_answer, issue_buffer, issue_out}
use Rattle.rules.specs.Op.{count_in}
use Rattle.rules.specs.Replay.{outcome_slot, outcomes_of, parents_of}
use Rattle.rules.specs.Tree.{at_or_below, slot}
use Rattle.rules.proofs.DeliverLaws.{if_not, required, accepted_same}
use Rattle.rules.proofs.FileLaws.{chunks_concat}
use Rattle.rules.proofs.TurnLaws.{OneLog}
use Rattle.batch_rules.specs.Batch.{batch_answer, batch_buffer, batch_fits, batch_out, most_moves, move_buffer, moves_answer, moves_buffer, moves_ops}
use Rattle.batch_rules.specs.Claims.{AppliedAtIssue, AsOneByOne, ByItsMoves, EmptyAccepted, OneByOne, ParentStays, RefusedLeaves, Tested, TooMany, WholeAtIssue, all_accepted, last_buffer, singly}
use Rattle.batch_rules.proofs.BatchLaws.{AllTaken, Settled, all_taken, count_after, issue_settled, moves_alike, no, ops_count, ops_wide, outcomes_after, slot_in, slot_there, taken_answer, taken_carried, taken_outcome, taken_parts, taken_tree, yes}
use Rattle.batch_rules.proofs.StayLaws.{taken_stays}

---- what an accepted batch has passed

pub passed : (f : List ℕ) (room s : ℕ) (ns : List ℕ) (p end : ℕ) → batch_answer width f room s ns p ≡ accepted end
    → Tested f room s ns × (moves_answer width f s ns p ≡ accepted end)
unfolding batch_answer batch_fits
passed f room s ns p end e =
    let a = required _ _ _ end e in
    let b = required _ _ _ end a.1 in
    let c = required _ _ _ end b.1 in (
      record {
        is_sound_so = a.0;
        few = leb-true _ _ (and_left (leb (length ns) most_moves) _ b.0);
        space = leb-true _ _ (and_right (leb (length ns) most_moves) _ b.0);
        is_replica_so = c.0;
      },
      c.1,
    )

pub on_to_moves : (f : List ℕ) (room s : ℕ) (ns : List ℕ) (p : ℕ) → Tested f room s ns
    → batch_answer width f room s ns p ≡ moves_answer width f s ns p
unfolding batch_answer batch_fits require
on_to_moves f room s ns p t =
    rw (t.is_sound_so, le-leb (length ns) most_moves t.few, le-leb (width * length ns) room t.space, t.is_replica_so)

---- one by one

-- room for an op, in the first bytes that are lent for some
first_room : (out : List ℕ) (k : ℕ) → width * suc k ≤ length out → length (take width out) ≡ width
first_room out k h = length-take-le width out (omega arith)

module _ (s p : ℕ) where
  single_buffer : (ns f out : List ℕ) → width * length ns ≤ length out → last_buffer f (singly f out s ns p) ≡ moves_buffer width f s ns p
  unfolding last_buffer singly moves_buffer move_buffer
  single_buffer [] f out h = refl
  single_buffer (n ∷ ns) f out h =
      rw (first_room out (length ns) h) (single_buffer ns (issue_buffer width f width s (move n p)) (drop width out)
      (rw length-drop (omega arith)))

  single_taken : (ns f out : List ℕ) → width * length ns ≤ length out → AllTaken f s ns p → all_accepted (singly f out s ns p) ≡ true
  unfolding all_accepted all singly move_buffer
  single_taken [] f out h t = refl
  single_taken (n ∷ ns) f out h t =
      rw (first_room out (length ns) h, t.0.1) (single_taken ns (issue_buffer width f width s (move n p)) (drop width out)
      (rw length-drop (omega arith)) t.1)

  taken_single : (ns f out : List ℕ) → width * length ns ≤ length out → all_accepted (singly f out s ns p) ≡ true → AllTaken f s ns p
  unfolding all_accepted all singly move_buffer
  taken_single [] f out h t = tt
  taken_single (n ∷ ns) f out h t =
      go refl (issue_settled f width s (move n p)) (rw (first_room out (length ns) h) at t)
      (taken_single ns (issue_buffer width f width s (move n p)) (drop width out) (rw length-drop (omega arith)))
    where
      next : List ℕ
      next = issue_buffer width f width s (move n p)

      rest : Bool
      rest = all_accepted (singly next (drop width out) s ns p)

      go : {a : Answer} → issue_answer width f width s (move n p) ≡ a → Settled a → (if_accepted a true false && rest) ≡ true
          → (rest ≡ true → AllTaken next s ns p) → AllTaken f s (n ∷ ns) p
      go q (no k) e ih = never e
      go q (yes m) e ih = ((m, q), ih e)

  single_out : (ns f out : List ℕ) → width * length ns ≤ length out → AllTaken f s ns p
      → concat (map (λ (x : Issued). x.out) (singly f out s ns p)) ≡ concat (moves_ops width f s ns p)
  unfolding singly concat moves_ops move_buffer issue_out
  single_out [] f out h t = refl
  single_out (n ∷ ns) f out h t =
      let none : drop width (take width out) ≡ [] = no_length _ (rw (length-drop, first_room out (length ns) h)) in
      rw (first_room out (length ns) h, t.0.1, none, append-nil)
      (ap (λ xs. issued (log_of width f) s (move n p) ++ xs) (single_out ns (issue_buffer width f width s (move n p)) (drop width out)
      (rw length-drop (omega arith)) t.1))

module _ (f out : List ℕ) (s : ℕ) (ns : List ℕ) (p end : ℕ) (e : batch_answer width f (length out) s ns p ≡ accepted end) where
  space : width * length ns ≤ length out
  space = (passed f (length out) s ns p end e).0.space

  pub taken : AllTaken f s ns p
  taken = all_taken ns f s p end (passed f (length out) s ns p end e).1

  pub batch_buffer_law : batch_buffer width f (length out) s ns p ≡ moves_buffer width f s ns p
  unfolding batch_buffer
  batch_buffer_law = rw e

  pub batch_ends : file_end width (batch_buffer width f (length out) s ns p) ≡ end
  batch_ends =
      rw batch_buffer_law (accepted_same _ end (sym (taken_answer ns f s p taken) ∙ (passed f (length out) s ns p end e).1))

  -- the ops, read from the lent bytes
  pub put_in : chunks width (length ns) (batch_out width f out s ns p) ≡ moves_ops width f s ns p
  unfolding batch_out
  put_in =
      rw (e, ← ops_count ns f s p)
      (chunks_concat width (moves_ops width f s ns p) (drop (width * length (moves_ops width f s ns p)) out) (ops_wide ns f s p taken))

  one_by_one : OneByOne f out s ns p end
  unfolding batch_out
  one_by_one = record {
    each = single_taken s p ns f out space taken;
    left = batch_buffer_law ∙ sym (single_buffer s p ns f out space);
    put = rw (e, single_out s p ns f out space taken);
    ends = batch_ends;
  }

pub as_one_by_one : AsOneByOne
as_one_by_one f out s ns p end e = one_by_one f out s ns p end e

---- the answer, by the moves

same_first : (x y : Issued) (xs ys : List Issued) → x ∷ xs ≡ y ∷ ys → (x ≡ y) × (xs ≡ ys)
same_first x y xs ys e = (cc, cc)

first_no : (s p : ℕ) (ns f out : List ℕ) → width * length ns ≤ length out → (before after : List Issued) (x : Issued) (k : ℕ)
    → singly f out s ns p ≡ before ++ (x ∷ after) → all_accepted before ≡ true → x.answer ≡ refused k
    → moves_answer width f s ns p ≡ refused k
unfolding singly moves_answer all_accepted all move_buffer unless_refused
first_no s p [] f out h [] after x k e b q = cc
first_no s p [] f out h (y ∷ before) after x k e b q = cc
first_no s p (n ∷ ns) f out h [] after x k e b q =
    let same = same_first _ x _ after (rw (first_room out (length ns) h) at e) in
    let a : issue_answer width f width s (move n p) ≡ refused k = ap (λ (y : Issued). y.answer) same.0 ∙ q in
    rw a
first_no s p (n ∷ ns) f out h (y ∷ before) after x k e b q =
    let same = same_first _ y _ (before ++ (x ∷ after)) (rw (first_room out (length ns) h) at e) in
    let a : issue_answer width f width s (move n p) ≡ y.answer = ap (λ (z : Issued). z.answer) same.0 in
    go a (issue_settled f width s (move n p)) (and_left (if_accepted y.answer true false) _ b)
    (first_no s p ns (issue_buffer width f width s (move n p)) (drop width out) (rw length-drop (omega arith)) before after x k same.1
    (and_right (if_accepted y.answer true false) _ b) q)
  where
    rest : Answer
    rest = moves_answer width (issue_buffer width f width s (move n p)) s ns p

    go : {a : Answer} → a ≡ y.answer → Settled a → if_accepted y.answer true false ≡ true → rest ≡ refused k
        → unless_refused a rest ≡ refused k
    go q (no j) t r = never (ap (λ a. if_accepted a true false) q ∙ t)
    go q (yes m) t r = r

pub by_its_moves : ByItsMoves
by_its_moves f out s ns p t = record {
  whole = λ e.
      on_to_moves f (length out) s ns p t ∙ taken_answer ns f s p (taken_single s p ns f out t.space e)
      ∙ rw (single_buffer s p ns f out t.space);
  first_refused = λ before after x k e b q.
      on_to_moves f (length out) s ns p t ∙ first_no s p ns f out t.space before after x k e b q;
}

---- at the moment of the issue

pub whole_at_issue : WholeAtIssue
whole_at_issue f out s ns p end e =
    ap (λ g. parents_of (log_of width g)) (batch_buffer_law f out s ns p end e) ∙ taken_tree ns f s p (taken f out s ns p end e)

-- a move that is accepted at g, and moves after it
module _ (g : List ℕ) (s n p m : ℕ) (e : issue_answer width g width s (move n p) ≡ accepted m) where
  abbrev at : ℕ
  at = outcome_slot (issued (log_of width g) s (move n p))

  at_once : get_or (outcomes_of (log_of width (move_buffer width g s n p))) at 0 ≡ 1
  at_once =
      ap (λ os. get_or os at 0) (outcomes_after g s n p m e)
      ∙ get_or-set_same (outcomes_of (log_of width g)) at 1 0 (slot_in g s n p m e)

  at_end : (ns : List ℕ) → AllTaken (move_buffer width g s n p) s ns p
      → get_or (outcomes_of (log_of width (moves_buffer width (move_buffer width g s n p) s ns p))) at 0 ≡ 1
  at_end ns t =
      let last : at ≤ slot s (count_in (counts_of (log_of width (move_buffer width g s n p))) s) =
      rw (slot_there g s n p m e, count_after g s n p m e) (le_refl _) in
      taken_outcome ns (move_buffer width g s n p) s p at t last ∙ at_once

pub applied_at_issue : AppliedAtIssue
unfolding moves_buffer move_buffer
applied_at_issue f out s before n after p end e =
    let ns : List ℕ = before ++ (n ∷ after) in
    let lent = space f out s ns p end e in
    let size = length-append before (n ∷ after) in
    let room : width * length before ≤ length out = omega arith in
    let first : length (take width out) ≡ width = length-take-le width out (omega arith) in
    let parts = taken_parts before (n ∷ after) f s p (taken f out s ns p end e) in
    let then : List ℕ = moves_buffer width f s before p in
    let (m, q) = parts.1.0 in
    let ended = batch_buffer_law f out s ns p end e ∙ foldl-append (λ g k. move_buffer width g s k p) f before (n ∷ after) in
    rw (single_buffer s p before f out room, first, ended) (at_once then s n p m q, at_end then s n p m q after parts.1.1)

pub parent_stays : ParentStays
unfolding request_known request_unmarked request_clear known_parent at_or_below
parent_stays f out s ns p end e =
    let t = taken f out s ns p end e in
    let is_sound_so = (passed f (length out) s ns p end e).0.is_sound_so in
    let c = taken_carried ns f s p is_sound_so t in
    let way = taken_stays ns f s p t in
    rw (batch_buffer_law f out s ns p end e) (record {
      way = way;
      known = λ n. rw (c.knows n, c.knows p);
      unmarked = λ n. rw (c.knows n, c.knows p);
      clear = λ n. rw way;
    })

---- refusals, and the empty batch

pub refused_leaves : RefusedLeaves
unfolding batch_buffer batch_out
refused_leaves f out s ns p e =
    (if_not (batch_answer width f (length out) s ns p) _ f e, if_not (batch_answer width f (length out) s ns p) _ out e)

pub empty_accepted : EmptyAccepted
unfolding batch_answer batch_fits batch_buffer batch_out moves_answer moves_buffer moves_ops require concat
empty_accepted f out s p a b = rw (a, le-leb (width * 0) (length out) (omega arith), b)

pub too_many : TooMany
unfolding batch_answer batch_fits require
too_many f out s ns p a (inl h) = rw (a, lt-leb (length ns) most_moves h)
too_many f out s ns p a (inr h) = rw (a, lt-leb (width * length ns) (length out) h, and_false)

---- the log and the buffer's length settle it

pub batch_alike : (f g : List ℕ) → OneLog width f g → (out : List ℕ) (s : ℕ) (ns : List ℕ) (p : ℕ)
    → (batch_answer width f (length out) s ns p ≡ batch_answer width g (length out) s ns p)
    × (batch_out width f out s ns p ≡ batch_out width g out s ns p)
unfolding batch_answer batch_out
batch_alike f g x out s ns p = let y = moves_alike s p ns f g x in (rw (x.first, x.second, y.0), rw (x.first, x.second, y.0, y.1))
