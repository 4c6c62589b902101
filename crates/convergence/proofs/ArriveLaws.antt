-- Two ops that two replicas issued from one log come to one buffer, in either order.
use Prim.Native.Nat.{ℕ, ◌+◌, ◌*◌, ◌≤◌}
use borrow.Author.Tests.{le-leb, lt-leb, lt-ltb}
use lib.ListN.{length}
use mathlib.Core.Bool.{Bool, true, false, ◌||◌, or_assoc, or_comm}
use mathlib.Core.List.{List, [], ◌∷◌, ◌++◌}
use mathlib.Core.Path.{◌≡◌, refl, sym, ap, ◌∙◌}
use native.Mathlib.Omega.{arith}
use Rattle.convergence.proofs.HasLaws.{has_append, has_last}
use Rattle.convergence.proofs.TrackLaws.{tracks_append, tracks_listed, tracks_log}
use Rattle.convergence.specs.Clash.{Arrives, OnlyAdded}
use Rattle.convergence.specs.Exchange.{Call, issue, deliver, answer, buffer_after, has}
use Rattle.rules.proofs.AppendLaws.{Admits, extends, extends_refl, good_append, in_range, ops_other, own_next}
use Rattle.rules.proofs.DeliverLaws.{Admitted, admitted, appended_log, appended_end, appended_length, appended_sound}
use Rattle.rules.proofs.IssueLaws.{allowed, issue_admitted}
use Rattle.rules.proofs.SoundLaws.{sound_good}
use Rattle.rules.proofs.StructureLaws.{GoodLog, count_held, good_ops}
use Rattle.rules.specs.Answer.{accepted, require}
use Rattle.lists.specs.Lists.{any, concat, same}
use Rattle.rules.specs.Deliver.{is_held, deliver_answer, deliver_buffer}
use Rattle.rules.specs.Issue.{Request, issued, issue_answer, issue_buffer}
use Rattle.rules.specs.File.{Log, log_of, width, counts_of, file_end, append, appended, Extends}
use Rattle.rules.specs.Op.{Op, count_in, replica_of, seq_of}
use Rattle.rules.proofs.PutOutLaws.{NextOp}
use Rattle.rules.specs.Sound.{sound}

---- a call that adds an op to a buffer

pub record AddsOp (b : List ℕ) (r : Op) (c : Call) : Type 0 where
  pub taken : answer b c ≡ accepted (file_end width b + width)
  pub admitted_there : Admitted width b r (file_end width b + width)
  pub grown : buffer_after b c ≡ appended width b r

delivery_adds : (b : List ℕ) (r : Op) → deliver_answer width b r ≡ accepted (file_end width b + width) → AddsOp b r (deliver r)
unfolding answer buffer_after deliver_buffer
delivery_adds b r e = record { taken = e; admitted_there = admitted width b r _ e; grown = rw e }

-- a request that was accepted at f is so wherever f's log lies and there is room
module _ (f b out : List ℕ) (s : ℕ) (q : Request) (n : ℕ) (ok : issue_answer width f (length out) s q ≡ accepted n)
    (is_sound_so : sound width b ≡ true) (one_log : log_of width b ≡ log_of width f) (fits : file_end width b + width ≤ length b) where
  again : issue_answer width b (length out) s q ≡ accepted (file_end width b + width)
  unfolding issue_answer require
  again =
      let a = allowed width f (length out) s q n ok in
      let space = le-leb width (length out) a.space in
      rw (is_sound_so, one_log, space, a.is_replica_so, lt-ltb _ 255 a.count, a.names, a.is_unmarked, a.clear, le-leb _ _ fits)

  pub issue_adds : AddsOp b (issued (log_of width f) s q) (issue out s q)
  unfolding answer buffer_after issue_buffer
  issue_adds =
      rw (← one_log) (record { taken = again; admitted_there = issue_admitted b (length out) s q _ again; grown = rw again })

-- an op that was issued at f is accepted wherever f's log lies and there is room
module _ (f b : List ℕ) (s : ℕ) (r : Op) (back : NextOp (log_of width f) s r)
    (is_sound_so : sound width b ≡ true) (one_log : log_of width b ≡ log_of width f) (fits : file_end width b + width ≤ length b) where
  new_there : is_held (log_of width f) r ≡ false
  unfolding is_held
  new_there =
      lt-leb (seq_of r) (count_in (counts_of (log_of width f)) (replica_of r)) (rw (back.origin, back.sequence) (omega arith))

  pub op_adds : AddsOp b r (deliver r)
  op_adds =
      delivery_adds b r (back.accepted_by b is_sound_so (rw one_log (extends_refl (log_of width f)))
      (rw one_log new_there) fits)

---- what is added

pub none_added : (f b : List ℕ) → sound width b ≡ true → log_of width b ≡ log_of width f → OnlyAdded f b []
none_added f b is_sound_so one_log = record { is_sound_so = is_sound_so; ops = λ z. rw one_log refl }

-- one op more
module _ (f b : List ℕ) (new : List Op) (only : OnlyAdded f b new) (r : Op) (n : ℕ) (h : Admitted width b r n) where
  or_turn : (a c d : Bool) → ((a || d) || c) ≡ ((a || c) || d)
  or_turn a c d = or_assoc a d c ∙ ap (λ t. a || t) (or_comm d c) ∙ sym (or_assoc a c d)

  more_ops : (z : Op) → has (concat (log_of width (appended width b r))) z ≡ has ((new ++ (r ∷ [])) ++ concat (log_of width f)) z
  more_ops z =
      let log : Log = log_of width b in
      let good = sound_good width b h.is_sound_so in
      let good_then = good_append log r good h.admits in
      let range = in_range log r good h.admits in
      let listed = tracks_append log r good.eight range.0 range.1 (own_next log r good h.admits) (concat log)
      (tracks_log log good) in
      rw (
        appended_log width b r n h,
        tracks_listed (append log r) (good_ops good_then) good_then.eight z (concat log ++ (r ∷ [])) listed,
        has_last (concat log) r z,
        only.ops z,
        has_append new (concat (log_of width f)) z,
        has_append (new ++ (r ∷ [])) (concat (log_of width f)) z,
        has_last new r z,
      ) (or_turn (has new z) (same z r) (has (concat (log_of width f)) z))

  pub one_more : OnlyAdded f (appended width b r) (new ++ (r ∷ []))
  one_more = record { is_sound_so = appended_sound width b r n h; ops = more_ops }

---- one op and then the other

module _ (f : List ℕ) (good : GoodLog (log_of width f)) (s s' : ℕ) (r r' : Op)
    (back : NextOp (log_of width f) s r) (back' : NextOp (log_of width f) s' r')
    (low' : 1 ≤ s') (apart : s ≡ s' → ⊥) (b : List ℕ) (one_log : log_of width b ≡ log_of width f) where
  abbrev log : Log
  log = log_of width f

  -- it came by a call
  module _ (one : Call) (adds : AddsOp b r one) (fits : file_end width b + 2 * width ≤ length b) where
    abbrev end : ℕ
    end = file_end width b + width

    abbrev then : List ℕ
    then = appended width b r

    came : Admitted width b r end
    came = adds.admitted_there

    admits : Admits log r
    admits = rw one_log at came.admits

    then_log : log_of width then ≡ append log r
    then_log = appended_log width b r end came ∙ ap (λ t. append t r) one_log

    holds : Extends log (append log r)
    holds = extends log r good admits

    new : is_held (append log r) r' ≡ false
    unfolding is_held
    new =
        let i = in_range log r good admits in
        let same_ops = ops_other log r good.eight i.0 i.1 s' low' (λ e. apart (sym (e ∙ back.origin))) in
        lt-leb (seq_of r') (count_in (counts_of (append log r)) (replica_of r')) (rw (back'.origin, back'.sequence)
        (omega (arith, count_held log s', count_held (append log r) s', ap length same_ops)))

    next : AddsOp then r' (deliver r')
    next =
        let e = appended_end width b r end came in
        let n = appended_length width b r end came in
        delivery_adds then r'
        (back'.accepted_by then (appended_sound width b r end came) (rw then_log holds) (rw then_log new) (omega arith))

    both : OnlyAdded f (appended width then r') (r ∷ r' ∷ [])
    both =
        let first = one_more f b [] (none_added f b came.is_sound_so one_log) r end came in
        one_more f then (r ∷ []) first r' _ next.admitted_there

    -- and the other is delivered after it
    pub arrives : Arrives f b r r' one (deliver r')
    arrives =
        let new_end : file_end width then + width ≡ file_end width b + 2 * width = omega (arith, appended_end width b r end came) in
        record {
          one_accepted = adds.taken;
          next_accepted = rw adds.grown (next.taken ∙ ap accepted new_end);
          both_added = rw (adds.grown, next.grown) both;
        }

-- which of the two is named first does not matter
has_swap : (r r' : Op) (ops : List Op) (z : Op) → has (r ∷ r' ∷ ops) z ≡ has (r' ∷ r ∷ ops) z
unfolding has any
has_swap r r' ops z =
    let a : Bool = same z r in
    let b : Bool = same z r' in
    sym (or_assoc a b (has ops z)) ∙ ap (λ t. t || has ops z) (or_comm a b) ∙ or_assoc b a (has ops z)

pub arrives_back : (f b : List ℕ) (r r' : Op) (one next : Call) → Arrives f b r' r one next → Arrives f b r r' one next
arrives_back f b r r' one next a = record {
  one_accepted = a.one_accepted;
  next_accepted = a.next_accepted;
  both_added = record {
    is_sound_so = a.both_added.is_sound_so;
    ops = λ z. a.both_added.ops z ∙ has_swap r' r (concat (log_of width f)) z;
  };
}
