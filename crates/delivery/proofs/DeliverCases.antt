-- The cases of delivering, as the code meets them.
use mathlib.Core.Path.{◌≡◌, sym, ap, ◌∙◌}
use mathlib.Core.Bool.{Bool, true, false, cond}
use mathlib.Core.List.{List}
use Prim.Native.Nat.{ℕ, ◌≤◌}
use native.Mathlib.Omega.{arith}
use lib.ListN.{length, take, drop}
use lib.Dec.{leb, eqb}
use borrow.Author.Rules.{rules}
use borrow.Author.Tests.{eq-eqb, leb-true}
use Rattle.rules.specs.Answer.{Answer, accepted, had_it, if_accepted, refused, require}
use Rattle.lists.specs.Lists.{same}
use Rattle.rules.specs.Deliver.{is_held, held_answer, admit_answer, deliver, deliver_answer, deliver_buffer}
use Rattle.rules.specs.Deliver.{Result as Handed}
use Rattle.std.specs.Prelude.{Ok, Err}
use Rattle.rules.specs.File.{width, appended, counts_of, header_counts, log_of, op_at, within}
use Rattle.rules.specs.Log.{closed, covered, names_known}
use Rattle.rules.specs.Op.{Vector, count_in, is_add, is_remove, is_replica, replica_of, seq_of, vector_of, well_formed}
use Rattle.rules.specs.Sound.{sound}
use Rattle.rules.proofs.AppendLaws.{replica_formed, seq_next, seq_positive}
use Rattle.rules.proofs.ReplicaLaws.{in_replicas}
use Rattle.lists.proofs.BoolLaws.{tested}
use Rattle.rules.proofs.DeliverLaws.{admitted}
use Rattle.rules.proofs.FileLaws.{counts_log_of}
use Rattle.rules.proofs.StructureLaws.{count_held}
use Rattle.oplog.specs.Places.{Held, InFile, place_of}
use Rattle.structure.specs.Tests.{names_by}
use Rattle.oplog.proofs.FieldLaws.{held_of, counts_in, op_is}
use Rattle.codec.specs.Answers.{number_of}
use Rattle.codec.specs.Read.{fields_of, read_of}
use Rattle.codec.specs.declared.answer.Refusal.{Refusal}
use Rattle.codec.specs.declared.answer.Refusal.TheVariants.{Length, Malformed}
use Rattle.codec.specs.declared.op.Fields.{Fields}
use Rattle.codec.proofs.ReadLaws.{reads}
use Rattle.delivery.specs.Adding.{last_test, room_test, Acceptable}
use Rattle.delivery.specs.Delivering.{names_in, Readable, Again, Fresh}
use Rattle.soundness.proofs.SoundCases.{laid_of, tallied}

-- what a call hands back
abbrev handed : Answer → (buffer : List ℕ) → Handed
handed a b = record { answer = a; buffer = b }

---- an op that reads

module _ (f op : List ℕ) (x : Fields) (d : Readable f op x) where
  replica_is : replica_of op ≡ x.replica
  replica_is = ap (λ (y : Fields). y.replica) d.fields

  sequence_is : seq_of op ≡ x.sequence
  sequence_is = ap (λ (y : Fields). y.sequence) d.fields

  pub replica_so : is_replica x.replica ≡ true
  replica_so = let i = replica_formed op d.formed in rw (← replica_is) (in_replicas _ i.0 i.1)

  -- what is left of the tests
  answer_by : deliver_answer width f op ≡ cond (is_held (log_of width f) op) (held_answer (log_of width f) op) (admit_answer width f op)
  unfolding deliver_answer require
  answer_by = rw (d.is_sound_so, eq-eqb (length op) width d.long, d.formed)

  -- u are the held counts
  module _ (u : Vector) (h : u ≡ header_counts f) where
    held_by : (b : Bool) → leb x.sequence (count_in u x.replica) ≡ b → is_held (log_of width f) op ≡ b
    unfolding is_held
    held_by b is = rw (replica_is, sequence_is, counts_log_of width f, ← h) is

    pub again : leb x.sequence (count_in u x.replica) ≡ true → Again f op x
    again is = record { reads = d; is_held_so = held_by true is }

    pub fresh : leb x.sequence (count_in u x.replica) ≡ false → Fresh f op x u
    fresh is = record { reads = d; tallied = tallied f d.is_sound_so u h; is_new = held_by false is }

  -- it may be added if it is accepted
  pub acceptable : (u : Vector) → u ≡ header_counts f → (n : ℕ) → accepted n ≡ deliver_answer width f op → Acceptable f u x.replica op
  acceptable u held n is =
      let t = admitted width f op n (sym is) in
      let m = t.admits in
      let i = replica_formed op m.formed in
      let q = seq_next (log_of width f) op i.0 i.1 m.new m.is_covered in
      record {
        is_sound_so = d.is_sound_so;
        held = held;
        is_replica_so = replica_so;
        count = rw (← replica_is) (omega (arith, i.2, q, count_held (log_of width f) (replica_of op)));
        origin = sym replica_is;
        long = d.long;
        room = t.room;
      }

---- an op whose sequence is held

module _ (f op : List ℕ) (x : Fields) (d : Again f op x) (s q : ℕ) (es : s ≡ x.replica) (eq : q ≡ x.sequence) where
  replica_as : replica_of op ≡ s
  replica_as = replica_is f op x d.reads ∙ sym es

  sequence_as : seq_of op ≡ q
  sequence_as = sequence_is f op x d.reads ∙ sym eq

  pub in_file : InFile width f s q
  unfolding is_held
  in_file =
      let i = replica_formed op d.reads.formed in
      let l : 1 ≤ s = rw (← replica_as) i.0 in
      let u : s ≤ 8 = rw (← replica_as) i.1 in
      let n : q ≤ count_in (counts_of (log_of width f)) s = rw (← replica_as, ← sequence_as) (leb-true _ _ d.is_held_so) in
      record {
        wide = omega arith;
        is_laid = laid_of f d.reads.is_sound_so;
        low = l;
        high = u;
        first = rw (← sequence_as) (seq_positive op);
        last = rw (← counts_in width f s l u) n;
      }

  -- r tells whether the bytes at its place are the op's
  module _ (at : ℕ) (is : at ≡ place_of width f s q) (r : Bool) (e : r ≡ same op (take (length op) (drop at f))) where
    compared : r ≡ same op (op_at (log_of width f) (replica_of op) (seq_of op))
    compared = e ∙ rw (d.reads.long, replica_as, sequence_as, is, ← op_is _ _ _ _ in_file)

    pub had_it_law : r ≡ true → had_it ≡ deliver_answer width f op
    unfolding held_answer require
    had_it_law h = sym (answer_by f op x d.reads ∙ rw (d.is_held_so, ← compared, h))

    pub conflict : r ≡ false → refused 4 ≡ deliver_answer width f op
    unfolding held_answer require
    conflict h = sym (answer_by f op x d.reads ∙ rw (d.is_held_so, ← compared, h))

---- an op that is new: the tests 5, 6, 7 and 8

-- number 7 by the fields
names_by_law : (f op : List ℕ) (x : Fields) → fields_of op ≡ x → names_known (log_of width f) op ≡ names_in (log_of width f) (vector_of op) x
unfolding names_known names_in names_by is_add is_remove
names_by_law f op x e = rw (← e)

module _ (f op : List ℕ) (x : Fields) (u : Vector) (d : Fresh f op x u) (v : Vector) (vector_is : v ≡ vector_of op) where
  new_by : deliver_answer width f op ≡ admit_answer width f op
  new_by = answer_by f op x d.reads ∙ rw d.is_new

  covered_by : (b : Bool) → within v u ≡ b → covered (log_of width f) (vector_of op) ≡ b
  unfolding covered
  covered_by b e = rw (← vector_is, ← d.tallied.counts) e

  pub early : within v u ≡ false → refused 5 ≡ deliver_answer width f op
  unfolding admit_answer require
  early e = sym (new_by ∙ rw (covered_by false e))

  module _ (a : within v u ≡ true) where
    pub held_within : Held width f v
    held_within =
        held_of _ _ _ (omega arith) (laid_of f d.reads.is_sound_so) (rw (← counts_log_of width f, ← d.tallied.counts) a)

    pub not_closed : closed (log_of width f) v ≡ false → refused 6 ≡ deliver_answer width f op
    unfolding admit_answer require
    not_closed e = sym (new_by ∙ rw (covered_by true a, ← vector_is, e))

    module _ (b : closed (log_of width f) v ≡ true) where
      names_as : names_known (log_of width f) op ≡ names_in (log_of width f) v x
      names_as = names_by_law f op x d.reads.fields ∙ rw (← vector_is)

      pub unknown : names_in (log_of width f) v x ≡ false → refused 7 ≡ deliver_answer width f op
      unfolding admit_answer require
      unknown e = sym (new_by ∙ rw (covered_by true a, names_as, ← vector_is, b, e))

      pub last : names_in (log_of width f) v x ≡ true → (r : Answer) → r ≡ last_test f → r ≡ deliver_answer width f op
      unfolding admit_answer last_test room_test require
      last k r e = e ∙ sym (new_by ∙ rw (covered_by true a, names_as, ← vector_is, b, k))

---- the whole

module _ (f op : List ℕ) where
  pub deliver_refused : (n : ℕ) → refused n ≡ deliver_answer width f op → handed (refused n) f ≡ deliver width f op
  unfolding deliver_buffer
  deliver_refused n is = rw (← is)

  pub deliver_had : had_it ≡ deliver_answer width f op → handed had_it f ≡ deliver width f op
  unfolding deliver_buffer
  deliver_had is = rw (← is)

  pub deliver_added : (n : ℕ) → accepted n ≡ deliver_answer width f op → (b : List ℕ) → b ≡ appended width f op
      → handed (accepted n) b ≡ deliver width f op
  unfolding deliver_buffer
  deliver_added n is b e = rw (← is, e)

  module _ (a : sound width f ≡ true) where
    pub readable : (x : Fields) → Ok x ≡ read_of width op → Readable f op x
    readable x e =
        let h = reads width op x (sym e) in
        record { is_sound_so = a; long = h.long; formed = h.formed; fields = h.fields }

    pub unread : (why : Refusal) → Err why ≡ read_of width op → handed (refused (number_of why)) f ≡ deliver width f op
    unfolding deliver_answer deliver_buffer require read_of
    unread why e = rw a (go (eqb (length op) width) (well_formed op) _ (sym e))
      where
        answered : Answer → Handed
        answered t = handed t (if_accepted t (appended width f op) f)

        -- l and w are the tests of length and form
        go :
            (l w : Bool) (next : Answer) → cond l (cond w (Ok (fields_of op)) (Err Malformed)) (Err Length) ≡ Err why →
            handed (refused (number_of why)) f ≡ answered (require l 2 (require w 3 next))
        go true true next z = cc
        go true false next z = let m : Malformed ≡ why = cc in rw (← m)
        go false w next z = let m : Length ≡ why = cc in rw (← m)

---- what the code of delivering needs: search delivering
pub ruleset readings = (replica_so, again, fresh, acceptable, readable, unread)

pub ruleset answers = (in_file, had_it_law, conflict, early, held_within, not_closed, unknown, last)

pub ruleset delivering = (rules, tested, readings, answers, deliver_refused, deliver_had, deliver_added)
