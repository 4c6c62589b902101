-- A batch at a sound log, as the code meets it: it is planned, added to the log and put out.
use mathlib.Core.Path.{◌≡◌, sym, ap, ◌∙◌}
use mathlib.Core.Bool.{true, false}
use mathlib.Core.List.{List, [], ◌++◌, append-nil}
use Prim.Native.Nat.{ℕ, ◌+◌, ◌*◌, ◌≤◌}
use native.Mathlib.Omega.{arith}
use lib.ListN.{drop, length, length-replicate, length-take, replicate, take}
use lib.Seq.{take_all}
use borrow.Author.Rules.{rules}
use Rattle.lists.specs.Lists.{concat}
use Rattle.lists.proofs.BoolLaws.{tested}
use Rattle.lists.proofs.ListLaws.{no_length}
use Rattle.rules.specs.Answer.{Answer, accepted}
use Rattle.rules.specs.File.{chunks, count_at, header_counts, log_of, start_of, width}
use Rattle.rules.specs.Op.{Op, Vector}
use Rattle.rules.specs.Replay.{parents_of}
use Rattle.rules.proofs.FileLaws.{chunks_concat, concat_chunks, length_chunks}
use Rattle.rules.proofs.ReplicaLaws.{replica_high, replica_low}
use Rattle.rules.proofs.SoundLaws.{sound_good, sound_laid, sound_structural}
use Rattle.codec.specs.Asked.{is_accepted}
use Rattle.codec.proofs.AnswerLaws.{accepted_with, if_accepted_law, if_not_accepted}
use Rattle.oplog.specs.Append.{Appendable, appended_all}
use Rattle.oplog.proofs.FieldLaws.{counts_in}
use Rattle.oplog.proofs.HeaderLaws.{end_is}
use Rattle.soundness.proofs.SoundCases.{laid_of, tallied}
use Rattle.issue.proofs.IssueCases.{handed}
use Rattle.marks.specs.Marking.{marks_of}
use Rattle.marks.proofs.MarkingCases.{fresh_marks}
use Rattle.batch_rules.specs.Batch.{batch_answer, batch_buffer, batch_out, moves_buffer, moves_ops}
use Rattle.batch_rules.specs.Claims.{Tested}
use Rattle.batch_rules.proofs.BatchLaws.{AllTaken, all_taken, ops_count, ops_wide, taken_carried}
use Rattle.batch_rules.proofs.BatchTheorem.{empty_accepted, on_to_moves}
use Rattle.batch.specs.declared.drafting.Batch.{Batch}
use Rattle.batch.specs.Planning.{Plannable, Planned, Prepared}
use Rattle.batch.specs.Putting.{Puttable, SomeMoves, with_ops}
use Rattle.batch.proofs.TakenLaws.{taken_bytes, taken_count, taken_end}
use Rattle.batch_rules.specs.Batch as rules

---- planning, with the counts, the marks and the tree of the log

pub prepared : (b : Batch) (ns ops : List ℕ) → Plannable b.file.now b.replica ns ops → b.held ≡ header_counts b.file.now
    → b.marks.now ≡ marks_of (log_of width b.file.now) → (t : List ℕ) → t ≡ parents_of (log_of width b.file.now) → Prepared b t ns ops
prepared b ns ops x eu em t et = record {
  plannable = x;
  marked = record { tallied = tallied b.file.now x.is_sound_so b.held eu; marks_are = em };
  tree = et;
}

---- adding n ops and putting them out; k is the replica, widened

module _ (f : List ℕ) (s : ℕ) (ops : List ℕ) (n : ℕ) (out : List ℕ) (x : Puttable f s ops n out) where
  pub put_asks : (u : Vector) → u ≡ header_counts f → (k : ℕ) → k ≡ s → Appendable width f u k ops n
  put_asks u eu k ek =
      let l = replica_low s x.is_replica_so in
      let h = replica_high s x.is_replica_so in
      let below : count_at f s + n ≤ 255 = rw (← counts_in width f s l h) x.below in
      record {
        wide = omega arith;
        narrow = omega arith;
        is_laid = laid_of f x.is_sound_so;
        held = eu;
        low = omega arith;
        high = omega arith;
        below = rw ek below;
        long = x.bytes;
        room = x.room;
      }

  pub put_both : (k : ℕ) → k ≡ s → (b o : List ℕ) → b ≡ appended_all width f k (chunks width n ops) → o ≡ ops ++ drop (length ops) out
      → (b, o) ≡ with_ops f out s (chunks width n ops)
  put_both k ek b o eb eo =
      let all : concat (chunks width n ops) ≡ ops = concat_chunks width n ops ∙ take_all (width * n) ops (omega (arith, x.bytes)) in
      rw (eb, eo, ek, length_chunks width n ops, all, x.bytes)

---- a batch of some moves; a is the answer of planning

module _ (f : List ℕ) (s : ℕ) (ns ops out : List ℕ) (x : SomeMoves f s ns ops out) (p : ℕ) where
  pub some_asks : Plannable f s ns ops
  some_asks = record {
    is_sound_so = x.tested.is_sound_so;
    is_replica_so = x.tested.is_replica_so;
    few = x.tested.few;
    bytes = x.bytes;
  }

  module _ (a : Answer) (written : List ℕ) (y : Planned f s ns p a written) where
    answer_is : batch_answer width f (length out) s ns p ≡ a
    answer_is = on_to_moves f (length out) s ns p x.tested ∙ sym y.answered

    pub none_issued : is_accepted a ≡ false → handed a f out ≡ rules.issue_moves width f out s ns p
    unfolding batch_buffer batch_out
    none_issued h =
        rw (
          answer_is,
          if_not_accepted (moves_buffer width f s ns p) f a h,
          if_not_accepted (concat (moves_ops width f s ns p) ++ drop (width * length ns) out) out a h,
        )

    module _ (h : is_accepted a ≡ true) where
      took : AllTaken f s ns p
      took = let (end, e) = accepted_with a h in all_taken ns f s p end (sym y.answered ∙ e)

      ops_are : written ≡ concat (moves_ops width f s ns p)
      ops_are = y.written h

      pub puttable : length written ≡ length ops → (n : ℕ) → n ≡ length ns → Puttable f s written n out
      puttable l n en =
          let is = x.tested.is_replica_so in
          let last = taken_carried ns f s p x.tested.is_sound_so took in
          let g : List ℕ = moves_buffer width f s ns p in
          let below = (sound_good width g last.is_sound_so).counts s (replica_low s is) (replica_high s is) in
          let fits = (sound_laid width g last.is_sound_so).fits in
          record {
            is_sound_so = x.tested.is_sound_so;
            is_replica_so = is;
            below = omega (arith, taken_count s p is ns f took);
            bytes = rw en (l ∙ x.bytes);
            room = omega (arith, taken_end s p is ns f took, last.size);
            space = omega (arith, x.tested.space);
          }

      pub all_issued : (n : ℕ) → n ≡ length ns → (b o : List ℕ) → (b, o) ≡ with_ops f out s (chunks width n written)
          → handed a b o ≡ rules.issue_moves width f out s ns p
      unfolding batch_buffer batch_out
      all_issued n en b o e =
          let rs : List Op = moves_ops width f s ns p in
          let m : n ≡ length rs = en ∙ sym (ops_count ns f s p) in
          let same : chunks width n written ≡ rs =
          rw (m, ops_are, ← append-nil (concat rs)) (chunks_concat width rs [] (ops_wide ns f s p took)) in
          let last : List ℕ × List ℕ = (moves_buffer width f s ns p, concat rs ++ drop (width * length ns) out) in
          let grown = taken_bytes s p x.tested.is_replica_so ns f took x.some in
          let both : with_ops f out s (chunks width n written) ≡ last = rw (same, ops_count ns f s p, grown) in
          rw (
            answer_is,
            if_accepted_law (moves_buffer width f s ns p) f a h,
            if_accepted_law (concat rs ++ drop (width * length ns) out) out a h,
          ) (ap (λ (z : List ℕ × List ℕ). handed a z.0 z.1) (e ∙ both))

---- an empty batch, and one of some moves

module _ (f out : List ℕ) (s : ℕ) (ns : List ℕ) (x : Tested f (length out) s ns) where
  pub empty_issued : (p n : ℕ) → n ≡ length ns → n ≡ 0 → (e : ℕ) → e ≡ start_of width (header_counts f) 9
      → handed (accepted e) f out ≡ rules.issue_moves width f out s ns p
  empty_issued p n en z e ee =
      let none : ns ≡ [] = no_length ns (sym en ∙ z) in
      rw (none, ee ∙ end_is width f) (sym (empty_accepted f out s p x.is_sound_so x.is_replica_so))

  pub some_issued : (n : ℕ) → n ≡ length ns → (n ≡ 0 → ⊥) → SomeMoves f s ns (take (width * n) (replicate 224 0)) out
  some_issued n en nz = record {
    tested = x;
    some = omega arith;
    bytes = simp (length-take, length-replicate) (omega (arith, x.few));
  }

  pub ops_small : (n : ℕ) → n ≡ length ns → n ≤ 16
  ops_small n en = rw en x.few

---- what the code of putting needs: search putting
pub ruleset putting = (
  rules,
  tested,
  prepared,
  fresh_marks,
  sound_structural,
  put_asks,
  put_both,
  some_asks,
  none_issued,
  puttable,
  all_issued,
  empty_issued,
  some_issued,
  ops_small,
)
