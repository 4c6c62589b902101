-- Replaying a cut, as the code has it.
use mathlib.Core.Path.{◌≡◌}
use mathlib.Core.Bool.{true}
use mathlib.Core.List.{List}
use Prim.Native.Nat.{ℕ, ◌≤◌}
use lib.ListN.{length}
use Rattle.lists.proofs.EachLaws.{each_at}
use Rattle.rules.specs.Op.{Vector}
use Rattle.rules.specs.File.{log_of, header_counts}
use Rattle.rules.specs.Log.{structural, sound_header}
use Rattle.rules.specs.Replay.{State, outcomes_of, parents_of, replay, start}
use Rattle.rules.proofs.FileLaws.{counts_log_of}
use Rattle.rules.proofs.StructureLaws.{laid_reads, structural_laid}
use Rattle.oplog.proofs.HeaderLaws.{laid_header}
use Rattle.oplog.proofs.HeldLaws.{whole_held, whole_closed}
use Rattle.tree.specs.Slots.{InSlot}
use Rattle.schedule.specs.declared.entries.Entry.{Entry}
use Rattle.schedule.specs.Schedule.{scheduled}
use Rattle.schedule.specs.Level.{SchedulableCut}
use Rattle.schedule.proofs.OrderLaws.{entries_are, entries_in_slots}
use Rattle.replay.specs.Tables.{Along, applied_along}

---- a cut

module _ (w : ℕ) (f : List ℕ) (cut : Vector) (x : SchedulableCut w f cut) where
  pub along_asks : (es : List Entry) → es ≡ scheduled (log_of w f) cut → Along w f es
  along_asks es is = record {
    is_structural = x.is_structural;
    in_slots = λ k d h. each_at (λ (e : Entry). InSlot w f e.slot) es d k (rw is (entries_in_slots w f cut x.is_structural x.held)) h;
  }

  pub replayed : (es : List Entry) → es ≡ scheduled (log_of w f) cut → (first : State) → first ≡ start → (after : State)
      → after ≡ applied_along (log_of w f) es first → after ≡ replay (log_of w f) cut
  unfolding applied_along replay
  replayed es is first e after h = rw (h, e, is, entries_are w f cut x.is_structural x.held)

---- the cut at the held counts

module _ (w : ℕ) (f : List ℕ) (e : structural w f ≡ true) where
  pub whole_header : 32 ≤ length f
  whole_header = (laid_reads w f (structural_laid w f e)).header

  pub whole_sound : sound_header w f ≡ true
  whole_sound = laid_header w f (structural_laid w f e)

module _ (w : ℕ) (f : List ℕ) (cut : Vector) (is : cut ≡ header_counts f) where
  pub whole_asks : structural w f ≡ true → 14 ≤ w → SchedulableCut w f cut
  whole_asks e h = record { is_structural = e; held = rw is (whole_held w f e h); is_closed = rw is (whole_closed w f e) }

  module _ (st : State) (h : st ≡ replay (log_of w f) cut) where
    pub whole_parents : st.parents ≡ parents_of (log_of w f)
    unfolding parents_of
    whole_parents = rw (h, is, ← counts_log_of w f)

    pub whole_outcomes : st.outcomes ≡ outcomes_of (log_of w f)
    unfolding outcomes_of
    whole_outcomes = rw (h, is, ← counts_log_of w f)
