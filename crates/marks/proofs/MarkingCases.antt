-- The returns and turns of marking, as the code meets them.
use Prim.Native.Nat.{ℕ, ◌-◌, ◌≤◌, ◌<◌}
use borrow.Author.Rules.{rules}
use borrow.Author.Tests.{ne_eqb}
use lib.ListN.{drop, length, length-replicate, replicate, set, take}
use mathlib.Core.List.{List, ◌++◌, foldl}
use mathlib.Core.Bool.{true}
use mathlib.Core.Path.{ap, refl, sym, ◌∙◌, ◌≡◌}
use Rattle.rules.specs.File.{file_end, header_counts, log_of, start_of, width}
use Rattle.rules.specs.Op.{is_remove, kind_of, node_of}
use Rattle.rules.specs.Sound.{sound}
use Rattle.rules.specs.Tree.{slots}
use Rattle.rules.proofs.FileLaws.{end_header}
use Rattle.rules.proofs.SoundLaws.{sound_laid}
use Rattle.soundness.proofs.SoundCases.{end_asks}
use Rattle.oplog.proofs.BodyLaws.{bodies_all, bodies_of, none_in, one_more}
use Rattle.oplog.proofs.HeaderLaws.{end_is}
use Rattle.tree.specs.Slots.{slot_in}
use Rattle.marks.specs.Marking.{Markable, mark, marks_of, no_marks}

---- an op; c is the kind that the code has read

module _ (r t : List ℕ) (c : ℕ) (ec : c ≡ kind_of r) where
  -- k is the slot of the node that it names
  pub mark_remove : c ≡ 2 → (n : ℕ) → n ≡ node_of r → (k : ℕ) → k ≡ slot_in n → set t k 1 ≡ mark t r
  unfolding mark is_remove
  mark_remove e n en k ek = rw (sym ec ∙ e, ek, en)

  pub mark_other : (c ≡ 2 → ⊥) → t ≡ mark t r
  unfolding mark is_remove
  mark_other h = rw (ne_eqb (kind_of r) 2 (λ e. h (ec ∙ e)))

---- all ops

-- a table of zeros, to be filled
pub fresh_marks : (f : List ℕ) → sound width f ≡ true → Markable f (replicate slots 0)
unfolding no_marks
fresh_marks f a = record { is_sound_so = a; unmarked = refl }

pub unmarked_size : (f t : List ℕ) → Markable f t → length t ≡ slots
unfolding no_marks
unmarked_size f t a = ap length a.unmarked ∙ length-replicate {A = ℕ} slots 0

-- where the bodies lie
module _ (f t : List ℕ) (a : Markable f t) (end : ℕ) (is : end ≡ start_of width (header_counts f) 9) where
  pub bodies_start : 32 ≤ end
  unfolding file_end
  bodies_start = rw (is, end_is width f) (end_header width (header_counts f))

  pub bodies_end : end ≤ length f
  bodies_end = rw (is, end_is width f) (sound_laid width f a.is_sound_so).fits

-- the ops before the rest of the bodies have had their effect
pub record Marking (f t rest : List ℕ) (size : ℕ) : Type 0 where
  pub marks_size : length t ≡ slots
  pub wide : size ≡ width
  pub left : marks_of (log_of width f) ≡ foldl mark t (bodies_of rest)

pub marking_starts : (f t : List ℕ) → Markable f t → (end : ℕ) → end ≡ start_of width (header_counts f) 9
    → (rest : List ℕ) → rest ≡ take (end - 32) (drop 32 f) → (size : ℕ) → size ≡ width → Marking f t rest size
unfolding marks_of
marking_starts f t a end is rest e size w = record {
  marks_size = unmarked_size f t a;
  wide = w;
  left = rw (a.unmarked, e, bodies_all f (sound_laid width f a.is_sound_so).fits end (is ∙ end_is width f));
}

module _ (f t rest : List ℕ) (size : ℕ) (x : Marking f t rest size) where
  pub marking_ends : length rest < size → t ≡ marks_of (log_of width f)
  marking_ends h = sym (x.left ∙ ap (foldl mark t) (none_in rest (rw x.wide at h)))

  pub marking_on : (r later : List ℕ) → rest ≡ r ++ later → length r ≡ size → (t' : List ℕ) → length t' ≡ length t → t' ≡ mark t r
      → (next : ℕ) → next ≡ size → Marking f t' later next
  marking_on r later e h t' l is next w = record {
    marks_size = l ∙ x.marks_size;
    wide = w ∙ x.wide;
    left = x.left ∙ ap (foldl mark t) (one_more rest r later e (h ∙ x.wide)) ∙ rw is;
  }

---- what the code of marking needs: search marking
pub ruleset marking = (rules, mark_remove, mark_other, end_asks, bodies_start, bodies_end, marking_starts, marking_on, marking_ends)
