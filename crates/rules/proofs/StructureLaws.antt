-- Laws of structural soundness: what it says of a file, and of every op of its log.
use Prim.Native.Nat.{zero, ℕ, ◌≤◌, ◌-◌, ◌<◌, ◌+◌, suc}
use mathlib.Core.List.{List, ◌∷◌, ◌++◌, append_assoc, []}
use lib.ListN.{length, get_or-map, get_or, length-append}
use mathlib.Core.Path.{◌≡◌, ◌∙◌}
use mathlib.Core.Bool.{true, and-eq-true_iff, false, or-true}
use native.Mathlib.Omega.{arith}
use borrow.Author.Tests.{leb-true, eqb-true, le-leb, eq-eqb, eqb-false}
use lib.Dec.{eqb, leb}
use native.Mathlib.Nat.{le_refl, not-suc-le-zero, add-zero, add-suc, suc-add, le_of_suc-le-suc}
use Rattle.rules.specs.File.{Log, op_at, counts_of, within, count_at, ops_of, start_at, log_of, start_of, file_end, header_counts, file_of}
use Rattle.rules.specs.Log.{closed, covered, sound_ops, closed_at, sound_op, laid, structural, sound_header, sound_log, names_known}
use Rattle.rules.specs.Op.{count_in, Op, Vector, replica_of, seq_of, well_formed, vector_of}
use Rattle.lists.specs.Lists.{concat}
use Rattle.rules.proofs.ReplicaLaws.{all_replicas, replica_passes}
use Rattle.lists.proofs.BoolLaws.{and_both, and_left, or_under, and_right}
use Rattle.rules.proofs.FileLaws.{length_log_of, counts_log_of, counts_at, WideLog, file_counts, header_starts, file_end_law, length_file, end_header, log_of_file_of}

-- what a right layout says
pub record Laid (w : ℕ) (f : List ℕ) : Type 0 where
  pub header : 32 ≤ length f
  pub counts : (s : ℕ) → 1 ≤ s → s ≤ 8 → count_at f s ≤ 255
  pub starts : (s : ℕ) → 1 ≤ s → s ≤ 8 → start_at f s ≡ start_of w (header_counts f) s
  pub fits : file_end w f ≤ length f

-- an op that is its replica's number q and passes the tests for numbers 3, 5, 6 and 7
pub record HeldOp (log : Log) (s q : ℕ) (r : Op) : Type 0 where
  pub origin : replica_of r ≡ s
  pub number : seq_of r ≡ q
  pub formed : well_formed r ≡ true
  pub is_covered : covered log (vector_of r) ≡ true
  pub is_closed : closed log (vector_of r) ≡ true
  pub names : names_known log r ≡ true

abbrev pub HeldOps : Log → Type 0
HeldOps log = (s q : ℕ) → 1 ≤ s → s ≤ 8 → 1 ≤ q → q ≤ count_in (counts_of log) s → HeldOp log s q (op_at log s q)

-- a log that a structurally sound file can hold
pub record GoodLog (log : Log) : Type 0 where
  pub eight : length log ≡ 8
  pub counts : (s : ℕ) → 1 ≤ s → s ≤ 8 → count_in (counts_of log) s ≤ 255
  pub ops : (s : ℕ) → 1 ≤ s → s ≤ 8 → sound_ops log s 1 (ops_of log s) ≡ true

---- from bytes to facts and back

module _ (w : ℕ) (f : List ℕ) where
  pub laid_reads : laid w f ≡ true → Laid w f
  unfolding laid sound_header
  laid_reads e =
      let h = simp and-eq-true_iff at e in
      let entry = replica_passes _ h.0.1 in
      record {
        header = leb-true _ _ h.0.0;
        counts = λ s l u. leb-true _ _ (and_left (leb (count_at f s) 255) _ (entry s l u));
        starts = λ s l u. eqb-true _ _ (and_right (leb (count_at f s) 255) _ (entry s l u));
        fits = leb-true _ _ h.1;
      }

  laid_of : Laid w f → laid w f ≡ true
  unfolding laid sound_header
  laid_of h =
      and_both
      (and_both (le-leb _ _ h.header)
      (all_replicas _ (λ s l u. and_both (le-leb _ _ (h.counts s l u)) (eq-eqb _ _ (h.starts s l u)))))
      (le-leb _ _ h.fits)

  pub structural_laid : structural w f ≡ true → laid w f ≡ true
  unfolding structural
  structural_laid e = and_left (laid w f) _ e

  pub structural_good : structural w f ≡ true → GoodLog (log_of w f)
  unfolding structural sound_log
  structural_good e =
      let h = laid_reads (structural_laid e) in
      record {
        eight = length_log_of w f;
        counts = λ s l u. rw (counts_log_of w f, counts_at f s l u) (h.counts s l u);
        ops = replica_passes _ (and_right (laid w f) _ e);
      }

  structural_of : Laid w f → GoodLog (log_of w f) → structural w f ≡ true
  unfolding structural sound_log
  structural_of h g = and_both (laid_of h) (all_replicas _ g.ops)

---- every op

pub count_held : (log : Log) (s : ℕ) → count_in (counts_of log) s ≡ length (ops_of log s)
unfolding count_in counts_of ops_of
count_held log s = get_or-map length log (s - 1) []

sound_ops_at : (log : Log) (s q : ℕ) (rs : List Op) (i : ℕ) → sound_ops log s q rs ≡ true → i < length rs
    → sound_op log s (q + i) (get_or rs i []) ≡ true
unfolding sound_ops
sound_ops_at log s q [] i e h = absurd (not-suc-le-zero h)
sound_ops_at log s q (r ∷ rs) zero e h = rw (add-zero q) (and_left (sound_op log s q r) _ e)
sound_ops_at log s q (r ∷ rs) (suc i) e h =
    rw (add-suc, ← suc-add) (sound_ops_at log s (suc q) rs i (and_right (sound_op log s q r) _ e) (le_of_suc-le-suc h))

pub sound_held : (log : Log) (s q : ℕ) (r : Op) → sound_op log s q r ≡ true → HeldOp log s q r
unfolding sound_op
sound_held log s q r e =
    let t = simp and-eq-true_iff at e in
    record {
      origin = eqb-true _ _ t.0.0.0.0.0;
      number = eqb-true _ _ t.0.0.0.0.1;
      formed = t.0.0.0.1;
      is_covered = t.0.0.1;
      is_closed = t.0.1;
      names = t.1;
    }

pub good_ops : {log : Log} → GoodLog log → HeldOps log
unfolding op_at
good_ops {log} g s q l u lq uq =
    let i : q - 1 < length (ops_of log s) = omega (arith, count_held log s) in
    let e : 1 + (q - 1) ≡ q = omega arith in
    sound_held log s q _ (rw e at (sound_ops_at log s 1 (ops_of log s) (q - 1) (g.ops s l u) i))

pub held_in : (log : Log) (v : Vector) → covered log v ≡ true → (s : ℕ) → 1 ≤ s → s ≤ 8 → count_in v s ≤ count_in (counts_of log) s
unfolding covered within
held_in log v c s l u = leb-true _ _ (replica_passes (λ t. leb (count_in v t) (count_in (counts_of log) t)) c s l u)

---- the whole log as a cut

pub counts_covered : (log : Log) → covered log (counts_of log) ≡ true
unfolding covered within
counts_covered log = all_replicas _ (λ s l u. le-leb (count_in (counts_of log) s) _ (le_refl _))

pub counts_closed : (log : Log) → GoodLog log → closed log (counts_of log) ≡ true
unfolding closed closed_at covered
counts_closed log g =
    all_replicas (closed_at log (counts_of log)) (λ s l u.
    or_under (eqb (count_in (counts_of log) s) 0) _ true (λ (z : eqb (count_in (counts_of log) s) 0 ≡ false).
    (good_ops g s (count_in (counts_of log) s) l u (omega (arith, eqb-false (count_in (counts_of log) s) 0 z)) (le_refl _)).is_covered)
    ∙ or-true (eqb (count_in (counts_of log) s) 0))

---- the file of a good log

module _ (w : ℕ) (log : Log) (t : List ℕ) (g : GoodLog log) (wide : WideLog w log) where
  starts : (s : ℕ) → 1 ≤ s → s ≤ 8 → start_at (file_of w log ++ t) s ≡ start_of w (counts_of log) s
  unfolding file_of
  starts s l u = rw append_assoc (header_starts w (counts_of log) (concat (concat log) ++ t) s l u)

  pub file_structural : structural w (file_of w log ++ t) ≡ true
  file_structural =
      let size : length (file_of w log ++ t) ≡ length (file_of w log) + length t = length-append (file_of w log) t in
      let c = file_counts w log t g.eight in
      let e = file_end_law w log t g.eight in
      let n = length_file w log wide in
      structural_of w (file_of w log ++ t) (record {
        header = omega (arith, end_header w (counts_of log));
        counts = λ s l u. rw (← counts_at (file_of w log ++ t) s l u, c) (g.counts s l u);
        starts = λ s l u. rw c (starts s l u);
        fits = omega arith;
      }) (rw (log_of_file_of w log t g.eight wide) g)
