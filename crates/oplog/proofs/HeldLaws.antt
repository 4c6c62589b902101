-- What a structurally sound file says of its ops, and of the vectors that it holds.
use mathlib.Core.Path.{◌≡◌}
use mathlib.Core.Bool.{true}
use mathlib.Core.List.{List}
use Prim.Native.Nat.{ℕ, ◌≤◌}
use native.Mathlib.Omega.{arith}
use native.Mathlib.Nat.{le_refl}
use Rattle.rules.specs.Op.{count_in, Vector}
use Rattle.rules.specs.File.{op_at, header_counts, log_of}
use Rattle.rules.specs.Log.{structural, closed}
use Rattle.rules.proofs.StructureLaws.{counts_closed, HeldOp, structural_good, laid_reads, good_ops, structural_laid}
use Rattle.rules.proofs.FileLaws.{counts_at, counts_log_of}
use Rattle.oplog.specs.Places.{InFile, Held}
use Rattle.oplog.proofs.FieldLaws.{counts_in}

module _ (w : ℕ) (f : List ℕ) where
  pub count_small : (v : Vector) → Held w f v → (s : ℕ) → 1 ≤ s → s ≤ 8 → count_in v s ≤ 255
  count_small v h s l u = omega (arith, h.each s l u, (laid_reads w f h.is_laid).counts s l u)

  module _ (e : structural w f ≡ true) where
    pub held_op : (s q : ℕ) → InFile w f s q → HeldOp (log_of w f) s q (op_at (log_of w f) s q)
    held_op s q x =
        good_ops (structural_good w f e) s q x.low x.high x.first (rw (counts_in w f s x.low x.high) x.last)

    -- the whole log is a cut
    pub whole_held : 14 ≤ w → Held w f (header_counts f)
    whole_held h = record { wide = h; is_laid = structural_laid w f e; each = λ s l u. rw (counts_at f s l u) (le_refl _) }

    pub whole_closed : closed (log_of w f) (header_counts f) ≡ true
    whole_closed = rw (counts_log_of w f) at (counts_closed (log_of w f) (structural_good w f e))
