-- Some of a batch's moves, taken in turn: the log, the counts and the end they lead to, and the bytes that all of them leave.
use Prim.Native.Nat.{ℕ, suc, ◌+◌, ◌*◌, ◌-◌, ◌≤◌, ◌<◌}
use mathlib.Core.Path.{◌≡◌, refl, sym, ap, ◌∙◌}
use mathlib.Core.Bool.{true}
use mathlib.Core.List.{List, [], ◌∷◌, ◌++◌, append_assoc, append-nil}
use lib.ListN.{drop, get_or, length, set}
use lib.Seq.{get_or-set_same, set-get_or, set-set}
use native.Mathlib.Omega.{arith}
use Rattle.lists.proofs.ListLaws.{drop_past}
use Rattle.rules.specs.File.{Log, append, counts_of, file_end, header_counts, log_of, ops_of, width}
use Rattle.rules.specs.Issue.{move}
use Rattle.rules.specs.Op.{Op, count_in, is_replica, replica_of}
use Rattle.rules.proofs.DeliverLaws.{appended_front, appended_past}
use Rattle.rules.proofs.FileLaws.{InFront, length_log_of}
use Rattle.rules.proofs.IssueLaws.{issue_admitted}
use Rattle.rules.proofs.PutOutLaws.{issued_origin}
use Rattle.rules.proofs.ReplicaLaws.{replica_high, replica_low}
use Rattle.oplog.specs.Append.{append_all, appended_all}
use Rattle.oplog.proofs.InsertLaws.{counts_more}
use Rattle.batch_rules.specs.Batch.{move_buffer, moves_buffer, moves_ops}
use Rattle.batch_rules.proofs.BatchLaws.{AllTaken, after_end, after_is, after_log, count_after, ops_count}

---- the log

none_more : (log : Log) (s : ℕ) → append_all log s [] ≡ log
unfolding append_all ops_of
none_more log s = rw append-nil (set-get_or log (s - 1) [])

one_first : (log : Log) (r : Op) (s : ℕ) (ops : List Op) → replica_of r ≡ s → s - 1 < length log
    → append_all (append log r) s ops ≡ append_all log s (r ∷ ops)
unfolding append_all append ops_of
one_first log r s ops e h =
    rw (e, get_or-set_same log (s - 1) (get_or log (s - 1) [] ++ (r ∷ [])) [] h, set-set, append_assoc)

module _ (s p : ℕ) (is : is_replica s ≡ true) where
  taken_log : (ns f : List ℕ) → AllTaken f s ns p
      → log_of width (moves_buffer width f s ns p) ≡ append_all (log_of width f) s (moves_ops width f s ns p)
  unfolding moves_buffer moves_ops
  taken_log [] f t = sym (none_more (log_of width f) s)
  taken_log (n ∷ ns) f t =
      let (m, e) = t.0 in
      let h : s - 1 < length (log_of width f) = omega (arith, length_log_of width f, replica_low s is, replica_high s is) in
      taken_log ns (move_buffer width f s n p) t.1
      ∙ ap (λ log. append_all log s (moves_ops width (move_buffer width f s n p) s ns p)) (after_log f s n p m e)
      ∙ one_first (log_of width f) _ s _ (issued_origin (log_of width f) s (move n p)) h

  pub taken_counts : (ns f : List ℕ) → AllTaken f s ns p
      → counts_of (log_of width (moves_buffer width f s ns p)) ≡ set (header_counts f) (s - 1) (count_in (header_counts f) s + length ns)
  unfolding count_in
  taken_counts ns f t =
      rw (taken_log ns f t, counts_more width f s (replica_low s is) (replica_high s is) (moves_ops width f s ns p), ops_count ns f s p)

  pub taken_count : (ns f : List ℕ) → AllTaken f s ns p
      → count_in (counts_of (log_of width (moves_buffer width f s ns p))) s ≡ count_in (counts_of (log_of width f)) s + length ns
  unfolding moves_buffer
  taken_count [] f t = omega arith
  taken_count (n ∷ ns) f t =
      let (m, e) = t.0 in omega (arith, taken_count ns (move_buffer width f s n p) t.1, count_after f s n p m e)

  pub taken_end : (ns f : List ℕ) → AllTaken f s ns p → file_end width (moves_buffer width f s ns p) ≡ file_end width f + width * length ns
  unfolding moves_buffer
  taken_end [] f t = omega arith
  taken_end (n ∷ ns) f t =
      let (m, e) = t.0 in omega (arith, taken_end ns (move_buffer width f s n p) t.1, after_end f s n p m e)

  ---- the bytes

  taken_past : (ns f : List ℕ) → AllTaken f s ns p
      → drop (file_end width f + width * length ns) (moves_buffer width f s ns p) ≡ drop (file_end width f + width * length ns) f
  unfolding moves_buffer
  taken_past [] f t = refl
  taken_past (n ∷ ns) f t =
      let (m, e) = t.0 in
      let next : List ℕ = move_buffer width f s n p in
      let rest = taken_past ns next t.1 in
      let there : file_end width next + width * length ns ≡ file_end width f + width * suc (length ns) =
      omega (arith, after_end f s n p m e) in
      let first : drop (file_end width f + width) next ≡ drop (file_end width f + width) f =
      rw (after_is f s n p m e) (appended_past width f _ m (issue_admitted f width s (move n p) m e)) in
      (rw there at rest) ∙ drop_past next f (file_end width f + width) (file_end width f + width * suc (length ns)) (omega arith) first

  taken_front : (ns f : List ℕ) → AllTaken f s ns p → 1 ≤ length ns → InFront width (moves_buffer width f s ns p)
  unfolding moves_buffer
  taken_front [] f t h = absurd (omega arith)
  taken_front (n ∷ []) f t h =
      let (m, e) = t.0 in rw (after_is f s n p m e) (appended_front width f _ m (issue_admitted f width s (move n p) m e))
  taken_front (n ∷ k ∷ ns) f t h = taken_front (k ∷ ns) (move_buffer width f s n p) t.1 (omega arith)

  -- all moves leave what adding their ops in one go does
  pub taken_bytes : (ns f : List ℕ) → AllTaken f s ns p → 1 ≤ length ns
      → moves_buffer width f s ns p ≡ appended_all width f s (moves_ops width f s ns p)
  unfolding appended_all
  taken_bytes ns f t h =
      taken_front ns f t h ∙ rw (taken_end ns f t, taken_past ns f t, taken_log ns f t, ops_count ns f s p)
