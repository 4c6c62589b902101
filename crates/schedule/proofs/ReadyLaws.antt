-- The ops that are ready, as the code has them.
use mathlib.Core.Path.{ap, ◌≡◌, sym, ◌∙◌}
use mathlib.Core.Bool.{Bool, true, false, cond}
use mathlib.Core.List.{List}
use Prim.Native.Nat.{ℕ, ◌+◌, ◌-◌, ◌≤◌, ◌<◌}
use native.Mathlib.Omega.{arith}
use native.Mathlib.Decide.{dec_lt}
use lib.ListN.{drop, get_or}
use borrow.Author.Tests.{lt-ltb, le-ltb}
use Rattle.rules.specs.Op.{count_in, vector_of, Vector}
use Rattle.rules.specs.File.{op_at, Log, log_of, within}
use Rattle.rules.proofs.FileLaws.{count_map}
use Rattle.oplog.specs.Places.{Held, InFile, place_of}
use Rattle.oplog.proofs.FieldLaws.{in_file_of, fields_at}
use Rattle.order.specs.Levels.{next_at, ready_ops, ready}
use Rattle.schedule.specs.Level.{HeldAt}

---- the next op of a replica

module _ (log : Log) (cut done : Vector) (s : ℕ) where
  pub next_none : get_or cut (s - 1) 0 ≤ get_or done (s - 1) 0 → 0 ≡ next_at log cut done s
  unfolding next_at ready count_in
  next_none h = rw (le-ltb (get_or done (s - 1) 0) (get_or cut (s - 1) 0) h)

  next_some : get_or done (s - 1) 0 < get_or cut (s - 1) 0
      → next_at log cut done s ≡ cond (within (vector_of (op_at log s (get_or done (s - 1) 0 + 1))) done) (get_or done (s - 1) 0 + 1) 0
  unfolding next_at ready count_in
  next_some h = rw (lt-ltb (get_or done (s - 1) 0) (get_or cut (s - 1) 0) h)

-- n ops of the replica are done, and the cut has more
module _ (w : ℕ) (f : List ℕ) (cut : Vector) (s : ℕ) (x : HeldAt w f cut s) (n : ℕ) (h : n < get_or cut (s - 1) 0) where
  module _ (q : ℕ) (is : q ≡ n + 1) where
    pub next_in_file : InFile w f s q
    unfolding count_in
    next_in_file = in_file_of w f cut x.held s q x.replica.low x.replica.high (omega arith) (omega arith)

    module _ (at : ℕ) (e : at ≡ place_of w f s q) (v : Vector) (hv : v ≡ vector_of (drop at f)) where
      vector_so : v ≡ vector_of (op_at (log_of w f) s (n + 1))
      vector_so = hv ∙ sym (fields_at w f s q next_in_file at e).vector ∙ ap (λ (k : ℕ). vector_of (op_at (log_of w f) s k)) is

      module _ (done : Vector) (b : Bool) (hb : b ≡ within v done) (hn : n ≡ get_or done (s - 1) 0) where
        pub next_ready : b ≡ true → n + 1 ≡ next_at (log_of w f) cut done s
        next_ready t = sym (next_some (log_of w f) cut done s (omega arith) ∙ rw (← hn, ← vector_so, ← hb, t))

        pub next_waits : b ≡ false → 0 ≡ next_at (log_of w f) cut done s
        next_waits t = sym (next_some (log_of w f) cut done s (omega arith) ∙ rw (← hn, ← vector_so, ← hb, t))

-- a file that holds a cut holds what is ready
pub next_held : (w : ℕ) (f : List ℕ) (cut done : Vector) → Held w f cut → Held w f (ready_ops (log_of w f) cut done)
unfolding ready_ops count_in
next_held w f cut done h = record {
  wide = h.wide;
  is_laid = h.is_laid;
  each = λ s l u. rw (count_map (next_at (log_of w f) cut done) s l u) (elim (dec_lt (count_in done s) (count_in cut s)) [
    | yes y ↦ rw (next_some (log_of w f) cut done s y) (go (within (vector_of (op_at (log_of w f) s (count_in done s + 1))) done)
        (omega (arith, h.each s l u)))
    | no n ↦ rw (← next_none (log_of w f) cut done s (omega arith)) (omega arith)
  ]);
}
  where
    go : {a m : ℕ} (b : Bool) → a ≤ m → cond b a 0 ≤ m
    go true h = h
    go false h = omega arith

---- what the code that looks for a next op needs
pub ruleset readying = (next_in_file, next_none, next_ready, next_waits)
