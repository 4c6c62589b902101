-- Moves that are issued one after another: what each leaves, and what all of them do.
use Prim.Native.Nat.{ℕ, suc, ◌+◌, ◌≤◌, ◌<◌}
use lib.ListN.{get_or, length, set}
use lib.Seq.{get_or-set_other}
use borrow.Author.Tests.{not-true}
use mathlib.Core.Bool.{Bool, true, false}
use mathlib.Core.List.{List, [], ◌∷◌, ◌++◌, foldl}
use mathlib.Core.Path.{◌≡◌, refl, sym, ap, ◌∙◌}
use native.Mathlib.Omega.{arith}
use Rattle.rules.specs.Answer.{Answer, refused, accepted, require, unless_refused}
use Rattle.rules.specs.File.{Log, append, appended, counts_of, file_end, log_of, width}
use Rattle.rules.specs.Issue.{Request, move, issue_answer, issue_buffer, issued, request_clear}
use Rattle.rules.specs.Marks.{knowledge}
use Rattle.rules.specs.Op.{Op, count_in, is_move, node_of, parent_of, replica_of, vector_of}
use Rattle.rules.specs.Replay.{outcome_slot, outcomes_of, parents_of}
use Rattle.rules.specs.Sound.{sound}
use Rattle.rules.specs.Tree.{at_or_below, slot, slot_of}
use Rattle.rules.proofs.AppendLaws.{new_seq, own_count_law}
use Rattle.rules.proofs.DeliverLaws.{Admitted, appended_end, appended_length, appended_log, appended_sound}
use Rattle.rules.proofs.IssueLaws.{Allowed, allowed, bytes_node, bytes_parent, issue_admitted, issued_moves}
use Rattle.rules.proofs.PutOutLaws.{issued_origin, issued_vector}
use Rattle.rules.proofs.ReplicaLaws.{replica_high, replica_low}
use Rattle.rules.proofs.SoundLaws.{sound_good}
use Rattle.rules.proofs.StepLaws.{tables_full}
use Rattle.rules.proofs.StructureLaws.{GoodLog}
use Rattle.rules.proofs.TurnLaws.{OneLog, issue_alike, one_end}
use Rattle.rules.proofs.FileLaws.{Wide}
use Rattle.order.proofs.IssuedLaws.{knowledge_still, outcomes_moved, parents_moved}
use Rattle.batch_rules.specs.Batch.{move_buffer, moves_answer, moves_buffer, moves_ops}

---- an answer to an issue is a refusal or an acceptance

pub data Settled : Answer → Type 0 where
  no : (k : ℕ) → Settled (refused k)
  yes : (m : ℕ) → Settled (accepted m)

settles : (t : Bool) (k : ℕ) (a : Answer) → Settled a → Settled (require t k a)
unfolding require
settles true k a h = h
settles false k a h = no k

pub issue_settled : (f : List ℕ) (room s : ℕ) (q : Request) → Settled (issue_answer width f room s q)
unfolding issue_answer
issue_settled f room s q =
    settles _ _ _ (settles _ _ _ (settles _ _ _ (settles _ _ _ (settles _ _ _ (settles _ _ _ (settles _ _ _ (settles _ _ _ (yes _))))))))

---- a move that is accepted

module _ (f : List ℕ) (s n p m : ℕ) (e : issue_answer width f width s (move n p) ≡ accepted m) where
  abbrev log : Log
  log = log_of width f

  abbrev op : Op
  op = issued log s (move n p)

  abbrev after : List ℕ
  after = move_buffer width f s n p

  passes : Admitted width f op m
  passes = issue_admitted f width s (move n p) m e

  asked : Allowed width f width s (move n p) m
  asked = allowed width f width s (move n p) m e

  good : GoodLog log
  good = sound_good width f passes.is_sound_so

  pub after_is : after ≡ appended width f op
  unfolding move_buffer issue_buffer
  after_is = rw e

  pub after_log : log_of width after ≡ append log op
  after_log = rw after_is (appended_log width f op m passes)

  after_sound : sound width after ≡ true
  after_sound = rw after_is (appended_sound width f op m passes)

  after_length : length after ≡ length f
  after_length = rw after_is (appended_length width f op m passes)

  pub after_end : file_end width after ≡ file_end width f + width
  after_end = rw after_is (appended_end width f op m passes)

  vector : vector_of op ≡ counts_of log
  vector = issued_vector log good s (move n p)

  moves : is_move op ≡ true
  moves = issued_moves log s n p

  node : node_of op ≡ n
  unfolding issued
  node = bytes_node _ s n p (counts_of log)

  parent : parent_of op ≡ p
  unfolding issued
  parent = bytes_parent _ s n p (counts_of log)

  clear : at_or_below (parents_of log) (parent_of op) (node_of op) ≡ false
  unfolding request_clear
  clear = rw (node, parent) (not-true _ asked.clear)

  knows_after : (k : ℕ) → knowledge (log_of width after) (counts_of (log_of width after)) k ≡ knowledge log (counts_of log) k
  knows_after k = rw after_log (knowledge_still log good op passes.admits moves k)

  pub parents_after : parents_of (log_of width after) ≡ set (parents_of log) (slot_of n) p
  parents_after = ap parents_of after_log ∙ parents_moved log good op passes.admits vector moves clear ∙ rw (node, parent)

  pub outcomes_after : outcomes_of (log_of width after) ≡ set (outcomes_of log) (outcome_slot op) 1
  outcomes_after = ap outcomes_of after_log ∙ outcomes_moved log good op passes.admits vector moves clear

  origin : replica_of op ≡ s
  origin = issued_origin log s (move n p)

  -- the counts, and where the op's outcome stands
  pub count_after : count_in (counts_of (log_of width after)) s ≡ suc (count_in (counts_of log) s)
  count_after = rw after_log (rw origin at (own_count_law log op good passes.admits))

  pub slot_there : outcome_slot op ≡ slot s (suc (count_in (counts_of log) s))
  unfolding outcome_slot
  slot_there = rw (new_seq log op good passes.admits, origin)

  pub slot_in : outcome_slot op < length (outcomes_of log)
  unfolding outcomes_of slot
  slot_in =
      let low = replica_low s asked.is_replica_so in
      let high = replica_high s asked.is_replica_so in
      omega (arith, slot_there, asked.count, (tables_full log (counts_of log)).outcomes_full)

---- moves that are all accepted

abbrev pub AllTaken : (f : List ℕ) (s : ℕ) (ns : List ℕ) (p : ℕ) → Type 0
AllTaken f s [] p = Unit {0}
AllTaken f s (n ∷ ns) p = ((m : ℕ) × (issue_answer width f width s (move n p) ≡ accepted m)) × AllTaken (move_buffer width f s n p) s ns p

-- the answer, and back
pub all_taken : (ns : List ℕ) (f : List ℕ) (s p end : ℕ) → moves_answer width f s ns p ≡ accepted end → AllTaken f s ns p
unfolding moves_answer unless_refused
all_taken [] f s p end e = tt
all_taken (n ∷ ns) f s p end e =
    go refl (issue_settled f width s (move n p)) e (all_taken ns (move_buffer width f s n p) s p end)
  where
    rest : Answer
    rest = moves_answer width (move_buffer width f s n p) s ns p

    go : {a : Answer} → issue_answer width f width s (move n p) ≡ a → Settled a → unless_refused a rest ≡ accepted end
        → (rest ≡ accepted end → AllTaken (move_buffer width f s n p) s ns p) → AllTaken f s (n ∷ ns) p
    go q (no k) e ih = let z : ◌≡◌ {A = ℕ} 0 1 = cc in absurd (omega arith)
    go q (yes m) e ih = ((m, q), ih e)

pub taken_answer : (ns : List ℕ) (f : List ℕ) (s p : ℕ) → AllTaken f s ns p
    → moves_answer width f s ns p ≡ accepted (file_end width (moves_buffer width f s ns p))
unfolding moves_answer moves_buffer unless_refused
taken_answer [] f s p t = refl
taken_answer (n ∷ ns) f s p t = rw t.0.1 (taken_answer ns (move_buffer width f s n p) s p t.1)

-- in two parts, and back
pub taken_parts : (xs ys : List ℕ) (f : List ℕ) (s p : ℕ) → AllTaken f s (xs ++ ys) p
    → AllTaken f s xs p × AllTaken (moves_buffer width f s xs p) s ys p
unfolding moves_buffer
taken_parts [] ys f s p t = (tt, t)
taken_parts (x ∷ xs) ys f s p t =
    let parts = taken_parts xs ys (move_buffer width f s x p) s p t.1 in
    ((t.0, parts.0), parts.1)

pub taken_both : (xs ys : List ℕ) (f : List ℕ) (s p : ℕ) → AllTaken f s xs p → AllTaken (moves_buffer width f s xs p) s ys p
    → AllTaken f s (xs ++ ys) p
unfolding moves_buffer
taken_both [] ys f s p t r = r
taken_both (x ∷ xs) ys f s p t r = (t.0, taken_both xs ys (move_buffer width f s x p) s p t.1 r)

-- the answer to moves after some that are accepted
pub taken_first : (xs ys : List ℕ) (f : List ℕ) (s p : ℕ) → AllTaken f s xs p
    → moves_answer width f s (xs ++ ys) p ≡ moves_answer width (moves_buffer width f s xs p) s ys p
unfolding moves_answer moves_buffer unless_refused
taken_first [] ys f s p t = refl
taken_first (x ∷ xs) ys f s p t = rw t.0.1 (taken_first xs ys (move_buffer width f s x p) s p t.1)

-- what f still is in g, a buffer after some of the moves
pub record Carried (f g : List ℕ) : Type 0 where
  pub is_sound_so : sound width g ≡ true
  pub size : length g ≡ length f
  pub knows : (n : ℕ) → knowledge (log_of width g) (counts_of (log_of width g)) n ≡ knowledge (log_of width f) (counts_of (log_of width f)) n

pub taken_carried : (ns f : List ℕ) (s p : ℕ) → sound width f ≡ true → AllTaken f s ns p → Carried f (moves_buffer width f s ns p)
unfolding moves_buffer
taken_carried [] f s p a t = record { is_sound_so = a; size = refl; knows = λ n. refl }
taken_carried (n ∷ ns) f s p a t =
    let (m, e) = t.0 in
    let rest = taken_carried ns (move_buffer width f s n p) s p (after_sound f s n p m e) t.1 in
    record {
      is_sound_so = rest.is_sound_so;
      size = rest.size ∙ after_length f s n p m e;
      knows = λ k. rest.knows k ∙ knows_after f s n p m e k;
    }

-- the tree
pub taken_tree : (ns : List ℕ) (f : List ℕ) (s p : ℕ) → AllTaken f s ns p
    → parents_of (log_of width (moves_buffer width f s ns p)) ≡ foldl (λ t n. set t (slot_of n) p) (parents_of (log_of width f)) ns
unfolding moves_buffer
taken_tree [] f s p t = refl
taken_tree (n ∷ ns) f s p t =
    taken_tree ns (move_buffer width f s n p) s p t.1
    ∙ ap (λ tree. foldl (λ t n. set t (slot_of n) p) tree ns) (parents_after f s n p t.0.0 t.0.1)

-- the outcomes of the replica's ops before them stay
pub taken_outcome : (ns : List ℕ) (f : List ℕ) (s p i : ℕ) → AllTaken f s ns p → i ≤ slot s (count_in (counts_of (log_of width f)) s)
    → get_or (outcomes_of (log_of width (moves_buffer width f s ns p))) i 0 ≡ get_or (outcomes_of (log_of width f)) i 0
unfolding moves_buffer slot
taken_outcome [] f s p i t h = refl
taken_outcome (n ∷ ns) f s p i t h =
    let (m, e) = t.0 in
    let k : ℕ = outcome_slot (issued (log_of width f) s (move n p)) in
    taken_outcome ns (move_buffer width f s n p) s p i t.1 (omega (arith, count_after f s n p m e))
    ∙ ap (λ os. get_or os i 0) (outcomes_after f s n p m e)
    ∙ get_or-set_other (outcomes_of (log_of width f)) k i 1 0 (λ z. omega (arith, slot_there f s n p m e))

---- the ops

pub ops_count : (ns f : List ℕ) (s p : ℕ) → length (moves_ops width f s ns p) ≡ length ns
unfolding moves_ops
ops_count [] f s p = refl
ops_count (n ∷ ns) f s p = ap suc (ops_count ns (move_buffer width f s n p) s p)

pub ops_parts : (xs ys f : List ℕ) (s p : ℕ)
    → moves_ops width f s (xs ++ ys) p ≡ moves_ops width f s xs p ++ moves_ops width (moves_buffer width f s xs p) s ys p
unfolding moves_ops moves_buffer
ops_parts [] ys f s p = refl
ops_parts (x ∷ xs) ys f s p = ap (◌∷◌ (issued (log_of width f) s (move x p))) (ops_parts xs ys (move_buffer width f s x p) s p)

pub ops_wide : (ns f : List ℕ) (s p : ℕ) → AllTaken f s ns p → Wide width (moves_ops width f s ns p)
unfolding moves_ops
ops_wide [] f s p t = tt
ops_wide (n ∷ ns) f s p t =
    let (m, e) = t.0 in
    ((issue_admitted f width s (move n p) m e).long, ops_wide ns (move_buffer width f s n p) s p t.1)

---- the log and the buffer's length settle it

module _ (s p : ℕ) where
  move_alike : (f g : List ℕ) → OneLog width f g → (n : ℕ) → OneLog width (move_buffer width f s n p) (move_buffer width g s n p)
  unfolding move_buffer issue_buffer
  move_alike f g x n = go refl (issue_settled f width s (move n p))
    where
      go : {a : Answer} → issue_answer width f width s (move n p) ≡ a → Settled a
          → OneLog width (move_buffer width f s n p) (move_buffer width g s n p)
      go e (no k) = rw (← issue_alike width f g x width s (move n p), e) x
      go e (yes m) =
          let d = sym (issue_alike width f g x width s (move n p)) ∙ e in
          record {
            first = after_sound f s n p m e;
            second = after_sound g s n p m d;
            log = after_log f s n p m e ∙ ap (λ log. append log (issued log s (move n p))) x.log ∙ sym (after_log g s n p m d);
            size = after_length f s n p m e ∙ x.size ∙ sym (after_length g s n p m d);
          }

  pub moves_alike : (ns f g : List ℕ) → OneLog width f g
      → (moves_answer width f s ns p ≡ moves_answer width g s ns p) × (moves_ops width f s ns p ≡ moves_ops width g s ns p)
  unfolding moves_answer moves_ops
  moves_alike [] f g x = (ap accepted (one_end width f g x.log), refl)
  moves_alike (n ∷ ns) f g x =
      let rest = moves_alike ns (move_buffer width f s n p) (move_buffer width g s n p) (move_alike f g x n) in
      (rw (issue_alike width f g x width s (move n p), rest.0), rw (x.log, rest.1))
