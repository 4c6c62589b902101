-- The cases of issuing, as the code meets them.
use mathlib.Core.Path.{◌≡◌, refl, sym, ap, ◌∙◌}
use mathlib.Core.Bool.{Bool, true, false, cond, not, and-eq-true_iff}
use mathlib.Core.List.{List, ◌++◌}
use Prim.Native.Nat.{ℕ, ◌+◌, ◌<◌}
use native.Mathlib.Omega.{arith}
use lib.ListN.{length, take, drop}
use lib.Seq.{take_at}
use lib.Dec.{ltb}
use borrow.Author.Rules.{rules}
use borrow.Author.Tests.{ltb-true, le-leb}
use Rattle.rules.specs.Answer.{Answer, accepted, refused, require}
use Rattle.rules.specs.Bytes.{word}
use Rattle.rules.specs.Issue.{Request, add, remove, move, Issued, issue_answer, issue_buffer, issue_out, issued, op_bytes, request_clear, request_known, request_unmarked}
use Rattle.rules.specs.Tree.{move_kind, at_or_below, depth}
use Rattle.rules.specs.File.{Log, width, appended, counts_of, header_counts, log_of}
use Rattle.rules.specs.Op.{Vector, count_in, is_replica, node_number, replica_of}
use Rattle.rules.specs.Replay.{parents_of}
use Rattle.rules.specs.Sound.{sound}
use Rattle.lists.proofs.BoolLaws.{tested}
use Rattle.rules.proofs.FileLaws.{counts_log_of, length_counts}
use Rattle.rules.proofs.KnownLaws.{known_reads}
use Rattle.rules.proofs.SoundLaws.{sound_structural}
use Rattle.codec.specs.Answers.{number_of}
use Rattle.codec.specs.Kind.{number}
use Rattle.codec.specs.declared.kind.Kind.{Kind}
use Rattle.codec.specs.declared.answer.Refusal.{Refusal}
use Rattle.codec.specs.declared.answer.Refusal.TheVariants.{Unknown, Exhausted, Cycle, Marked}
use Rattle.delivery.specs.Adding.{last_test, room_test, Acceptable}
use Rattle.issue.specs.Issuing.{Drafted, bytes_of, moved_kind, moved_in, cleared_op, drafted, with_op, put_out, Lent, Ready, Writable, KnownRequest}
use Rattle.issue.specs.declared.draft.Draft.{Draft}
use Rattle.std.specs.Prelude.{Ok, Err, None, Some}
use Rattle.tree.specs.Climb.{move_or_cycle}
use Rattle.request.specs.Requests.{request_of}
use Rattle.request.specs.declared.request.Request.TheVariants.{Add, Remove, Move}
use Rattle.soundness.proofs.SoundCases.{header_of, tallied_held, tallied}
use Rattle.delivery.proofs.AddCases.{has_room}
use Rattle.rules.specs.Issue as rules
use Rattle.request.specs.declared.request.Request as code
use Rattle.codec.specs.declared.kind.Kind.TheVariants as kind

-- what a call hands back
abbrev pub handed : Answer → (buffer out : List ℕ) → Issued
handed a b o = record { answer = a; buffer = b; out = o }

---- number 10, and the op

-- a known node is no more than 2,303
pub known_small : (log : Log) (n p : ℕ) → request_known log (move n p) ≡ true → n < 65535
unfolding request_known
known_small log n p e =
    let h = simp and-eq-true_iff at e in
    let w = (known_reads log (counts_of log) n h.0.0).0 in
    omega (arith, w.high)

-- a number is of one kind
number_one : (x y : Kind) → number x ≡ number y → x ≡ y
number_one kind.Add kind.Add e = refl
number_one kind.Remove kind.Remove e = refl
number_one kind.Upward kind.Upward e = refl
number_one kind.Downward kind.Downward e = refl
number_one x y e = absurd (omega arith)

abbrev move_draft : (k : Kind) (n p : ℕ) → Draft
move_draft k n p = record { kind = k; node = n; parent = p }

-- the kind of a move, by its number
module _ (t : List ℕ) (n p : ℕ) where
  pub number_moved : number (moved_kind t n p) ≡ move_kind t n p
  unfolding moved_kind move_kind
  number_moved = go (ltb (depth t p) (depth t n))
    where
      go : (b : Bool) → number (cond b kind.Upward kind.Downward) ≡ cond b 3 4
      go true = refl
      go false = refl

  pub move_cycle : None ≡ move_or_cycle t n p → Err Cycle ≡ moved_in t n p
  unfolding move_or_cycle moved_in
  move_cycle e = go (at_or_below t p n) e
    where
      go : (b : Bool) → None ≡ cond b None (Some (move_kind t n p)) → Err Cycle ≡ cond b (Err Cycle) (Ok (move_draft (moved_kind t n p) n p))
      go true e = refl
      go false e = cc

  pub move_drafted : (k : Kind) → Some (number k) ≡ move_or_cycle t n p → Ok (move_draft k n p) ≡ moved_in t n p
  unfolding move_or_cycle moved_in
  move_drafted k e = go (at_or_below t p n) e
    where
      go : (b : Bool) → Some (number k) ≡ cond b None (Some (move_kind t n p))
          → Ok (move_draft k n p) ≡ cond b (Err Cycle) (Ok (move_draft (moved_kind t n p) n p))
      go true e = cc
      go false e =
          let same : number k ≡ move_kind t n p = cc in
          ap (λ (x : Kind). Ok (move_draft x n p)) (number_one k (moved_kind t n p) (same ∙ sym number_moved))

module _ (t : List ℕ) (n p : ℕ) where
  pub move_now : (log : Log) → t ≡ parents_of log → (r : Drafted) → r ≡ moved_in t n p → r ≡ moved_in (parents_of log) n p
  move_now log is r e = rw (← is) e

module _ (log : Log) (s : ℕ) (q : code.Request) where
  pub add_op :
      (p : ℕ) → q ≡ Add p → (v : Vector) → v ≡ counts_of log → (n : ℕ) → n ≡ node_number s (count_in v s + 1) →
      Ok (record { kind = kind.Add; node = n; parent = p }) ≡ cleared_op log s (request_of q)
  unfolding cleared_op
  add_op p h v is n e = rw (h, e, is)

  pub remove_op : (n : ℕ) → q ≡ Remove n → Ok (record { kind = kind.Remove; node = n; parent = 0 }) ≡ cleared_op log s (request_of q)
  unfolding cleared_op
  remove_op n h = rw h

  module _ (n p : ℕ) (h : q ≡ Move n p) where
    pub cleared_move : (r : Drafted) → r ≡ moved_in (parents_of log) n p → r ≡ cleared_op log s (request_of q)
    unfolding cleared_op
    cleared_move r e = rw h e

    pub move_names_law : request_known log (request_of q) ≡ true → request_known log (move n p) ≡ true
    move_names_law e = rw h at e

---- number 9, and then the others

module _ (f : List ℕ) (s : ℕ) (q : Request) (v : Vector) (is : v ≡ header_counts f) where
  pub exhausted : ltb (count_in v s) 255 ≡ false → Err Exhausted ≡ drafted (log_of width f) s q
  unfolding drafted
  exhausted e = rw (counts_log_of width f, ← is, e)

  module _ (a : ltb (count_in v s) 255 ≡ true) where
    pub unknown : request_known (log_of width f) q ≡ false → Err Unknown ≡ drafted (log_of width f) s q
    unfolding drafted
    unknown e = rw (counts_log_of width f, ← is, a, e)

    pub known_request : sound width f ≡ true → is_replica s ≡ true → request_known (log_of width f) q ≡ true → KnownRequest f v s q
    known_request b r e = record { tallied = tallied f b v is; is_replica_so = r; names = e }

    module _ (e : request_known (log_of width f) q ≡ true) where
      pub marked : request_unmarked (log_of width f) q ≡ false → Err Marked ≡ drafted (log_of width f) s q
      unfolding drafted
      marked u = rw (counts_log_of width f, ← is, a, e, u)

      pub drafts :
          request_unmarked (log_of width f) q ≡ true → (r : Drafted) → r ≡ cleared_op (log_of width f) s q →
          r ≡ drafted (log_of width f) s q
      unfolding drafted
      drafts u r m = rw (counts_log_of width f, ← is, a, e, u) m

---- the op that is put out

-- v are the held counts, k is the number j of a kind, and o is what was put out
module _ (f : List ℕ) (v : Vector) (e : v ≡ header_counts f) (k s n p : ℕ) (o t : List ℕ) (w : o ≡ op_bytes k s n p v ++ t) where
  op_long : length (op_bytes k s n p v) ≡ width
  unfolding op_bytes word
  op_long = let l : length v ≡ 8 = rw e (length_counts f) in omega arith

  written : take width o ≡ op_bytes k s n p v
  written = rw w (take_at (op_bytes k s n p v) t width op_long)

  pub acceptable : (room : ℕ) → Writable f room s → Acceptable f v s (take 14 o)
  unfolding op_bytes replica_of
  acceptable room r =
      let i = r.ready.lent.issuer in
      record {
        is_sound_so = i.is_sound_so;
        held = e;
        is_replica_so = i.is_replica_so;
        count = ltb-true _ _ r.ready.left;
        origin = rw written;
        long = rw written op_long;
        room = r.end;
      }

  pub all_added :
      (j : ℕ) → k ≡ j → (out : List ℕ) → t ≡ drop 14 out → (b : List ℕ) → b ≡ appended width f (take 14 o) →
      (b, o) ≡ with_op f out (op_bytes j s n p (header_counts f))
  all_added j is out m b x = rw (x, written, ← e, w, m, is)

---- the last test, 8

module _ (f : List ℕ) where
  pub put_refused : (n : ℕ) → refused n ≡ last_test f → (out op : List ℕ) → handed (refused n) f out ≡ put_out f out op
  unfolding put_out
  put_refused n is out op = rw (← is)

  module _ (n : ℕ) (is : accepted n ≡ last_test f) where
    pub writable : (room s : ℕ) → Ready f room s → Writable f room s
    writable room s r = record { ready = r; end = has_room f n is }

    pub put_added : (b o out op : List ℕ) → (b, o) ≡ with_op f out op → handed (accepted n) b o ≡ put_out f out op
    unfolding put_out
    put_added b o out op e = rw (← is) (ap (λ (x : List ℕ × List ℕ). handed (accepted n) x.0 x.1) e)

---- the whole

-- the answer by what was drafted
by_draft : (f : List ℕ) → Drafted → Answer
by_draft f (Ok d) = last_test f
by_draft f (Err why) = refused (number_of why)

module _ (f : List ℕ) (s : ℕ) where
  step :
      (b : Bool) (why : Refusal) (x : Answer) (y : Drafted) → x ≡ by_draft f y →
      require b (number_of why) x ≡ by_draft f (cond (not b) (Err why) y)
  unfolding by_draft require
  step true why x y e = e
  step false why x y e = refl

  move_by : (b : Bool) (d : Draft) → require (not b) 10 (last_test f) ≡ by_draft f (cond b (Err Cycle) (Ok d))
  unfolding by_draft require
  move_by true d = refl
  move_by false d = refl

  cleared_by : (q : Request) → require (request_clear (log_of width f) q) 10 (last_test f) ≡ by_draft f (cleared_op (log_of width f) s q)
  unfolding request_clear cleared_op moved_in require by_draft
  cleared_by (add p) = refl
  cleared_by (remove n) = refl
  cleared_by (move n p) = move_by (at_or_below (parents_of (log_of width f)) p n) _

  answer_by : (room : ℕ) → Lent f room s → (q : Request) → issue_answer width f room s q ≡ by_draft f (drafted (log_of width f) s q)
  unfolding issue_answer drafted require last_test room_test
  answer_by room l q =
      rw (l.issuer.is_sound_so, le-leb width room l.space, l.issuer.is_replica_so)
      (step (ltb (count_in (counts_of (log_of width f)) s) 255) Exhausted _ _
      (step (request_known (log_of width f) q) Unknown _ _
      (step (request_unmarked (log_of width f) q) Marked _ _ (cleared_by q))))

-- tests that end in an op
pub passes : (b : Bool) (why : Refusal) (y : Drafted) (d : Draft) → cond (not b) (Err why) y ≡ Ok d → (b ≡ true) × (y ≡ Ok d)
passes true why y d e = (refl, e)
passes false why y d e = let z : ◌≡◌ {A = ℕ} 0 1 = cc in absurd (omega arith)

same_op : (s : ℕ) (v : Vector) (x d : Draft) → ◌≡◌ {A = Drafted} (Ok x) (Ok d) → bytes_of s x v ≡ bytes_of s d v
same_op s v x d e = let z : x ≡ d = cc in rw z

clear : (b : Bool) (s : ℕ) (v : Vector) (x d : Draft) → cond b (Err Cycle) (Ok x) ≡ Ok d → bytes_of s x v ≡ bytes_of s d v
clear false s v x d e = same_op s v x d e
clear true s v x d e = cc

-- a drafted move is of its node, to its parent
pub drafted_names : (t : List ℕ) (n p : ℕ) (d : Draft) → moved_in t n p ≡ Ok d → (d.node ≡ n) × (d.parent ≡ p)
unfolding moved_in
drafted_names t n p d e = go (at_or_below t p n) e
  where
    go : (b : Bool) → cond b (Err Cycle) (Ok (move_draft (moved_kind t n p) n p)) ≡ Ok d → (d.node ≡ n) × (d.parent ≡ p)
    go false e =
        let z : d ≡ move_draft (moved_kind t n p) n p = cc in
        (ap (λ (x : Draft). x.node) z, ap (λ (x : Draft). x.parent) z)
    go true e = let z : ◌≡◌ {A = ℕ} 0 1 = cc in absurd (omega arith)

pub op_of : (log : Log) (s : ℕ) (q : Request) (d : Draft) → cleared_op log s q ≡ Ok d → issued log s q ≡ bytes_of s d (counts_of log)
unfolding cleared_op issued moved_in
op_of log s (add p) d e = same_op s (counts_of log) _ d e
op_of log s (remove n) d e = same_op s (counts_of log) _ d e
op_of log s (move n p) d e =
    ap (λ k. op_bytes k s n p (counts_of log)) (sym (number_moved (parents_of log) n p))
    ∙ clear (at_or_below (parents_of log) p n) s (counts_of log) _ d e

-- r is what was drafted
module _ (f out : List ℕ) (s : ℕ) (q : Request) (l : Lent f (length out) s) where
  pub issue_refused : (why : Refusal) → Err why ≡ drafted (log_of width f) s q → handed (refused (number_of why)) f out ≡ rules.issue width f out s q
  unfolding issue_buffer issue_out by_draft
  issue_refused why e = rw (answer_by f s (length out) l q, ← e)

  module _ (d : Draft) (e : Ok d ≡ drafted (log_of width f) s q) where
    opened : Ready f (length out) s × (cleared_op (log_of width f) s q ≡ Ok d)
    unfolding drafted
    opened =
        let a = passes (ltb (count_in (counts_of (log_of width f)) s) 255) Exhausted _ d (sym e) in
        let b = passes (request_known (log_of width f) q) Unknown _ d a.1 in
        (record { lent = l; left = a.0 }, (passes (request_unmarked (log_of width f) q) Marked _ d b.1).1)

    pub ready : Ready f (length out) s
    ready = opened.0

    pub issue_put : (x : Issued) → x ≡ put_out f out (bytes_of s d (header_counts f)) → x ≡ rules.issue width f out s q
    unfolding issue_buffer issue_out by_draft put_out
    issue_put x h = rw (answer_by f s (length out) l q, ← e, op_of (log_of width f) s q d opened.1, counts_log_of width f) h

---- what the code of issuing needs: search issuing
pub ruleset moves = (known_small, move_cycle, move_drafted, move_now, cleared_move, move_names_law)

pub ruleset drafting = (moves, add_op, remove_op, exhausted, unknown, known_request, marked, drafts)

pub ruleset putting = (acceptable, all_added, put_refused, writable, put_added)

pub ruleset issues = (issue_refused, ready, issue_put)

pub ruleset issuing = (rules, tested, header_of, sound_structural, tallied, tallied_held, drafting, putting, issues)
