-- An issued op passes the tests of a delivered one at the log that issued it.
use mathlib.Core.Path.{◌≡◌, refl, ap, ◌∙◌}
use mathlib.Core.Bool.{Bool, true, false, cond, ◌&&◌, ◌||◌, not, and-eq-true_iff}
use mathlib.Core.List.{List}
use Prim.Native.Nat.{ℕ, ◌+◌, ◌≤◌, ◌<◌}
use native.Mathlib.Nat.{div-add-mod'}
use native.Mathlib.Omega.{arith}
use borrow.Author.Tests.{leb-true, ltb-true, lt-leb, lt-ltb, eq-eqb}
use lib.ListN.{length, length-map}
use lib.Seq.{take_all}
use lib.Dec.{leb, ltb, eqb}
use Rattle.rules.specs.Bytes.{word_at, word}
use Rattle.rules.specs.Op.{Op, Vector, is_replica, count_in, kind_of, replica_of, node_of, parent_of, vector_of, own_count, seq_of, node_number, is_add, is_move, is_remove, well_formed}
use Rattle.rules.specs.File.{Log, counts_of, file_end, log_of, width}
use Rattle.rules.specs.Log.{known_parent, names_known}
use Rattle.rules.specs.Deliver.{is_held}
use Rattle.rules.specs.Tree.{depth, move_kind}
use Rattle.rules.specs.Replay.{parents_of}
use Rattle.rules.specs.Issue.{Request, add, remove, move, op_bytes, issued, request_known, request_unmarked, issue_answer, request_clear}
use Rattle.rules.specs.Sound.{sound}
use Rattle.rules.specs.Answer.{accepted}
use Rattle.lists.proofs.BoolLaws.{and_both}
use Rattle.rules.proofs.DeliverLaws.{required, Admitted, accepted_same}
use Rattle.rules.proofs.StructureLaws.{GoodLog, counts_covered, counts_closed}
use Rattle.rules.proofs.AppendLaws.{Admits}
use Rattle.rules.proofs.KnownLaws.{Known}
use Rattle.rules.proofs.SoundLaws.{sound_good}

---- the fields of an op's bytes

module _ (k s n p : ℕ) (v : Vector) where
  pub bytes_node : node_of (op_bytes k s n p v) ≡ n
  unfolding node_of word_at op_bytes word
  bytes_node = div-add-mod' n 256

  pub bytes_parent : parent_of (op_bytes k s n p v) ≡ p
  unfolding parent_of word_at op_bytes word
  bytes_parent = div-add-mod' p 256

  pub bytes_vector : length v ≡ 8 → vector_of (op_bytes k s n p v) ≡ v
  unfolding vector_of op_bytes word
  bytes_vector e = take_all 8 v (omega arith)

---- an op with the held counts as its vector

module _ (log : Log) (g : GoodLog log) where
  pub counts_eight : length (counts_of log) ≡ 8
  unfolding counts_of
  counts_eight = length-map log length ∙ g.eight

  -- an op with the held counts that is well formed and names what is known
  module _ (k s n p : ℕ) (ls : is_replica s ≡ true) (full : count_in (counts_of log) s < 255) (kind : (leb 1 k && leb k 4) ≡ true)
      (parent : (not (eqb k 2) || eqb p 0) ≡ true) where
    abbrev r : Op
    r = op_bytes k s n p (counts_of log)

    own : own_count r ≡ count_in (counts_of log) s
    unfolding own_count replica_of op_bytes
    own = ap (λ v. count_in v s) (bytes_vector k s n p (counts_of log) counts_eight)

    formed : well_formed r ≡ true
    unfolding well_formed kind_of replica_of is_remove op_bytes
    formed =
        and_both (and_both (and_both ls kind) (lt-ltb (own_count r) 255 (omega (arith, own))))
        (rw (bytes_parent k s n p (counts_of log)) parent)

    new : is_held log r ≡ false
    unfolding is_held seq_of replica_of op_bytes
    new = lt-leb (own_count r + 1) (count_in (counts_of log) s) (omega (arith, own))

    issue_admits : names_known log r ≡ true → Admits log r
    issue_admits names = record {
      formed = formed;
      new = new;
      is_covered = rw (bytes_vector k s n p (counts_of log) counts_eight) (counts_covered log);
      is_closed = rw (bytes_vector k s n p (counts_of log) counts_eight) (counts_closed log g);
      names = names;
    }

  -- the names of an add, a remove and a move
  module _ (s n p : ℕ) where
    abbrev counts : Vector
    counts = counts_of log

    names_add : known_parent log counts p ≡ true → n ≡ node_number s (count_in counts s + 1) → names_known log (op_bytes 1 s n p counts) ≡ true
    unfolding names_known is_add kind_of replica_of seq_of own_count op_bytes
    names_add h e =
        rw (bytes_vector 1 s n p counts counts_eight, bytes_parent 1 s n p counts, bytes_node 1 s n p counts)
        (and_both h (eq-eqb _ _ e))

    names_remove : Known log counts n → names_known log (op_bytes 2 s n p counts) ≡ true
    unfolding names_known is_add is_remove kind_of op_bytes
    names_remove h = rw (bytes_vector 2 s n p counts counts_eight, bytes_node 2 s n p counts) (and_both h refl)

    names_move : (k : ℕ) → eqb k 1 ≡ false → eqb k 2 ≡ false → Known log counts n → known_parent log counts p ≡ true
        → not (eqb p n) ≡ true → names_known log (op_bytes k s n p counts) ≡ true
    unfolding names_known is_add is_remove kind_of op_bytes
    names_move k a b h i j =
        rw (bytes_vector k s n p counts counts_eight, bytes_parent k s n p counts, bytes_node k s n p counts, a, b)
        (and_both h (and_both i j))

    move_names_law : Known log counts n → known_parent log counts p ≡ true → not (eqb p n) ≡ true → (b : Bool)
        → names_known log (op_bytes (cond b 3 4) s n p counts) ≡ true
    move_names_law h i j true = names_move 3 refl refl h i j
    move_names_law h i j false = names_move 4 refl refl h i j

  -- an op that the tests of issuing let through
  module _ (s : ℕ) (ls : is_replica s ≡ true) (full : count_in (counts_of log) s < 255) where
    issued_admits : (q : Request) → request_known log q ≡ true → Admits log (issued log s q)
    unfolding issued request_known move_kind
    issued_admits (add p) h = issue_admits 1 s _ p ls full refl refl (names_add s _ p h refl)
    issued_admits (remove n) h = issue_admits 2 s n 0 ls full refl refl (names_remove s n 0 h)
    issued_admits (move n p) h =
        let t = simp and-eq-true_iff at h in go (ltb (depth (parents_of log) p) (depth (parents_of log) n))
        (move_names_law s n p t.0.0 t.0.1 t.1)
      where
        go : (b : Bool) → ((b : Bool) → names_known log (op_bytes (cond b 3 4) s n p (counts_of log)) ≡ true)
            → Admits log (op_bytes (cond b 3 4) s n p (counts_of log))
        go true names = issue_admits 3 s n p ls full refl refl (names true)
        go false names = issue_admits 4 s n p ls full refl refl (names false)

  bytes_long : (k s n p : ℕ) → length (op_bytes k s n p (counts_of log)) ≡ width
  unfolding op_bytes word
  bytes_long k s n p = omega (arith, counts_eight)

  issued_long : (s : ℕ) (q : Request) → length (issued log s q) ≡ width
  unfolding issued
  issued_long s (add p) = bytes_long _ s _ p
  issued_long s (remove n) = bytes_long _ s n _
  issued_long s (move n p) = bytes_long _ s n p

-- the op of a move moves
pub issued_moves : (log : Log) (s n p : ℕ) → is_move (issued log s (move n p)) ≡ true
unfolding issued op_bytes kind_of is_move move_kind
issued_moves log s n p = go (ltb (depth (parents_of log) p) (depth (parents_of log) n))
  where
    go : (b : Bool) → (eqb (cond b 3 4) 3 || eqb (cond b 3 4) 4) ≡ true
    go true = refl
    go false = refl

-- what acceptance says of the request
pub record Allowed (w : ℕ) (f : List ℕ) (room s : ℕ) (q : Request) (n : ℕ) : Type 0 where
  pub is_sound_so : sound w f ≡ true
  pub space : w ≤ room
  pub is_replica_so : is_replica s ≡ true
  pub count : count_in (counts_of (log_of w f)) s < 255
  pub names : request_known (log_of w f) q ≡ true
  pub is_unmarked : request_unmarked (log_of w f) q ≡ true
  pub clear : request_clear (log_of w f) q ≡ true
  pub room_left : file_end w f + w ≤ length f
  pub end : file_end w f + w ≡ n

pub allowed : (w : ℕ) (f : List ℕ) (room s : ℕ) (q : Request) (n : ℕ) → issue_answer w f room s q ≡ accepted n → Allowed w f room s q n
unfolding issue_answer
allowed w f room s q n e =
    let a = required _ _ _ n e in
    let b = required _ _ _ n a.1 in
    let c = required _ _ _ n b.1 in
    let d = required _ _ _ n c.1 in
    let k = required _ _ _ n d.1 in
    let m = required _ _ _ n k.1 in
    let o = required _ _ _ n m.1 in
    let l = required _ _ _ n o.1 in
    record {
      is_sound_so = a.0;
      space = leb-true _ _ b.0;
      is_replica_so = c.0;
      count = ltb-true _ _ d.0;
      names = k.0;
      is_unmarked = m.0;
      clear = o.0;
      room_left = leb-true _ _ l.0;
      end = accepted_same _ n l.1;
    }

-- an issued op is one that delivery would accept in its place
pub issue_admitted : (f : List ℕ) (room s : ℕ) (q : Request) (n : ℕ) → issue_answer width f room s q ≡ accepted n
    → Admitted width f (issued (log_of width f) s q) n
issue_admitted f room s q n e =
    let a = allowed width f room s q n e in
    let g = sound_good width f a.is_sound_so in
    record {
      is_sound_so = a.is_sound_so;
      long = issued_long (log_of width f) g s q;
      admits = issued_admits (log_of width f) g s a.is_replica_so a.count q a.names;
      room = a.room_left;
      end = a.end;
    }
