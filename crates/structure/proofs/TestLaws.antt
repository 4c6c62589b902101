-- The tests of an op against a log, as the code makes them.
use mathlib.Core.Path.{◌≡◌, refl, sym, ◌∙◌}
use mathlib.Core.Bool.{Bool, true, false, ◌&&◌, and-eq-true_iff}
use mathlib.Core.List.{List}
use Prim.Native.Nat.{ℕ, ◌+◌, ◌*◌, ◌-◌, ◌/◌, ◌%◌, ◌^◌, ◌≤◌, ◌<◌}
use native.Mathlib.Omega.{arith}
use native.Mathlib.Decide.{ℕ_discrete}
use lib.ListN.{length, drop, get_or, replicate}
use lib.Dec.{eqb}
use borrow.Author.Rules.{rules}
use borrow.Author.Tests.{leb-true, le-leb, lt-ltb, eq-eqb, ne_eqb}
use Rattle.lists.proofs.BoolLaws.{and_true, and_false, and_left, and_right, and_regroup, tested}
use Rattle.rules.specs.File.{Log, header_counts, log_of, op_at, within}
use Rattle.rules.specs.Log.{closed, closed_at, laid, sound_header, sound_op, names_known, covered}
use Rattle.rules.specs.Marks.{is_known, knowledge, node_within}
use Rattle.rules.specs.Op.{Op, Vector, replica_of, count_in, seq_of, is_replica, own_count, is_add, vector_of, well_formed, is_remove, kind_of, node_number, parent_of, node_of}
use Rattle.rules.proofs.FileLaws.{counts_log_of}
use Rattle.codec.specs.Asked.{kind_fits}
use Rattle.oplog.specs.Places.{InFile, Held, place_of}
use Rattle.structure.specs.Tests.{LaidOut, OpHere, names_by, passes_by, vector_by, sound_at, own_alone, changes_closed, risen}
use Rattle.oplog.proofs.FieldLaws.{SameFields, counts_in, held_of, fields_at, small, in_file_of, op_fits}
use Rattle.structure.proofs.RiseLaws.{before_few, closed_risen, closed_since_none, alone_passes}
use Rattle.oplog.proofs.HeaderLaws.{laid_fits, laid_header, laid_long, laid_short, laid_wrong}
use Rattle.rules.proofs.KnownLaws.{known_is}

---- known nodes: s and q are the replica and the sequence of node n

module _ (v : Vector) (n s q : ℕ) (is : s ≡ n / 256) (iq : q ≡ n % 256) where
  -- an op that a counted vector counts is there
  module _ (w : ℕ) (f : List ℕ) (c : Held w f v) (e : node_within v n ≡ true) where
    pub node_there : InFile w f s q
    unfolding node_within is_replica
    node_there =
        let h = simp and-eq-true_iff at e in
        let l : 1 ≤ s = rw is (leb-true 1 (n / 256) h.0.0.0) in
        let u : s ≤ 8 = rw is (leb-true (n / 256) 8 h.0.0.1) in
        let lq : 1 ≤ q = rw iq (leb-true 1 (n % 256) h.0.1) in
        let uq : q ≤ count_in v s = rw (iq, is) (leb-true (n % 256) (count_in v (n / 256)) h.1) in
        in_file_of w f v c s q l u lq uq

    pub known_kind : (at : ℕ) → at ≡ place_of w f s q → (k : ℕ) → k ≡ kind_of (drop at f) → eqb k 1 ≡ is_known (knowledge (log_of w f) v n)
    unfolding is_add
    known_kind at p k i = rw (known_is (log_of w f) v n, e, ← is, ← iq, (fields_at w f s q node_there at p).kind, i)

module _ (log : Log) (v : Vector) (n : ℕ) where
  pub known_without : node_within v n ≡ false → false ≡ is_known (knowledge log v n)
  known_without e = rw (known_is log v n, e)

---- closed vectors: k is the count of replica s

module _ (w : ℕ) (f : List ℕ) (v : Vector) (s k : ℕ) (e : k ≡ get_or v (s - 1) 0) where
  pub closed_none : k ≡ 0 → true ≡ closed_at (log_of w f) v s
  unfolding closed_at count_in
  closed_none z = rw (← e, eq-eqb k 0 z)

  module _ (c : Held w f v) (l : 1 ≤ s) (u : s ≤ 8) (z : k ≡ 0 → ⊥) where
    -- the last op that the vector counts is there
    pub last_there : InFile w f s k
    unfolding count_in
    last_there = in_file_of w f v c s k l u (omega arith) (omega arith)

    pub closed_by : (at : ℕ) → at ≡ place_of w f s k → (o : Vector) → o ≡ vector_of (drop at f) → (b : Bool) → b ≡ within o v
        → b ≡ closed_at (log_of w f) v s
    unfolding closed_at count_in
    closed_by at p o i b h = rw (← e, ne_eqb k 0 z, (fields_at w f s k last_there at p).vector, ← i) h

---- what has changed since the vector before

pub closed_changes : (log : Log) (v : Vector) (b : Bool) → b ≡ changes_closed log (replicate 8 0) v 0 → b ≡ closed log v
closed_changes log v b e = e ∙ sym (closed_since_none log v)

---- the vector of an op: k is its own count

module _ (w : ℕ) (f : List ℕ) (counts before : Vector) (s q : ℕ) (x : OpHere w f counts before s q) where
  pub alone_asks : (1 ≤ s) × (s ≤ 8) × (count_in before s < 255)
  alone_asks =
      let t = x.there in
      (t.low, t.high, before_few (log_of w f) s q before x.last t.low t.high (small w f s q t))

  module _ (v : Vector) where
    covers : (b : Bool) → within v counts ≡ b → covered (log_of w f) v ≡ b
    unfolding covered
    covers b h = rw (counts_log_of w f, ← x.held) h

    pub vector_alone : (b : Bool) → b ≡ own_alone before v s q → b ≡ true → b ≡ vector_by (log_of w f) v s q
    vector_alone b is e =
        let t = x.there in
        e ∙ sym (alone_passes (log_of w f) s q before x.last t.low t.high v (sym is ∙ e)
        (omega (arith, counts_in w f s t.low t.high, t.last)))

    pub vector_held : within v counts ≡ true → Held w f v
    vector_held h = held_of w f v x.there.wide x.there.is_laid (rw (← x.held) h)

    pub passed_held : vector_by (log_of w f) v s q ≡ true → Held w f v
    unfolding vector_by covered
    passed_held e = held_of w f v x.there.wide x.there.is_laid
        (rw (counts_log_of w f) at (and_right (eqb (count_in v s + 1) q) _ (and_left (eqb (count_in v s + 1) q && covered (log_of w f) v) _ e)))

    module _ (k : ℕ) (e : k ≡ get_or v (s - 1) 0) where
      pub vector_other : (k ≡ q - 1 → ⊥) → false ≡ vector_by (log_of w f) v s q
      unfolding vector_by count_in
      vector_other n = rw (← e, ne_eqb (k + 1) q (λ z. n (omega arith)))

      module _ (z : k ≡ q - 1) where
        number : count_in v s + 1 ≡ q
        unfolding count_in
        number = omega (arith, x.there.first)

        pub vector_early : (b : Bool) → b ≡ within v counts → b ≡ false → b ≡ vector_by (log_of w f) v s q
        unfolding vector_by
        vector_early b is h = h ∙ rw (eq-eqb (count_in v s + 1) q number, covers false (sym is ∙ h))

        pub vector_risen : within v counts ≡ true → (b : Bool) → b ≡ risen (log_of w f) before v s → b ≡ vector_by (log_of w f) v s q
        unfolding vector_by
        vector_risen h b i =
            let t = x.there in
            rw (
              eq-eqb (count_in v s + 1) q number,
              covers true h,
              closed_risen (log_of w f) s q before x.last t.low t.high v number,
            ) i

---- one op, by its fields

-- all tests, by the fields
module _ (log : Log) (s q : ℕ) (r : Op) where
  abbrev passes_all : Bool
  passes_all = passes_by log (vector_of r) (kind_of r) (node_of r) (parent_of r) (256 * s + q)

  sound_other : (replica_of r ≡ s → ⊥) → sound_op log s q r ≡ false
  unfolding sound_op
  sound_other e = rw (ne_eqb (replica_of r) s e)

  sound_own : replica_of r ≡ s → 1 ≤ s → s ≤ 8 → q ≤ 255 → sound_op log s q r ≡ (vector_by log (vector_of r) s q && passes_all)
  unfolding sound_op vector_by passes_by seq_of own_count well_formed is_replica is_remove names_known is_add node_number names_by
  sound_own a l u h = elim (ℕ_discrete (count_in (vector_of r) s + 1) q) [
    | yes b ↦
        let c : count_in (vector_of r) s < 255 = omega arith in
        rw (a, eq-eqb s s refl, b, eq-eqb q q refl, le-leb 1 s l, le-leb s 8 u, lt-ltb (count_in (vector_of r) s) 255 c, and_true)
        (and_regroup (kind_fits (kind_of r) (parent_of r)) _ _ _)
    | no n ↦ rw (a, ne_eqb (count_in (vector_of r) s + 1) q n, and_false)
  ]

-- the number of the node that an op makes
module _ (w : ℕ) (f : List ℕ) (s q : ℕ) (x : InFile w f s q) where
  pub own_size : 256 * s + q < 2 ^ 64
  own_size = omega (arith, small w f s q x, x.high)

  pub own_short : 256 * s + q < 2 ^ 16
  own_short = omega (arith, small w f s q x, x.high)

pub op_there : (w : ℕ) (f : List ℕ) (counts before : Vector) (s q : ℕ) → OpHere w f counts before s q → (at : ℕ) → at ≡ place_of w f s q
    → at + 14 ≤ length f
op_there w f counts before s q x at e = omega (arith, op_fits w f s q x.there at e, x.there.wide)

-- the op at a place: r is its replica, v its vector
module _ (w : ℕ) (f : List ℕ) (counts before : Vector) (s q : ℕ) (x : OpHere w f counts before s q) (at : ℕ) (is : at ≡ place_of w f s q)
    (r k : ℕ) (ir : r ≡ replica_of (drop at f)) (ik : k ≡ r) where
  here : SameFields (op_at (log_of w f) s q) (drop at f)
  here = fields_at w f s q x.there at is

  pub op_other : (k ≡ s → ⊥) → false ≡ sound_at (log_of w f) s q
  op_other n = sym (sound_other (log_of w f) s q _ (λ e. n (ik ∙ ir ∙ sym here.replica ∙ e)))

  module _ (e : k ≡ s) (v : Vector) (iv : v ≡ vector_of (drop at f)) where
    by_vector : sound_at (log_of w f) s q ≡ (vector_by (log_of w f) v s q && passes_all (log_of w f) s q (op_at (log_of w f) s q))
    by_vector =
        sound_own (log_of w f) s q _ (here.replica ∙ sym ir ∙ sym ik ∙ e) x.there.low x.there.high (small w f s q x.there)
        ∙ rw (here.vector, ← iv)

    pub op_vector : vector_by (log_of w f) v s q ≡ false → false ≡ sound_at (log_of w f) s q
    op_vector h = sym (by_vector ∙ rw h)

    pub op_passes : vector_by (log_of w f) v s q ≡ true
        → (m : ℕ) → m ≡ kind_of (drop at f) → (n : ℕ) → n ≡ node_of (drop at f) → (p : ℕ) → p ≡ parent_of (drop at f)
        → (b : Bool) → b ≡ passes_by (log_of w f) v m n p (256 * s + q) → b ≡ sound_at (log_of w f) s q
    op_passes h m im n jn p ip b i =
        sym (by_vector ∙ rw (h, here.vector, here.kind, here.node, here.parent, ← iv, ← im, ← jn, ← ip) (sym i))

---- the whole file

module _ (w : ℕ) (f : List ℕ) where
  module _ (e : laid w f ≡ true) where
    pub laid_out : 14 ≤ w → (counts : Vector) → counts ≡ header_counts f → LaidOut w f counts
    laid_out h counts i = record { wide = h; is_laid = e; held = i }

    pub header_of : (32 ≤ length f) × (sound_header w f ≡ true)
    header_of = (laid_long w f e, laid_header w f e)

---- what the code of the tests needs: search testing
pub ruleset knowing = (node_there, known_kind, known_without)

pub ruleset closing = (closed_none, last_there, closed_by, closed_changes)

pub ruleset vectors = (vector_alone, vector_held, passed_held, vector_other, vector_early, vector_risen)

pub ruleset owning = (own_size, own_short, op_there, op_other, op_vector, op_passes)

pub ruleset laying = (laid_short, laid_wrong, laid_fits, laid_out)

pub ruleset testing = (rules, tested, knowing, closing, vectors, owning, laying)
