-- Laws of putting ops into a buffer: bytes moved up, the ops in front of them, the header anew.
use lib.ListN.{length-take, length-drop, length-append, length, take, drop, get_or, set}
use lib.Seq.{take_all, take-suc, drop-cons, append_snoc, set_at, length-take-le, take-take, drop-drop, take-add, drop_at}
use mathlib.Core.List.{List, [], ◌∷◌, ◌++◌, map, append_assoc}
use mathlib.Core.Path.{◌≡◌, refl, sym, ap, ◌∙◌}
use mathlib.Core.Bool.{true}
use Prim.Native.Nat.{ℕ, zero, suc, ◌+◌, ◌*◌, ◌-◌, ◌^◌, ◌≤◌, ◌<◌}
use native.Mathlib.Omega.{arith}
use native.Mathlib.Numerals.{add-one}
use native.Mathlib.Nat.{le_of_suc-le-suc, mul-add, mul-zero, not-suc-le-zero}
use borrow.Author.Rules.{rules}
use Rattle.rules.specs.File.{end_of, header_counts, file_end, file_of, start_of, ops_of, Log, header_of, counts_of, log_of, chunks, chunks_of}
use Rattle.rules.specs.Log.{laid, sound_header}
use Rattle.rules.specs.Op.{count_in, Op, Vector}
use Rattle.lists.specs.Lists.{concat, sum}
use Rattle.lists.proofs.ListLaws.{concat_append}
use Rattle.rules.proofs.FileLaws.{bodies_chunks_of, concat_chunks, counts_at, counts_log_of, length_chunks, length_log_of}
use Rattle.rules.proofs.StructureLaws.{count_held, laid_reads}
use Rattle.oplog.specs.Append.{Appendable, append_all, appended_all, headed_by, inserted, shifted}
use Rattle.oplog.proofs.HeaderLaws.{end_is, laid_header, laid_long, start_within}

---- storing in front

-- d with its first j bytes replaced by r's
abbrev pub front : List ℕ → List ℕ → ℕ → List ℕ
front r d j = take j r ++ drop j d

pub front_step : (r d : List ℕ) (j : ℕ) → j < length r → length r ≤ length d → set (front r d j) j (get_or r j 0) ≡ front r d (j + 1)
front_step r d j h hd =
    rw (drop-cons d j 0 (omega arith), set_at (take j r) _ _ _ j (length-take-le j r (omega arith)), add-one, take-suc r j 0, append_snoc)

-- the ops in front of the bytes that were moved up
pub shift_front : (r p a b : List ℕ) → length r ≤ length p → a ≡ take (length r) p ++ take (length p - length r) p
    → b ≡ r ++ drop (length r) a → b ≡ shifted r p
unfolding shifted
shift_front r p a b h e i = i ∙ rw (e, drop_at (take (length r) p) _ (length r) (length-take-le (length r) p h))

-- a part with the ops in front of its moved bytes, put back into its buffer
pub put_back : (r b ys : List ℕ) (place end : ℕ) → place ≤ end → end + length r ≤ length b
    → ys ≡ shifted r (take (end + length r - place) (drop place b))
    → take place b ++ (ys ++ drop (end + length r - place) (drop place b)) ≡ inserted r b place end (length r)
unfolding inserted shifted
put_back r b ys place end h hb e =
    let w : ℕ = length r in
    let n : length (take (end + w - place) (drop place b)) - w ≡ end - place = simp (length-take, length-drop) (omega arith) in
    let q : place + (end + w - place) ≡ end + w = omega arith in
    let t : end - place ≤ end + w - place = omega arith in
    rw (e, n, take-take (end - place) (end + w - place) (drop place b) t, drop-drop, q, append_assoc)

---- the whole

map_set : (log : Log) (i : ℕ) (ops : List Op) → map length (set log i ops) ≡ set (map length log) i (length ops)
map_set [] i ops = refl
map_set (x ∷ log) zero ops = refl
map_set (x ∷ log) (suc i) ops = ap (◌∷◌ (length x)) (map_set log i ops)

take_chunks_of : (w k : ℕ) (ns bs : List ℕ) → take k (chunks_of w ns bs) ≡ chunks_of w (take k ns) bs
unfolding chunks_of
take_chunks_of w zero ns bs = refl
take_chunks_of w (suc k) [] bs = refl
take_chunks_of w (suc k) (n ∷ ns) bs = rw (take_chunks_of w k ns (drop (w * n) bs))

drop_chunks_of : (w k : ℕ) (ns bs : List ℕ) → drop k (chunks_of w ns bs) ≡ chunks_of w (drop k ns) (drop (w * sum (take k ns)) bs)
unfolding chunks_of sum
drop_chunks_of w zero ns bs = rw mul-zero
drop_chunks_of w (suc k) [] bs = refl
drop_chunks_of w (suc k) (n ∷ ns) bs = rw (drop_chunks_of w k ns (drop (w * n) bs), drop-drop, ← mul-add w n (sum (take k ns)))

-- the bodies of a log with more ops last in its list i
bodies_set : (log : Log) (i : ℕ) (ops : List Op) → i < length log
    → concat (concat (set log i (get_or log i [] ++ ops)))
    ≡ concat (concat (take (suc i) log)) ++ (concat ops ++ concat (concat (drop (suc i) log)))
unfolding concat
bodies_set [] i ops h = absurd (not-suc-le-zero h)
bodies_set (x ∷ log) zero ops h = simp (append_assoc, concat_append)
bodies_set (x ∷ log) (suc i) ops h =
    simp (concat_append, append_assoc) (ap (λ t. concat x ++ t) (bodies_set log i ops (le_of_suc-le-suc h)))

module _ (w : ℕ) (f : List ℕ) (s : ℕ) (l : 1 ≤ s) (u : s ≤ 8) (ops : List Op) where
  abbrev log : Log
  log = log_of w f

  -- what the bodies of the replicas up to s take, and those of the later ones
  abbrev before : ℕ
  before = w * sum (take s (header_counts f))

  abbrev after : ℕ
  after = w * sum (drop s (header_counts f))

  bodies : concat (concat (append_all log s ops)) ≡ take before (drop 32 f) ++ (concat ops ++ take after (drop before (drop 32 f)))
  unfolding append_all ops_of log_of
  bodies =
      let k : suc (s - 1) ≡ s = omega arith in
      rw (
        bodies_set (chunks_of w (header_counts f) (drop 32 f)) (s - 1) ops (omega (arith, length_log_of w f)),
        k,
        take_chunks_of,
        drop_chunks_of,
        bodies_chunks_of,
        bodies_chunks_of,
      )

  appended_bytes : appended_all w f s ops ≡ header_of w (counts_of (append_all log s ops))
      ++ (take before (drop 32 f) ++ (concat ops ++ (take after (drop before (drop 32 f)) ++ drop (file_end w f + w * length ops) f)))
  unfolding appended_all file_of
  appended_bytes = rw bodies (simp append_assoc)

  -- the counts with so many ops more
  pub counts_more : counts_of (append_all log s ops) ≡ set (header_counts f) (s - 1) (get_or (header_counts f) (s - 1) 0 + length ops)
  unfolding counts_of append_all count_in
  counts_more =
      let count_get_or : count_in (counts_of log) s ≡ get_or (header_counts f) (s - 1) 0 = ap (λ v. get_or v (s - 1) 0) (counts_log_of w f) in
      let n : length (ops_of log s ++ ops) ≡ get_or (header_counts f) (s - 1) 0 + length ops =
      length-append (ops_of log s) ops ∙ ap (λ (k : ℕ). k + length ops) (sym (count_held log s) ∙ count_get_or) in
      map_set log (s - 1) (ops_of log s ++ ops)
      ∙ rw n (ap (λ v. set v (s - 1) (get_or (header_counts f) (s - 1) 0 + length ops)) (counts_log_of w f))

  -- a new header over the inserted ops: the buffer with them
  inserted_appended : laid w f ≡ true
      → header_of w (counts_of (append_all log s ops))
      ++ drop 32 (inserted (concat ops) f (start_of w (header_counts f) (s + 1)) (file_end w f) (w * length ops))
      ≡ appended_all w f s ops
  unfolding start_of file_end end_of sum inserted
  inserted_appended good =
      let c : List ℕ = header_counts f in
      let k : s + 1 - 1 ≡ s = omega arith in
      let total : sum c ≡ sum (take s c) + sum (drop s c) = sum_split c s in
      let whole : 32 + w * sum c ≡ 32 + before + after =
      omega (arith, ap (λ (n : ℕ). w * n) total, mul-add w (sum (take s c)) (sum (drop s c))) in
      let e : 32 + w * sum c - (32 + before) ≡ after = omega arith in
      let d : List ℕ = drop (32 + w * sum c + w * length ops) f in
      let t : drop 32 (take (32 + before) f ++ (concat ops ++ (take after (drop (32 + before) f) ++ d))) ≡ take before (drop 32 f)
      ++ (concat ops ++ (take after (drop before (drop 32 f)) ++ d)) =
      rw (
        take-add 32 before f,
        append_assoc,
        drop_at (take 32 f) _ 32 (length-take-le 32 f (laid_reads w f good).header),
        drop-drop before 32 f,
      ) in
      rw (k, e, t) (sym appended_bytes)
    where
      sum_split : (c : List ℕ) (n : ℕ) → sum c ≡ sum (take n c) + sum (drop n c)
      sum_split [] zero = omega arith
      sum_split [] (suc n) = omega arith
      sum_split (x ∷ c) zero = omega arith
      sum_split (x ∷ c) (suc n) = omega (arith, sum_split c n)

-- and then the header
pub put_head : (w : ℕ) (v : Vector) (r b x y : List ℕ) (place end : ℕ) → x ≡ inserted r b place end (length r)
    → y ≡ header_of w v ++ drop 32 x → y ≡ headed_by w v r b place end
unfolding headed_by
put_head w v r b x y place end e i = i ∙ rw e

---- adding n ops: v are the held counts

module _ (v : Vector) (s n k : ℕ) (is : k ≡ get_or v (s - 1) 0) where
  pub more_fits : count_in v s + n ≤ 255 → k + n < 2 ^ 8
  unfolding count_in
  more_fits h = omega arith

  pub more_is : set v (s - 1) (k + n) ≡ set v (s - 1) (count_in v s + n)
  unfolding count_in
  more_is = rw is

module _ (w : ℕ) (f : List ℕ) (v : Vector) (s : ℕ) (r : List ℕ) (n : ℕ) (t : Appendable w f v s r n) where
  pub append_long : 32 ≤ length f
  append_long = laid_long w f t.is_laid

  pub append_header : sound_header w f ≡ true
  append_header = laid_header w f t.is_laid

  pub append_below : count_in v s + n ≤ 255
  append_below = rw (t.held, counts_at f s t.low t.high) t.below

  -- where the file ends, and where the replica's ops end
  module _ (end : ℕ) (ie : end ≡ start_of w (header_counts f) 9) where
    end_there : end ≡ file_end w f
    end_there = ie ∙ end_is w f

    pub ops_fit : end + length r ≤ length f
    ops_fit = omega (arith, end_there, t.room, t.long)

    module _ (place : ℕ) (is : place ≡ start_of w (header_counts f) (s + 1)) where
      pub place_before : place ≤ end
      place_before = omega (arith, end_there, start_within w f s)

      pub append_all_law : (c : Vector) → c ≡ set v (s - 1) (count_in v s + n) → (b : List ℕ) → b ≡ headed_by w c r f place end
          → b ≡ appended_all w f s (chunks w n r)
      unfolding count_in headed_by
      append_all_law c ic b ib =
          let ops : List Op = chunks w n r in
          let many : length ops ≡ n = length_chunks w n r in
          let all : concat ops ≡ r = concat_chunks w n r ∙ take_all (w * n) r (omega (arith, t.long)) in
          let k : c ≡ counts_of (append_all (log_of w f) s ops) =
          ic ∙ rw t.held (sym (counts_more w f s t.low t.high ops ∙ rw many)) in
          let whole = inserted_appended w f s t.low t.high ops t.is_laid in
          ib ∙ rw (k, is, end_there, t.long) (rw (all, many) at whole)

---- what the code of appending needs: search appending
pub ruleset shifting = (shift_front, put_back, put_head)

pub ruleset adding = (more_fits, more_is, append_long, append_header, append_below, place_before, ops_fit, append_all_law)

pub ruleset appending = (rules, shifting, adding)
