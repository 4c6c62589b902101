-- The header of a file, entry by entry, as the code reads and writes it.
use mathlib.Core.Path.{◌≡◌, refl, sym, ◌∙◌}
use mathlib.Core.Bool.{Bool, true, false, ◌&&◌, and-eq-true_iff}
use mathlib.Core.List.{List, [], ◌∷◌, map, ◌++◌, append-nil, append_assoc, map-append}
use Prim.Native.Nat.{ℕ, zero, suc, ◌+◌, ◌*◌, ◌-◌, ◌/◌, ◌%◌, ◌^◌, ◌≤◌, ◌<◌}
use native.Mathlib.Omega.{arith}
use native.Mathlib.Nat.{mul-add, mul-zero, mul-le-mul, mul-le-mul_left}
use lib.ListN.{length, take, drop, get_or, set, length-append, length-drop}
use lib.Seq.{take_all, take_at, drop-drop, drop-append-add, sets-eq}
use lib.Dec.{leb, eqb, lit<}
use Rattle.std.specs.List.{range_with_len}
use borrow.Author.Rules.{rules}
use borrow.Author.Tests.{leb-true, eqb-true, le-leb, lt-leb}
use Rattle.lists.specs.Lists.{up_from, concat, sum}
use Rattle.lists.proofs.BoolLaws.{and_right, and_left, tested}
use Rattle.lists.proofs.ListLaws.{sum_suc, sum_take, concat_append}
use Rattle.lists.proofs.NumberLaws.{product_small}
use Rattle.lists.proofs.RangeLaws.{up_from_add}
use Rattle.rules.specs.File.{file_end, start_at, start_of, count_at, header_entry, header_counts, header_of, end_of}
use Rattle.rules.specs.Log.{sound_header, laid}
use Rattle.rules.specs.Op.{count_in, Vector, replicas}
use Rattle.rules.specs.Bytes.{word_at, word}
use Rattle.rules.proofs.FileLaws.{counts_at, length_counts}
use Rattle.rules.proofs.ReplicaLaws.{pass_all, pass_turn, pass_end, replica_passes, pass_from}
use Rattle.rules.proofs.StructureLaws.{laid_reads}
use Rattle.vector.proofs.VectorLaws.{count_of}
use Rattle.oplog.specs.Header.{entry_right, with_entry}

---- starts by counts

pub start_first : (w : ℕ) (counts : Vector) → start_of w counts 1 ≡ 32
unfolding start_of sum
start_first w counts = rw mul-zero

start_next : (w : ℕ) (counts : Vector) (i : ℕ) → i < length counts
    → start_of w counts (i + 1 + 1) ≡ start_of w counts (i + 1) + w * count_in counts (i + 1)
unfolding start_of count_in
start_next w counts i h =
    let e : i + 1 + 1 - 1 ≡ suc i = omega arith in
    let e' : i + 1 - 1 ≡ i = omega arith in
    rw (e, e', sum_suc counts i h, mul-add w (sum (take i counts)) (get_or counts i 0)) (omega arith)

pub start_after : (w : ℕ) (f : List ℕ) (s : ℕ) → 1 ≤ s → s ≤ 8
    → start_of w (header_counts f) (s + 1) ≡ start_of w (header_counts f) s + w * count_at f s
start_after w f s l u =
    let e : s - 1 + 1 ≡ s = omega arith in
    rw (e, counts_at f s l u) at (start_next w (header_counts f) (s - 1) (omega (arith, length_counts f)))

pub end_is : (w : ℕ) (f : List ℕ) → start_of w (header_counts f) 9 ≡ file_end w f
unfolding start_of file_end end_of
end_is w f = rw (take_all 8 (header_counts f) (omega (arith, length_counts f)))

-- every start lies within the file
pub start_within : (w : ℕ) (f : List ℕ) (s : ℕ) → start_of w (header_counts f) (s + 1) ≤ file_end w f
unfolding start_of file_end end_of
start_within w f s =
    let e : s + 1 - 1 ≡ s = omega arith in
    rw e (let m : w * sum (take s (header_counts f)) ≤ w * sum (header_counts f) = mul-le-mul_left w
    (omega (arith, sum_take (header_counts f) s)) in omega arith)

---- an entry: n is the count that was read, m the start

module _ (f : List ℕ) (s : ℕ) where
  pub count_read : (n x : ℕ) → n ≡ x → x ≡ word_at f (4 * (s - 1)) → n ≡ count_at f s
  unfolding count_at
  count_read n x e h = e ∙ h

  pub start_read : (m x : ℕ) → m ≡ x → x ≡ word_at f (4 * (s - 1) + 2) → m ≡ start_at f s
  unfolding start_at
  start_read m x e h = e ∙ h

  module _ (n : ℕ) (e : n ≡ count_at f s) (start : ℕ) where
    pub entry_large : (k : ℕ) → k < n → 255 ≤ k → false ≡ entry_right f s start
    unfolding entry_right
    entry_large k h l = rw (← e, lt-leb n 255 (omega arith))

    pub entry_small : n ≤ 255 → (m : ℕ) → m ≡ start_at f s → eqb m start ≡ entry_right f s start
    unfolding entry_right
    entry_small h m x = rw (← e, le-leb n 255 h, x)

  entry_parts : (start : ℕ) → entry_right f s start ≡ true → (count_at f s ≤ 255) × (start_at f s ≡ start)
  unfolding entry_right
  entry_parts start e =
      (leb-true _ _ (and_left (leb (count_at f s) 255) _ e), eqb-true _ _ (and_right (leb (count_at f s) 255) _ e))

---- entry after entry

module _ (w : ℕ) (f : List ℕ) where
  unfoldable pub right_at : ℕ → Bool
  right_at s = entry_right f s (start_of w (header_counts f) s)

  header_by : sound_header w f ≡ pass_from right_at 0
  unfolding sound_header right_at entry_right
  header_by = pass_all right_at

  header_entry_law : sound_header w f ≡ true → (s : ℕ) → 1 ≤ s → s ≤ 8 → (count_at f s ≤ 255) × (start_at f s ≡ start_of w (header_counts f) s)
  unfolding sound_header entry_right right_at
  header_entry_law t s a b = entry_parts f s (start_of w (header_counts f) s) (replica_passes right_at t s a b)

-- the first i entries are right, and the next should start at `start`
pub record EntriesRight (w : ℕ) (f : List ℕ) (start i : ℕ) : Type 0 where
  pub narrow : w ≤ 255
  pub few : i ≤ 8
  pub next : start_of w (header_counts f) (i + 1) ≡ start
  pub bound : start ≤ 32 + 65025 * i
  pub left : sound_header w f ≡ pass_from (right_at w f) i

module _ (w : ℕ) (f : List ℕ) where
  pub header_first : w ≤ 255 → EntriesRight w f 32 0
  header_first h = record {
    narrow = h;
    few = omega arith;
    next = start_first w (header_counts f);
    bound = omega arith;
    left = header_by w f;
  }

  module _ (start i : ℕ) (t : EntriesRight w f start i) where
    header_turn : i < 8 → sound_header w f ≡ (entry_right f (i + 1) start && pass_from (right_at w f) (i + 1))
    unfolding right_at
    header_turn h = t.left ∙ pass_turn (right_at w f) i h ∙ rw t.next

    module _ (h : i < 8) where
      pub header_wrong : entry_right f (i + 1) start ≡ false → false ≡ sound_header w f
      header_wrong e = sym (header_turn h ∙ rw e)

      module _ (e : entry_right f (i + 1) start ≡ true) (n : ℕ) (is : n ≡ count_at f (i + 1)) where
        header_few : w * n ≤ 65025
        header_few = product_small w n t.narrow (omega (arith, (entry_parts f (i + 1) start e).0))

        pub header_size : w * n < 2 ^ 64
        header_size = omega (arith, header_few)

        pub header_sum : start + w * n < 2 ^ 64
        header_sum = omega (arith, header_few, t.bound)

        pub header_next : EntriesRight w f (start + w * n) (i + 1)
        header_next = record {
          narrow = t.narrow;
          few = omega arith;
          next = start_after w f (i + 1) (omega arith) (omega arith) ∙ rw (t.next, is);
          bound = omega (arith, header_few, t.bound);
          left = header_turn h ∙ rw e;
        }

    pub header_last : 8 ≤ i → true ≡ sound_header w f
    header_last h = sym (t.left ∙ pass_end (right_at w f) i h)

---- where the bodies of a replica end

module _ (w : ℕ) (f : List ℕ) (t : sound_header w f ≡ true) (s : ℕ) (l : 1 ≤ s) (u : s ≤ 8) where
  module _ (n : ℕ) (is : n ≡ count_at f s) where
    end_few : w ≤ 255 → w * n ≤ 65025
    end_few h = product_small w n h (omega (arith, (header_entry_law w f t s l u).0))

    pub end_size : w ≤ 255 → w * n < 2 ^ 64
    end_size h = omega (arith, end_few h)

    pub end_sum : w ≤ 255 → (m : ℕ) → m < 65536 → m + w * n < 2 ^ 64
    end_sum h m b = omega (arith, end_few h)

    pub end_read : (m : ℕ) → m ≡ start_at f s → m + w * n ≡ start_of w (header_counts f) (s + 1)
    end_read m e = rw (e, is, (header_entry_law w f t s l u).1) (sym (start_after w f s l u))

---- the held counts

-- a count stands in the low byte of its entry
low_count : (f : List ℕ) (i : ℕ) → count_at f (i + 1) ≤ 255 → count_at f (i + 1) ≡ get_or f (4 * i + 1) 0
unfolding word_at count_at
low_count f i h =
    let k : i + 1 - 1 ≡ i = omega arith in
    let e : count_at f (i + 1) ≡ get_or f (4 * i) 0 * 256 + get_or f (4 * i + 1) 0 = rw k in
    omega arith

-- the counts, byte by byte
pub counts_bytes : (w : ℕ) (f : List ℕ) → sound_header w f ≡ true
    → map (λ i. get_or f (4 * i + 1) 0) (range_with_len 0 8) ≡ header_counts f
unfolding header_counts replicas up_from
counts_bytes w f e =
    let at : (i : ℕ) → i < 8 → count_at f (i + 1) ≡ get_or f (4 * i + 1) 0 =
    λ i h. low_count f i (header_entry_law w f e (i + 1) (omega arith) (omega arith)).0 in
    rw (at 0 (lit< tt), at 1 (lit< tt), at 2 (lit< tt), at 3 (lit< tt), at 4 (lit< tt), at 5 (lit< tt), at 6 (lit< tt), at 7 (lit< tt))

---- writing an entry

module _ (b x y : List ℕ) (i n m : ℕ) where
  pub entry_put : 4 * i + 4 ≤ length b → x ≡ set (set b (4 * i) (n / 256)) (4 * i + 1) (n % 256)
      → y ≡ set (set x (4 * i + 2) (m / 256)) (4 * i + 2 + 1) (m % 256)
      → y ≡ with_entry b i n m
  unfolding word with_entry
  entry_put h p q =
      let e1 : 4 * i + 1 ≡ suc (4 * i) = omega arith in
      let e2 : 4 * i + 2 ≡ suc (suc (4 * i)) = omega arith in
      let e3 : 4 * i + 2 + 1 ≡ suc (suc (suc (4 * i))) = omega arith in
      q ∙ rw (p, e3, e2, e1) (sets-eq (n / 256 ∷ n % 256 ∷ m / 256 ∷ m % 256 ∷ []) b (4 * i) h ∙ rw append_assoc)

---- writing the header

-- the entries of the first i replicas
unfoldable pub entries : ℕ → Vector → ℕ → List ℕ
entries w counts i = concat (map (header_entry w counts) (up_from 1 i))

entries_length : (w : ℕ) (counts : Vector) (i : ℕ) → length (entries w counts i) ≡ 4 * i
unfolding entries concat up_from header_entry word
entries_length w counts i = go i 1
  where
    go : (n a : ℕ) → length (concat (map (header_entry w counts) (up_from a n))) ≡ 4 * n
    go zero a = refl
    go (suc n) a = let h = go n (suc a) in omega arith

entries_next : (w : ℕ) (counts : Vector) (i : ℕ) → entries w counts (i + 1) ≡ entries w counts i ++ header_entry w counts (i + 1)
unfolding entries up_from concat
entries_next w counts i =
    let e : 1 + i ≡ i + 1 = omega arith in
    rw (up_from_add 1 i 1, map-append, concat_append, append-nil, e)

-- b is a with the first i entries of the header written over it; the next starts at `start`
pub record HeaderWritten (w : ℕ) (counts : Vector) (a b : List ℕ) (start i : ℕ) : Type 0 where
  pub narrow : w ≤ 16
  pub eight : length counts ≡ 8
  pub long : 32 ≤ length a
  pub same : length b ≡ length a
  pub few : i ≤ 8
  pub next : start_of w counts (i + 1) ≡ start
  pub bound : start ≤ 32 + 4080 * i
  pub written : b ≡ entries w counts i ++ drop (4 * i) a

module _ (w : ℕ) (counts : Vector) (a : List ℕ) where
  pub write_first : w ≤ 16 → length counts ≡ 8 → 32 ≤ length a → HeaderWritten w counts a a 32 0
  unfolding entries up_from concat
  write_first n e h = record {
    narrow = n;
    eight = e;
    long = h;
    same = refl;
    few = omega arith;
    next = start_first w counts;
    bound = omega arith;
    written = refl;
  }

  module _ (b : List ℕ) (start i : ℕ) (t : HeaderWritten w counts a b start i) where
    module _ (n : ℕ) (is : n ≡ get_or counts i 0) (small : get_or counts i 0 < 256) where
      write_few : w * n ≤ 4080
      write_few = let h : n ≤ 255 = omega arith in mul-le-mul t.narrow h

      pub write_size : w * n < 2 ^ 64
      write_size = omega (arith, write_few)

      pub write_short : w * n < 2 ^ 16
      write_short = omega (arith, write_few)

      pub write_sum : i < 8 → start + w * n < 2 ^ 16
      write_sum h = omega (arith, write_few, t.bound)

      module _ (h : i < 8) (d : List ℕ) where
        pub write_next : d ≡ with_entry b i (get_or counts i 0) start → HeaderWritten w counts a d (start + w * n) (i + 1)
        unfolding header_entry with_entry
        write_next e =
            let p : List ℕ = entries w counts i in
            let k : length p ≡ 4 * i = entries_length w counts i in
            let q : 4 * i + 4 ≡ length p + 4 = omega arith in
            let m : 4 * i + 4 ≡ 4 * (i + 1) = omega arith in
            let z : drop (4 * i + 4) (p ++ drop (4 * i) a) ≡ drop (4 * (i + 1)) a =
            rw (q, drop-append-add p (drop (4 * i) a) 4, drop-drop 4 (4 * i) a, m) in
            let x : d ≡ entries w counts (i + 1) ++ drop (4 * (i + 1)) a =
            e ∙ rw (t.written, take_at p (drop (4 * i) a) (4 * i) k, z, ← t.next, ← count_of counts i)
            (rw (entries_next w counts i, append_assoc p _ _)) in
            record {
              narrow = t.narrow;
              eight = t.eight;
              long = t.long;
              same = rw (x, length-append, length-drop, entries_length w counts (i + 1)) (omega (arith, t.long));
              few = omega arith;
              next = start_next w counts i (omega (arith, t.eight)) ∙ rw (t.next, count_of counts i, ← is);
              bound = omega (arith, write_few, t.bound);
              written = x;
            }

    pub write_last : 8 ≤ i → b ≡ header_of w counts ++ drop 32 a
    unfolding entries header_of replicas
    write_last h = let e : i ≡ 8 = omega (arith, t.few) in t.written ∙ rw e

---- a file's layout, test by test

module _ (w : ℕ) (f : List ℕ) where
  pub laid_short : length f < 32 → false ≡ laid w f
  unfolding laid
  laid_short h = rw (lt-leb 32 (length f) h)

  module _ (l : 32 ≤ length f) where
    pub laid_wrong : sound_header w f ≡ false → false ≡ laid w f
    unfolding laid
    laid_wrong e = rw (le-leb 32 (length f) l, e)

    pub laid_fits : sound_header w f ≡ true → (n : ℕ) → n ≡ start_of w (header_counts f) 9 → leb n (length f) ≡ laid w f
    unfolding laid
    laid_fits e n is = rw (le-leb 32 (length f) l, e, is, end_is w f)

  pub laid_long : laid w f ≡ true → 32 ≤ length f
  laid_long e = (laid_reads w f e).header

  pub laid_header : laid w f ≡ true → sound_header w f ≡ true
  unfolding laid
  laid_header e = let h = simp and-eq-true_iff at e in h.0.1

---- what the code of the header needs: search heading
pub ruleset reading = (
  count_read,
  start_read,
  entry_large,
  entry_small,
  header_first,
  header_wrong,
  header_size,
  header_sum,
  header_next,
  header_last,
  end_size,
  end_sum,
  end_read,
)

pub ruleset writing = (entry_put, write_first, write_size, write_short, write_sum, write_next, write_last)

pub ruleset heading = (rules, tested, reading, writing)
