-- Laws of the layout: bytes to log and back.
use mathlib.Core.Path.{◌≡◌, refl, sym, ap, ◌∙◌}
use mathlib.Core.List.{List, ◌∷◌, ◌++◌, map, append_assoc, []}
use Prim.Native.Nat.{ℕ, zero, suc, ◌+◌, ◌*◌, ◌-◌, ◌≤◌, ◌<◌}
use native.Mathlib.Nat.{mul-zero, mul-add, div-add-mod', not-suc-le-zero, le_of_suc-le-suc}
use native.Mathlib.Numerals.{unary_clauses}
use native.Mathlib.Omega.{arith}
use lib.ListN.{length, take, drop, get_or, set, length-append, length-take, length-drop, length-map, take-append-drop}
use lib.Seq.{take-add, drop-drop, take_at, drop_at, drop-cons}
use lib.Arith.{digits_div, digits_mod}
use Rattle.rules.specs.Bytes.{byte, word_at, word}
use Rattle.lists.specs.Lists.{up_from, sum, concat}
use Rattle.rules.specs.Op.{Op, Vector, replicas, count_in}
use Rattle.rules.specs.File.{Log, empty_log, ops_of, counts_of, count_at, start_at, header_counts, start_of, end_of, file_end, chunks, chunks_of, log_of, header_entry, header_of, file_of}
use Rattle.lists.proofs.ListLaws.{concat_append}
use Rattle.lists.proofs.RangeLaws.{map_get_d}
use Rattle.lists.proofs.NumberLaws.{mul_step}
use Rattle.rules.proofs.ReplicaLaws.{map_replicas, replica_cases}

---- chunks

pub length_chunks : (w n : ℕ) (bs : List ℕ) → length (chunks w n bs) ≡ n
unfolding chunks
length_chunks w zero bs = refl
length_chunks w (suc n) bs = ap suc (length_chunks w n (drop w bs))

pub concat_chunks : (w n : ℕ) (bs : List ℕ) → concat (chunks w n bs) ≡ take (w * n) bs
unfolding chunks concat
concat_chunks w zero bs = rw mul-zero
concat_chunks w (suc n) bs = rw (mul_step, take-add, concat_chunks w n (drop w bs))

pub chunk_at : (w n : ℕ) (bs : List ℕ) (i : ℕ) → i < n → get_or (chunks w n bs) i [] ≡ take w (drop (w * i) bs)
unfolding chunks
chunk_at w zero bs i h = absurd (not-suc-le-zero h)
chunk_at w (suc n) bs zero h = rw mul-zero
chunk_at w (suc n) bs (suc i) h = rw (chunk_at w n (drop w bs) i (le_of_suc-le-suc h), drop-drop, mul_step)

counts_chunks_of : (w : ℕ) (ns bs : List ℕ) → map length (chunks_of w ns bs) ≡ ns
unfolding chunks_of
counts_chunks_of w [] bs = refl
counts_chunks_of w (n ∷ ns) bs = rw (length_chunks, counts_chunks_of w ns (drop (w * n) bs))

pub bodies_chunks_of : (w : ℕ) (ns bs : List ℕ) → concat (concat (chunks_of w ns bs)) ≡ take (w * sum ns) bs
unfolding chunks_of sum concat
bodies_chunks_of w [] bs = rw mul-zero
bodies_chunks_of w (n ∷ ns) bs =
    rw (
      concat_append (chunks w n bs) (concat (chunks_of w ns (drop (w * n) bs))),
      concat_chunks,
      bodies_chunks_of w ns (drop (w * n) bs),
      mul-add w n (sum ns),
      take-add,
    )

pub ops_chunks_of : (w : ℕ) (ns bs : List ℕ) (i : ℕ) → i < length ns
    → get_or (chunks_of w ns bs) i [] ≡ chunks w (get_or ns i 0) (drop (w * sum (take i ns)) bs)
unfolding chunks_of sum
ops_chunks_of w [] bs i h = absurd (not-suc-le-zero h)
ops_chunks_of w (n ∷ ns) bs zero h = rw mul-zero
ops_chunks_of w (n ∷ ns) bs (suc i) h =
    rw (ops_chunks_of w ns (drop (w * n) bs) i (le_of_suc-le-suc h), drop-drop, ← mul-add w n (sum (take i ns)))

-- a vector and a log are made of what they have for each replica
pub vector_eta : (v : Vector) → length v ≡ 8 → map (count_in v) replicas ≡ v
unfolding count_in replicas
vector_eta v e = rw (← e) (map_get_d 0 v 1)

pub log_eta : (log : Log) → length log ≡ 8 → map (ops_of log) replicas ≡ log
unfolding ops_of replicas
log_eta log e = rw (← e) (map_get_d [] log 1)

pub count_map : (F : ℕ → ℕ) (s : ℕ) → 1 ≤ s → s ≤ 8 → count_in (map F replicas) s ≡ F s
unfolding count_in replicas up_from
count_map F = replica_cases (λ s. count_in (map F replicas) s ≡ F s) refl refl refl refl refl refl refl refl

pub counts_at : (f : List ℕ) (s : ℕ) → 1 ≤ s → s ≤ 8 → count_in (header_counts f) s ≡ count_at f s
unfolding header_counts
counts_at f s l u = count_map (count_at f) s l u

pub length_counts : (f : List ℕ) → length (header_counts f) ≡ 8
unfolding header_counts replicas up_from
length_counts f = refl

---- the log of a log's file

-- every op has w bytes
abbrev pub Wide : ℕ → List Op → Type 0
Wide w [] = Unit {0}
Wide w (r ∷ rs) = (length r ≡ w) × Wide w rs

abbrev pub WideLog : ℕ → Log → Type 0
WideLog w [] = Unit {0}
WideLog w (ops ∷ rest) = Wide w ops × WideLog w rest

header_counts_law : (w : ℕ) (c t : List ℕ) → header_counts (header_of w c ++ t) ≡ map (count_in c) replicas
unfolding header_counts count_at word_at replicas up_from header_of header_entry concat word
header_counts_law w c t = simp div-add-mod'

header_drop : (w : ℕ) (c t : List ℕ) → drop 32 (header_of w c ++ t) ≡ t
unfolding replicas up_from header_of header_entry concat word
header_drop w c t = refl

pub chunks_concat : (w : ℕ) (ops : List Op) (t : List ℕ) → Wide w ops → chunks w (length ops) (concat ops ++ t) ≡ ops
unfolding chunks concat
chunks_concat w [] t h = refl
chunks_concat w (r ∷ rs) t h = rw (
  append_assoc,
  take_at r (concat rs ++ t) w h.0,
  drop_at r (concat rs ++ t) w h.0,
  chunks_concat w
      rs t h.1,
)

pub drop_concat : (w : ℕ) (ops : List Op) (t : List ℕ) → Wide w ops → drop (w * length ops) (concat ops ++ t) ≡ t
unfolding concat
drop_concat w [] t h = rw mul-zero
drop_concat w (r ∷ rs) t h = rw (
  mul_step,
  ← drop-drop (w * length rs) w,
  append_assoc,
  drop_at r (concat rs ++ t) w h.0,
  drop_concat w
      rs t h.1,
)

chunks_of_bodies : (w : ℕ) (log : Log) (t : List ℕ) → WideLog w log → chunks_of w (map length log) (concat (concat log) ++ t) ≡ log
unfolding chunks_of concat
chunks_of_bodies w [] t h = refl
chunks_of_bodies w (ops ∷ rest) t h =
    rw (
      concat_append ops (concat rest),
      append_assoc,
      chunks_concat w ops (concat (concat rest) ++ t) h.0,
      drop_concat w ops
          (concat (concat rest) ++ t) h.0,
      chunks_of_bodies w rest t h.1,
    )

pub log_of_file_of : (w : ℕ) (log : Log) (t : List ℕ) → length log ≡ 8 → WideLog w log → log_of w (file_of w log ++ t) ≡ log
unfolding log_of file_of counts_of
log_of_file_of w log t e h =
    rw (append_assoc, header_counts_law, header_drop, vector_eta (map length log) (length-map log length ∙ e), chunks_of_bodies w log t h)

---- a sound file is its log's

-- n bytes from i on, one by one
take_bytes : (f : List ℕ) (n i : ℕ) → i + n ≤ length f → take n (drop i f) ≡ map (byte f) (up_from i n)
unfolding up_from
take_bytes f zero i h = refl
take_bytes f (suc n) i h = rw (drop-cons f i 0 (omega arith), take_bytes f n (suc i) (omega arith))

word_word_at : (f : List ℕ) (i : ℕ) → byte f (i + 1) < 256 → word (word_at f i) ≡ byte f i ∷ byte f (i + 1) ∷ []
unfolding word word_at
word_word_at f i h = rw (digits_div (byte f i) h, digits_mod (byte f i) h)

-- a header whose starts are right is the header of its counts
module _ (w : ℕ) (f : List ℕ) (bytes : (i : ℕ) → byte f i < 256) (starts : (s : ℕ) → 1 ≤ s → s ≤ 8
    → start_at f s ≡ start_of w (header_counts f) s) where
  entry_bytes : (s : ℕ) → 1 ≤ s → s ≤ 8 → map (byte f) (up_from (4 * (s - 1)) 4) ≡ header_entry w (header_counts f) s
  unfolding header_entry up_from count_at start_at
  entry_bytes s l u =
      rw (counts_at f s l u, ← starts s l u, word_word_at f _ (bytes _), word_word_at f _ (bytes _)) (simp unary_clauses)

  pub header_bytes : 32 ≤ length f → take 32 f ≡ header_of w (header_counts f)
  unfolding header_of replicas up_from concat
  header_bytes l = take_bytes f 32 0 (omega arith) ∙ ap concat (map_replicas (λ s. map (byte f) (up_from (4 * (s - 1)) 4))
      (header_entry w (header_counts f)) entry_bytes)

pub file_of_log_of : (w : ℕ) (f : List ℕ) → take 32 f ≡ header_of w (header_counts f) → take (file_end w f) f ≡ file_of w (log_of w f)
unfolding file_end end_of file_of log_of counts_of
file_of_log_of w f t = rw (take-add, counts_chunks_of, bodies_chunks_of, t)

---- widths and lengths

pub wide_chunks : (w n : ℕ) (bs : List ℕ) → w * n ≤ length bs → Wide w (chunks w n bs)
unfolding chunks
wide_chunks w zero bs h = tt
wide_chunks w (suc n) bs h =
    (simp length-take (omega (arith, mul_step w n)), wide_chunks w n (drop w bs) (simp length-drop (omega (arith, mul_step w n))))

wide_chunks_of : (w : ℕ) (ns bs : List ℕ) → w * sum ns ≤ length bs → WideLog w (chunks_of w ns bs)
unfolding chunks_of sum
wide_chunks_of w [] bs h = tt
wide_chunks_of w (n ∷ ns) bs h = (
  wide_chunks w n bs (omega (arith, mul-add w n (sum ns))),
  wide_chunks_of w ns (drop (w * n) bs)
      (simp length-drop (omega (arith, mul-add w n (sum ns)))),
)

pub wide_last : (w : ℕ) (ops : List Op) (r : Op) → Wide w ops → length r ≡ w → Wide w (ops ++ (r ∷ []))
wide_last w [] r h e = (e, tt)
wide_last w (x ∷ ops) r h e = (h.0, wide_last w ops r h.1 e)

pub wide_take : (w i : ℕ) (ops : List Op) → Wide w ops → Wide w (take i ops)
wide_take w zero ops h = tt
wide_take w (suc i) [] h = tt
wide_take w (suc i) (r ∷ ops) h = (h.0, wide_take w i ops h.1)

pub wide_drop : (w i : ℕ) (ops : List Op) → Wide w ops → Wide w (drop i ops)
wide_drop w zero ops h = h
wide_drop w (suc i) [] h = tt
wide_drop w (suc i) (r ∷ ops) h = wide_drop w i ops h.1

pub wide_both : (w : ℕ) (a b : List Op) → Wide w a → Wide w b → Wide w (a ++ b)
wide_both w [] b h k = k
wide_both w (r ∷ a) b h k = (h.0, wide_both w a b h.1 k)

pub wide_at : (w : ℕ) (log : Log) (i : ℕ) → WideLog w log → Wide w (get_or log i [])
wide_at w [] i h = tt
wide_at w (x ∷ log) zero h = h.0
wide_at w (x ∷ log) (suc i) h = wide_at w log i h.1

pub wide_op : (w : ℕ) (ops : List Op) (i : ℕ) → Wide w ops → i < length ops → length (get_or ops i []) ≡ w
wide_op w [] i h l = absurd (not-suc-le-zero l)
wide_op w (r ∷ ops) zero h l = h.0
wide_op w (r ∷ ops) (suc i) h l = wide_op w ops i h.1 (le_of_suc-le-suc l)

pub wide_set : (w : ℕ) (log : Log) (i : ℕ) (ops : List Op) → WideLog w log → Wide w ops → WideLog w (set log i ops)
wide_set w [] i ops h e = tt
wide_set w (x ∷ log) zero ops h e = (e, h.1)
wide_set w (x ∷ log) (suc i) ops h e = (h.0, wide_set w log i ops h.1 e)

pub length_ops : (w : ℕ) (ops : List Op) → Wide w ops → length (concat ops) ≡ w * length ops
unfolding concat
length_ops w [] h = sym (mul-zero w)
length_ops w (r ∷ rs) h = rw (length-append, mul_step, length_ops w rs h.1, h.0)

length_bodies : (w : ℕ) (log : Log) → WideLog w log → length (concat (concat log)) ≡ w * sum (map length log)
unfolding concat sum
length_bodies w [] h = sym (mul-zero w)
length_bodies w (ops ∷ log) h = rw (concat_append, length-append, length_ops w ops h.0, length_bodies w log h.1, mul-add)

---- the log of a file, and the file of a log

pub length_log_of : (w : ℕ) (f : List ℕ) → length (log_of w f) ≡ 8
unfolding log_of
length_log_of w f = sym (length-map (chunks_of w (header_counts f) (drop 32 f)) length)
    ∙ ap length (counts_chunks_of w (header_counts f) (drop 32 f)) ∙ length_counts f

pub counts_log_of : (w : ℕ) (f : List ℕ) → counts_of (log_of w f) ≡ header_counts f
unfolding log_of counts_of
counts_log_of w f = counts_chunks_of w (header_counts f) (drop 32 f)

pub wide_log_of : (w : ℕ) (f : List ℕ) → file_end w f ≤ length f → WideLog w (log_of w f)
unfolding log_of file_end end_of
wide_log_of w f h = wide_chunks_of w (header_counts f) (drop 32 f) (simp length-drop (omega arith))

pub header_starts : (w : ℕ) (c t : List ℕ) (s : ℕ) → 1 ≤ s → s ≤ 8 → start_at (header_of w c ++ t) s ≡ start_of w c s
unfolding start_at word_at replicas up_from header_of header_entry concat word
header_starts w c t =
    replica_cases (λ s. start_at (header_of w c ++ t) s ≡ start_of w c s)
    (div-add-mod' _ _) (div-add-mod' _ _) (div-add-mod' _ _) (div-add-mod' _ _) (div-add-mod' _ _) (div-add-mod' _ _) (div-add-mod' _ _)
    (div-add-mod' _ _)

pub file_counts : (w : ℕ) (log : Log) (t : List ℕ) → length log ≡ 8 → header_counts (file_of w log ++ t) ≡ counts_of log
unfolding file_of counts_of
file_counts w log t e = rw (append_assoc, header_counts_law, vector_eta (map length log) (length-map log length ∙ e))

pub length_file : (w : ℕ) (log : Log) → WideLog w log → length (file_of w log) ≡ end_of w (counts_of log)
unfolding file_of counts_of end_of header_of replicas up_from concat header_entry word
length_file w log h = omega (arith, length_bodies w log h)

pub file_end_law : (w : ℕ) (log : Log) (t : List ℕ) → length log ≡ 8 → file_end w (file_of w log ++ t) ≡ end_of w (counts_of log)
unfolding file_end
file_end_law w log t e = ap (end_of w) (file_counts w log t e)

---- a file in front of its buffer

-- a buffer is the file of its log, and what lies past it
abbrev pub InFront : ℕ → List ℕ → Type 0
InFront w f = f ≡ file_of w (log_of w f) ++ drop (file_end w f) f

module _ (w : ℕ) (f : List ℕ) where
  pub front_of : take (file_end w f) f ≡ file_of w (log_of w f) → InFront w f
  front_of e = rw (← e) (sym (take-append-drop (file_end w f) f))

  module _ (fits : file_end w f ≤ length f) where
    pub length_front : length (file_of w (log_of w f)) ≡ file_end w f
    unfolding file_end
    length_front = rw (length_file w (log_of w f) (wide_log_of w f fits), counts_log_of)

    pub front_reads : InFront w f → take (file_end w f) f ≡ file_of w (log_of w f)
    front_reads e = ap (take (file_end w f)) e ∙ take_at (file_of w (log_of w f)) _ _ length_front

pub empty_end : (w : ℕ) → end_of w (counts_of empty_log) ≡ 32
unfolding end_of counts_of empty_log sum
empty_end w = rw mul-zero

pub end_header : (w : ℕ) (counts : Vector) → 32 ≤ end_of w counts
unfolding end_of
end_header w counts = omega arith
