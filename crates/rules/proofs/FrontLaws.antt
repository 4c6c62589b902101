-- The front of a buffer that has the whole file in it: it holds the same log.
use Prim.Native.Nat.{ℕ, zero, suc, ◌+◌, ◌*◌, ◌-◌, ◌≤◌, ◌<◌}
use borrow.Author.Tests.{le-leb}
use lib.Dec.{leb}
use lib.ListN.{length, length-take, take, drop}
use lib.Seq.{get_or-take, take-take}
use mathlib.Core.Bool.{true}
use mathlib.Core.List.{List, [], ◌∷◌}
use mathlib.Core.Path.{◌≡◌, refl, ap, ap₂, ◌∙◌}
use native.Mathlib.Nat.{mul-add}
use native.Mathlib.Omega.{arith}
use Rattle.lists.specs.Lists.{sum}
use Rattle.lists.proofs.BoolLaws.{and_left, and_right}
use Rattle.lists.proofs.ListLaws.{drop_take}
use Rattle.lists.proofs.NumberLaws.{mul_step}
use Rattle.lists.proofs.RangeLaws.{all_alike_from}
use Rattle.rules.specs.File.{chunks, chunks_of, count_at, end_of, file_end, header_counts, log_of, start_at}
use Rattle.rules.specs.Log.{laid, sound_header}
use Rattle.rules.specs.Bytes.{word_at}
use Rattle.rules.specs.Op.{replicas}
use Rattle.rules.specs.Sound.{sound}
use Rattle.rules.proofs.FileLaws.{end_header}
use Rattle.rules.proofs.ReplicaLaws.{map_replicas}
use Rattle.rules.proofs.SoundLaws.{sound_alike, sound_structural}
use Rattle.rules.proofs.StructureLaws.{structural_laid}

---- the header and the log

module _ (n : ℕ) (f : List ℕ) (l : 32 ≤ n) where
  words_front : (i : ℕ) → i + 1 < 32 → word_at (take n f) i ≡ word_at f i
  unfolding word_at
  words_front i h = rw (get_or-take n f i 0 (omega arith), get_or-take n f (i + 1) 0 (omega arith))

  counts_front : header_counts (take n f) ≡ header_counts f
  unfolding header_counts count_at
  counts_front = map_replicas (count_at (take n f)) (count_at f) (λ s a b. words_front (4 * (s - 1)) (omega arith))

  header_front : (w : ℕ) → sound_header w (take n f) ≡ sound_header w f
  unfolding sound_header replicas count_at start_at
  header_front w =
      all_alike_from _ _ 8 1
      (λ s a b. rw (words_front (4 * (s - 1)) (omega arith), words_front (4 * (s - 1) + 2) (omega arith), counts_front))

pub chunks_take : (w k m : ℕ) (bs : List ℕ) → w * k ≤ m → chunks w k (take m bs) ≡ chunks w k bs
unfolding chunks
chunks_take w zero m bs h = refl
chunks_take w (suc k) m bs h =
    let step : w * suc k ≡ w + w * k = mul_step w k in
    let e : m ≡ w + (m - w) = omega arith in
    ap₂ ◌∷◌ (take-take w m bs (omega arith)) (ap (λ (j : ℕ). chunks w k (drop w (take j bs))) e
    ∙ rw (drop_take w (m - w) bs) (chunks_take w k (m - w) (drop w bs) (omega arith)))

chunks_of_take : (w m : ℕ) (ns bs : List ℕ) → w * sum ns ≤ m → chunks_of w ns (take m bs) ≡ chunks_of w ns bs
unfolding chunks_of sum
chunks_of_take w m [] bs h = refl
chunks_of_take w m (k ∷ ns) bs h =
    let all_in : w * (k + sum ns) ≡ w * k + w * sum ns = mul-add w k (sum ns) in
    let e : m ≡ w * k + (m - w * k) = omega arith in
    ap₂ ◌∷◌ (chunks_take w k m bs (omega arith)) (ap (λ (j : ℕ). chunks_of w ns (drop (w * k) (take j bs))) e
    ∙ rw (drop_take (w * k) (m - w * k) bs) (chunks_of_take w (m - w * k) ns (drop (w * k) bs) (omega arith)))

module _ (w n : ℕ) (f : List ℕ) (inside : file_end w f ≤ n) where
  past_header : 32 ≤ n
  unfolding file_end
  past_header = omega (arith, end_header w (header_counts f))

  pub log_front : log_of w (take n f) ≡ log_of w f
  unfolding log_of file_end end_of
  log_front =
      let e : n ≡ 32 + (n - 32) = omega (arith, past_header) in
      rw (counts_front n f past_header)
      (ap (λ (j : ℕ). chunks_of w (header_counts f) (drop 32 (take j f))) e
      ∙ rw (drop_take 32 (n - 32) f) (chunks_of_take w (n - 32) (header_counts f) (drop 32 f) (omega arith)))

  pub end_front : file_end w (take n f) ≡ file_end w f
  unfolding file_end
  end_front = rw (counts_front n f past_header)

  module _ (l : n ≤ length f) (s : sound w f ≡ true) where
    pub front_length : length (take n f) ≡ n
    front_length = rw length-take (omega arith)

    pub sound_front : sound w (take n f) ≡ true
    unfolding laid
    sound_front =
        let h = structural_laid w f (sound_structural w f s) in
        let header : sound_header w f ≡ true = and_right (leb 32 (length f)) _ (and_left _ (leb (file_end w f) (length f)) h) in
        sound_alike w f (take n f) log_front
        (rw (header_front n f past_header w, end_front, front_length, header, le-leb 32 n past_header, le-leb (file_end w f) n inside)) s
