-- Laws of a holdback: its bytes and the ops that wait in it.
use mathlib.Core.Path.{◌≡◌, refl, sym, ap, ◌∙◌}
use mathlib.Core.Bool.{true, and-eq-true_iff}
use mathlib.Core.List.{List, [], ◌∷◌, ◌++◌, append-nil, append_assoc}
use Prim.Native.Nat.{ℕ, zero, suc, ◌+◌, ◌*◌, ◌-◌, ◌≤◌, ◌<◌}
use native.Mathlib.Nat.{mul-add, mul-le-mul_left, mul-zero, mul-one, add-zero, le_of_suc-le-suc}
use native.Mathlib.Omega.{arith}
use borrow.Author.Tests.{leb-true, eqb-true, le-leb, eq-eqb}
use lib.ListN.{length, take, drop, replicate, length-append, length-drop, length-replicate, take-append-drop, replicate-append-replicate}
use lib.Seq.{drop-drop}
use lib.Dec.{eqb}
use Rattle.lists.specs.Lists.{concat, all}
use Rattle.lists.proofs.BoolLaws.{and_both, and_left, and_right}
use Rattle.lists.proofs.ListLaws.{concat_append}
use Rattle.lists.proofs.NumberLaws.{mul_step}
use Rattle.rules.specs.Bytes.{byte}
use Rattle.rules.specs.Op.{Op}
use Rattle.rules.specs.File.{chunks}
use Rattle.rules.specs.Holdback.{places, holdback_ops, holdback_of, sound_holdback}
use Rattle.rules.proofs.FileLaws.{Wide, wide_chunks, length_chunks, concat_chunks, chunks_concat, drop_concat, length_ops}

---- zero bytes

all_zero : (n : ℕ) → all (eqb 0) (replicate n 0) ≡ true
unfolding all
all_zero zero = refl
all_zero (suc n) = all_zero n

zeros : (bs : List ℕ) → all (eqb 0) bs ≡ true → bs ≡ replicate (length bs) 0
unfolding all
zeros [] e = refl
zeros (b ∷ bs) e =
    let z : 0 ≡ b = eqb-true 0 b (and_left (eqb 0 b) _ e) in
    rw (← z) (ap (λ (t : List ℕ). 0 ∷ t) (zeros bs (and_right (eqb 0 b) _ e)))

all_drop : (k : ℕ) (bs : List ℕ) → all (eqb 0) bs ≡ true → all (eqb 0) (drop k bs) ≡ true
unfolding all
all_drop zero bs e = e
all_drop (suc k) [] e = e
all_drop (suc k) (b ∷ bs) e = all_drop k bs (and_right (eqb 0 b) _ e)

---- ops to bytes

-- the bytes of all places are those of n ops and of the others
split_places : (w n : ℕ) → n ≤ places → w * places ≡ w * n + w * (places - n)
split_places w n l = let e : n + (places - n) ≡ places = omega arith in ap (λ (k : ℕ). w * k) (sym e) ∙ mul-add w n (places - n)

module _ (w : ℕ) (ops : List Op) (h : Wide w ops) where
  pub ops_back : holdback_ops w (holdback_of w ops) ≡ ops
  unfolding holdback_ops holdback_of
  ops_back = chunks_concat w ops (replicate (w * (places - length ops)) 0) h

  pub holdback_sound : length ops ≤ places → sound_holdback w (holdback_of w ops) ≡ true
  unfolding sound_holdback holdback_of
  holdback_sound l =
      let size : length (holdback_of w ops) ≡ 1 + w * places =
      rw (length-append, length_ops w ops h, length-replicate) (omega (arith, split_places w (length ops) l)) in
      and_both (and_both (eq-eqb _ _ size) (le-leb (length ops) places l))
      (rw (drop_concat w ops (replicate (w * (places - length ops)) 0) h) (all_zero (w * (places - length ops))))

---- bytes to ops

pub ops_count : (w : ℕ) (t : List ℕ) → length (holdback_ops w t) ≡ byte t 0
unfolding holdback_ops
ops_count w t = length_chunks w (byte t 0) (drop 1 t)

-- what number 14 says
pub record SoundHoldback (w : ℕ) (t : List ℕ) : Type 0 where
  pub size : length t ≡ 1 + w * places
  pub few : byte t 0 ≤ places
  pub past : all (eqb 0) (drop (w * byte t 0) (drop 1 t)) ≡ true

module _ (w : ℕ) (t : List ℕ) (s : sound_holdback w t ≡ true) where
  pub sound_reads : SoundHoldback w t
  unfolding sound_holdback
  sound_reads =
      let x = simp and-eq-true_iff at s in
      record { size = eqb-true _ _ x.0.0; few = leb-true _ _ x.0.1; past = x.1 }

  pub ops_few : length (holdback_ops w t) ≤ places
  ops_few = rw (ops_count w t) sound_reads.few

  pub ops_wide : Wide w (holdback_ops w t)
  unfolding holdback_ops
  ops_wide =
      wide_chunks w (byte t 0) (drop 1 t) (omega (arith, length-drop 1 t, sound_reads.size, mul-le-mul_left w sound_reads.few))

-- a sound holdback is that of its ops
pub holdback_back : (w : ℕ) (t : List ℕ) → sound_holdback w t ≡ true → holdback_of w (holdback_ops w t) ≡ t
unfolding holdback_ops holdback_of
holdback_back w [] s = let e = (sound_reads w [] s).size in absurd (omega arith)
holdback_back w (b ∷ bs) s =
    let x = sound_reads w (b ∷ bs) s in
    let n : length (drop (w * b) bs) ≡ w * (places - b) = length-drop (w * b) bs ∙ omega (arith, x.size, split_places w b x.few) in
    let z : replicate (w * (places - b)) 0 ≡ drop (w * b) bs = rw (← n) (sym (zeros (drop (w * b) bs) x.past)) in
    rw (length_chunks w b bs, concat_chunks w b bs, z) (ap (λ (r : List ℕ). b ∷ r) (take-append-drop (w * b) bs))

---- an op more, an op less

take_chunks : (w i n : ℕ) (bs : List ℕ) → i ≤ n → take i (chunks w n bs) ≡ chunks w i bs
unfolding chunks
take_chunks w zero n bs h = refl
take_chunks w (suc i) zero bs h = absurd (omega arith)
take_chunks w (suc i) (suc n) bs h = ap (λ (t : List Op). take w bs ∷ t) (take_chunks w i n (drop w bs) (le_of_suc-le-suc h))

drop_chunks : (w i n : ℕ) (bs : List ℕ) → i ≤ n → drop i (chunks w n bs) ≡ chunks w (n - i) (drop (w * i) bs)
unfolding chunks
drop_chunks w zero n bs h = let a : n - 0 ≡ n = omega arith in let z : w * 0 ≡ 0 = mul-zero w in rw (a, z)
drop_chunks w (suc i) zero bs h = absurd (omega arith)
drop_chunks w (suc i) (suc n) bs h =
    let a : suc n - suc i ≡ n - i = omega arith in
    drop_chunks w i n (drop w bs) (le_of_suc-le-suc h) ∙ rw (a, mul_step w i, ← drop-drop (w * i) w bs)

module _ (w b : ℕ) (bs : List ℕ) (s : sound_holdback w (b ∷ bs) ≡ true) where
  -- m bytes are left past the ops and k more
  past_zero : (k m : ℕ) → w * b + k + m ≡ w * places → drop (w * b + k) bs ≡ replicate m 0
  past_zero k m e =
      let x = sound_reads w (b ∷ bs) s in
      let z : all (eqb 0) (drop (w * b + k) bs) ≡ true = rw (← drop-drop k (w * b) bs) (all_drop k (drop (w * b) bs) x.past) in
      let n : length (drop (w * b + k) bs) ≡ m = length-drop (w * b + k) bs ∙ omega (arith, x.size) in
      zeros (drop (w * b + k) bs) z ∙ ap (λ (j : ℕ). replicate j 0) n

  -- an op goes to the back: it is written at the first free place
  pub place_filled : (r : Op) → length r ≡ w → b < places
      → holdback_of w (holdback_ops w (b ∷ bs) ++ (r ∷ [])) ≡ (b + 1) ∷ (take (w * b) bs ++ (r ++ drop (w * b + w) bs))
  unfolding holdback_ops holdback_of concat
  place_filled r l h =
      let c : length (chunks w b bs ++ (r ∷ [])) ≡ b + 1 = rw (length-append, length_chunks w b bs) in
      let one : w * (b + 1) ≡ w * b + w = mul-add w b 1 ∙ ap (λ (k : ℕ). w * b + k) (mul-one w) in
      let z = past_zero w (w * (places - (b + 1))) (omega (arith, split_places w (b + 1) (omega arith))) in
      rw (
        c,
        concat_append (chunks w b bs) (r ∷ []),
        concat_chunks w b bs,
        z,
        append-nil r,
        append_assoc (take (w * b) bs) r (replicate (w * (places - (b + 1))) 0),
      )

  -- an op goes: those behind it move up by one place, and the last place becomes zero bytes
  pub place_freed : (i : ℕ) → i < b
      → holdback_of w (take i (holdback_ops w (b ∷ bs)) ++ drop (suc i) (holdback_ops w (b ∷ bs)))
      ≡ (b - 1) ∷ (take (w * i) bs ++ (drop (w * suc i) bs ++ replicate w 0))
  unfolding holdback_ops holdback_of
  place_freed i h =
      let few = (sound_reads w (b ∷ bs) s).few in
      let back : List ℕ = drop (w * suc i) bs in
      let k : ℕ = b - suc i in
      let whole : suc i + k ≡ b = omega arith in
      let m : w * suc i + w * k ≡ w * b = sym (mul-add w (suc i) k) ∙ ap (λ (j : ℕ). w * j) whole in
      let c : length (chunks w i bs ++ chunks w k back) ≡ b - 1 =
      rw (length-append, length_chunks w i bs, length_chunks w k back) (omega arith) in
      let free : places - (b - 1) ≡ (places - b) + 1 = omega arith in
      let one : w * (places - (b - 1)) ≡ w * (places - b) + w =
      ap (λ (j : ℕ). w * j) free ∙ mul-add w (places - b) 1 ∙ ap (λ (j : ℕ). w * (places - b) + j) (mul-one w) in
      let rest : drop (w * k) back ≡ replicate (w * (places - b)) 0 =
      drop-drop (w * k) (w * suc i) bs ∙ ap (λ (j : ℕ). drop j bs) (m ∙ sym (add-zero (w * b)))
      ∙ past_zero 0 (w * (places - b)) (omega (arith, split_places w b few)) in
      let all_back : back ++ replicate w 0 ≡ take (w * k) back ++ replicate (w * (places - b) + w) 0 =
      ap (λ (t : List ℕ). t ++ replicate w 0) (sym (take-append-drop (w * k) back))
      ∙ rw (
        rest,
        append_assoc (take (w * k) back) (replicate (w * (places - b)) 0) (replicate w 0),
        replicate-append-replicate {A = ℕ} (w * (places - b)) w 0,
      ) in
      rw (
        take_chunks w i b bs (omega arith),
        drop_chunks w (suc i) b bs h,
        c,
        concat_append (chunks w i bs) (chunks w k back),
        concat_chunks w i bs,
        concat_chunks w k back,
        one,
        all_back,
      )
      (ap (λ (t : List ℕ). (b - 1) ∷ t) (append_assoc (take (w * i) bs) (take (w * k) back) (replicate (w * (places - b) + w) 0)))
