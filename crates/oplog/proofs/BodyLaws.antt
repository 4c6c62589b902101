-- The bodies of bytes, and that those between header and file end are the ops of the log.
use Prim.Native.Nat.{ℕ, zero, suc, ◌+◌, ◌*◌, ◌-◌, ◌/◌, ◌≤◌, ◌<◌}
use lib.ListN.{length, length-drop, length-take, drop, take}
use lib.Seq.{drop-drop}
use mathlib.Core.List.{List, [], ◌∷◌, ◌++◌}
use mathlib.Core.Path.{◌≡◌, refl, sym, ap, ◌∙◌}
use native.Mathlib.Omega.{arith}
use Rattle.std.proofs.Common.{length-append}
use Rattle.std.proofs.Math.Seq.{drop_at, take_at}
use Rattle.lists.specs.Lists.{concat, sum}
use Rattle.rules.specs.File.{chunks, chunks_of, end_of, file_end, header_counts, log_of, width}
use Rattle.rules.specs.Op.{Op}
use Rattle.rules.proofs.FrontLaws.{chunks_take}

abbrev pub bodies_of : List ℕ → List Op
bodies_of bs = chunks width (length bs / width) bs

pub none_in : (bs : List ℕ) → length bs < width → bodies_of bs ≡ []
unfolding chunks
none_in bs h = let e : length bs / width ≡ 0 = omega arith in rw e

pub one_more : (bs r left : List ℕ) → bs ≡ r ++ left → length r ≡ width → bodies_of bs ≡ r ∷ bodies_of left
unfolding chunks
one_more bs r left e h =
    let n : length (r ++ left) / width ≡ suc (length left / width) = omega (arith, length-append r left) in
    rw (e, n, take_at r left width h, drop_at r left width h)

-- those of each replica, one behind the other
chunks_add : (n m : ℕ) (bs : List ℕ) → chunks width (n + m) bs ≡ chunks width n bs ++ chunks width m (drop (width * n) bs)
unfolding chunks
chunks_add zero m bs = let e : 0 + m ≡ m = omega arith in rw e
chunks_add (suc n) m bs =
    let k : suc n + m ≡ suc (n + m) = omega arith in
    let e : width + width * n ≡ width * suc n = omega arith in
    rw k (ap (λ (rs : List Op). take width bs ∷ rs) (chunks_add n m (drop width bs) ∙ rw (drop-drop (width * n) width bs, e)))

concat_chunks : (ns bs : List ℕ) → concat (chunks_of width ns bs) ≡ chunks width (sum ns) bs
unfolding chunks chunks_of concat sum
concat_chunks [] bs = refl
concat_chunks (n ∷ ns) bs = rw (concat_chunks ns (drop (width * n) bs)) (sym (chunks_add n (sum ns) bs))

pub bodies_all : (f : List ℕ) → file_end width f ≤ length f → (end : ℕ) → end ≡ file_end width f
    → bodies_of (take (end - 32) (drop 32 f)) ≡ concat (log_of width f)
unfolding file_end end_of log_of
bodies_all f h end is =
    let n : length (take (end - 32) (drop 32 f)) / width ≡ sum (header_counts f) =
    rw (length-take, length-drop) (omega arith) in
    rw n (chunks_take width (sum (header_counts f)) (end - 32) (drop 32 f) (omega arith))
    ∙ sym (concat_chunks (header_counts f) (drop 32 f))
