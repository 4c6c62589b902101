-- Laws of writing a line piece by piece.
use mathlib.Core.Path.{◌≡◌, ap, ◌∙◌}
use mathlib.Core.Bool.{Bool, cond}
use mathlib.Core.List.{List, [], ◌∷◌, ◌++◌, append_assoc}
use Prim.Native.Nat.{ℕ, suc, ◌+◌, ◌≤◌, ◌<◌}
use native.Mathlib.Omega.{arith}
use lib.ListN.{length, take, drop, set, length-append, length-drop}
use lib.Seq.{set_split, take_at, drop-append-add, drop-drop, length-take-le, sets-eq}
use Rattle.rules.specs.Listing.{decimal, line_of}
use Rattle.pen.specs.Lines.{Penned, penned, written}
use Rattle.pen.specs.declared.line.Pen.{Pen}
use Rattle.rules.proofs.DecimalLaws.{length_line}

-- a byte stored
written_one : (o : List ℕ) (at x : ℕ) → at < length o → set o at x ≡ written o at (x ∷ [])
written_one o at x h = let e : at + 1 ≡ suc at = omega arith in rw e (set_split o at x h)

-- one piece behind another
written_next : (o : List ℕ) (at : ℕ) (xs ys : List ℕ) → at + length xs ≤ length o
    → written (written o at xs) (at + length xs) ys ≡ written o at (xs ++ ys)
written_next o at xs ys h =
    let p : List ℕ = take at o ++ xs in
    let n : length p ≡ at + length xs = rw (length-append, length-take-le at o (omega arith)) in
    let d : drop (at + length xs + length ys) (p ++ drop (at + length xs) o) ≡ drop (at + (length xs + length ys)) o =
    let k : length p + length ys ≡ at + (length xs + length ys) = omega arith in
    rw (← n, drop-append-add p (drop (length p) o) (length ys), drop-drop, k) in
    rw (← append_assoc (take at o) xs (drop (at + length xs) o), take_at p (drop (at + length xs) o) (at + length xs) n, d, length-append)
    (simp append_assoc)

written_length : (o : List ℕ) (at : ℕ) (xs : List ℕ) → at + length xs ≤ length o → length (written o at xs) ≡ length o
written_length o at xs h = rw (length-append, length-append, length-take-le at o (omega arith), length-drop) (omega arith)

then : (o x y : List ℕ) (at k : ℕ) (xs ys : List ℕ) → at + length xs ≤ length o → x ≡ written o at xs → k ≡ at + length xs
    → y ≡ written x k ys → y ≡ written o at (xs ++ ys)
then o x y at k xs ys h ex ek ey = ey ∙ rw (ex, ek) (written_next o at xs ys h)

-- depth, space, node number, and the last three bytes
pub line_written : (o x y : List ℕ) (at d n a b m : ℕ) (marked : Bool) → at + length (line_of d n marked) ≤ length o
    → a ≡ at + length (decimal d) → x ≡ written o at (decimal d)
    → b ≡ a + 1 + length (decimal n) → y ≡ written (set x a 32) (a + 1) (decimal n)
    → m ≡ cond marked 114 107
    → set (set (set y b 32) (b + 1) m) (b + 2) 10 ≡ written o at (line_of d n marked)
unfolding line_of
line_written o x y at d n a b m marked h ea ex eb ey em =
    let ds : List ℕ = decimal d in
    let ns : List ℕ = decimal n in
    let tail : List ℕ = 32 ∷ m ∷ 10 ∷ [] in
    let whole : ((ds ++ (32 ∷ [])) ++ ns) ++ tail ≡ line_of d n marked = rw (
      append_assoc (ds ++ (32 ∷ [])) ns tail,
      append_assoc ds
          (32 ∷ []) (ns ++ tail),
      em,
    ) in
    let size : length (line_of d n marked) ≡ length ds + length ns + 4 = length_line d n marked in
    let lx : length x ≡ length o = rw ex (written_length o at ds (omega arith)) in
    let x' : List ℕ = set x a 32 in
    let ex' : x' ≡ written o at (ds ++ (32 ∷ [])) = then o x x' at a ds (32 ∷ []) (omega arith) ex ea (written_one x a 32 (omega arith)) in
    let l1 : length (ds ++ (32 ∷ [])) ≡ length ds + 1 = length-append ds (32 ∷ []) in
    let ey' : y ≡ written o at ((ds ++ (32 ∷ [])) ++ ns) = then o x' y at (a + 1) (ds ++ (32 ∷ [])) ns (omega arith) ex' (omega arith) ey in
    let l2 : length ((ds ++ (32 ∷ [])) ++ ns) ≡ length ds + 1 + length ns = length-append (ds ++ (32 ∷ [])) ns
    ∙ ap (λ (k : ℕ). k + length ns) l1 in
    let ly : length y ≡ length o = rw ey' (written_length o at ((ds ++ (32 ∷ [])) ++ ns) (omega arith)) in
    let s1 : b + 1 ≡ suc b = omega arith in
    let s2 : b + 2 ≡ suc (suc b) = omega arith in
    let z : List ℕ = set (set (set y b 32) (b + 1) m) (b + 2) 10 in
    let ez : z ≡ written y b tail = rw (s1, s2) (sets-eq tail y b (omega arith) ∙ append_assoc (take b y) tail (drop (b + 3) y)) in
    then o y z at b ((ds ++ (32 ∷ [])) ++ ns) tail (omega arith) ey' (omega arith) ez ∙ ap (written o at) whole

---- the line writers, of bytes ys and a pen h

pub line_penned : (o x : List ℕ) (h : Pen) (d n b : ℕ) (marked : Bool) → x ≡ written o h.bytes (line_of d n marked)
    → b ≡ h.bytes + length (line_of d n marked)
    → ◌≡◌ {A = Penned} (record { out = x; pen = record { bytes = b; lines = h.lines + 1 } }) (penned o h (line_of d n marked))
unfolding penned
line_penned o x h d n b marked ex eb = rw (ex, eb)
