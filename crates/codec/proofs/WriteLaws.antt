-- Laws of writing an op.
use lib.ListN.{length, take, drop, set}
use lib.Seq.{drop-drop, sets-eq}
use mathlib.Core.Path.{◌≡◌, ap, ◌∙◌}
use mathlib.Core.List.{List, [], ◌∷◌, ◌++◌}
use Prim.Native.Nat.{ℕ, ◌/◌, ◌%◌, ◌≤◌}
use native.Mathlib.Omega.{arith}
use Rattle.rules.specs.Issue.{op_bytes}
use Rattle.rules.specs.Bytes.{word}

-- the fields before the vector
fields : (o : List ℕ) (k s n p : ℕ) → 6 ≤ length o → set (set (set (set (set (set o 0 k) 1 s) 2 (n / 256)) 3 (n % 256)) 4 (p / 256)) 5
    (p % 256) ≡ (k ∷ s ∷ n / 256 ∷ n % 256 ∷ p / 256 ∷ p % 256 ∷ []) ++ drop 6 o
fields o k s n p h = sets-eq (k ∷ s ∷ n / 256 ∷ n % 256 ∷ p / 256 ∷ p % 256 ∷ []) o 0 h

pub op_written : (o x y v : List ℕ) (k s n p : ℕ) → 14 ≤ length o
    → x ≡ set (set (set (set (set (set o 0 k) 1 s) 2 (n / 256)) 3 (n % 256)) 4 (p / 256)) 5 (p % 256) → y ≡ take 6 x ++ (v ++ drop 14 x)
    → y ≡ op_bytes k s n p v ++ drop 14 o
unfolding op_bytes word
op_written o x y v k s n p h ex ey = ey ∙ rw (ex, fields o k s n p (omega arith))
    (ap (λ t. k ∷ s ∷ n / 256 ∷ n % 256 ∷ p / 256 ∷ p % 256 ∷ (v ++ t)) (drop-drop 8 6 o))
