-- What the program reads.
use Rattle.std.specs.Prelude.{ℕ, ◌<◌, length, take, List, [], ◌++◌, ◌≡◌}

-- an input of which a buffer has the first n bytes: nothing follows them, unless the buffer is full
pub record ReadFrom (buf : List ℕ) (n : ℕ) (input : List ℕ) : Type 0 where
  pub rest : List ℕ
  pub is : input ≡ take n buf ++ rest
  pub ended : n < length buf → rest ≡ []
