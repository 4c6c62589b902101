-- What the functions of a bundle's head ask and answer.
use Rattle.std.specs.Prelude.{ℕ, ◌+◌, ◌*◌, ◌-◌, ◌≤◌, Bool, cond, ◌&&◌, List, map, ◌≡◌, eqb, ltb, length}
use Rattle.lists.specs.Lists.{all, filter, sum}
use Rattle.rules.specs.Bundle.{bodies_in, head_byte, head_counts, head_size, ops_by}
use Rattle.rules.specs.Bytes.{byte}
use Rattle.rules.specs.File.{width}
use Rattle.rules.specs.Op.{Op, Vector, replicas, count_in}

-- how many ops of each replica are beyond counts, where u are held
unfoldable pub beyond_at : (held counts : Vector) → ℕ → ℕ
beyond_at u v s = count_in u s - count_in v s

unfoldable pub beyond_of : (held counts : Vector) → Vector
beyond_of u v = map (beyond_at u v) replicas

-- the bit of a replica that contributes so many ops
unfoldable pub bit_of : ℕ → ℕ
bit_of n = cond (eqb n 0) 0 1

-- the first byte of a head, and room for the count bytes after it
pub record HeadRoom (out : List ℕ) (head : ℕ) (counts : Vector) : Type 0 where
  pub is_head : head ≡ head_byte counts
  pub room : 1 + length (filter (ltb 0) counts) ≤ length out

-- a whole head, by its first byte
pub record WholeHead (b : List ℕ) (head : ℕ) : Type 0 where
  pub is_head : head ≡ byte b 0
  pub whole : head_size b ≤ length b

-- of a replica there are as many ops as are counted; of each replica
unfoldable pub agrees_at : List Op → Vector → ℕ → Bool
agrees_at ops counts s = eqb (ops_by ops s) (count_in counts s)

unfoldable pub agrees : List Op → Vector → Bool
agrees ops counts = all (agrees_at ops counts) replicas

-- the length and the bodies' replicas agree with the head
unfoldable pub filled : List ℕ → Bool
filled b = eqb (length b) (head_size b + width * sum (head_counts b)) && agrees (bodies_in width b) (head_counts b)

-- where a whole head ends
pub record HeadEnd (b : List ℕ) (size : ℕ) : Type 0 where
  pub is_size : size ≡ head_size b
  pub some : 1 ≤ size
  pub whole : size ≤ length b

pub record BodiesOf (bodies : List ℕ) (n s : ℕ) : Type 0 where
  pub long : width * n ≤ length bodies
  pub low : 1 ≤ s
  pub high : s ≤ 8
