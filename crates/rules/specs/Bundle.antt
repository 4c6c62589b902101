-- A bundle (the document's parcel): the ops of a log beyond another's counts, in one piece. Making one tests 1, 8; opening one
-- tests 1, 12, and then its bodies in turn by the tests of delivery.
use Rattle.std.specs.Prelude.{ℕ, zero, suc, ◌+◌, ◌*◌, ◌-◌, ◌/◌, ◌%◌, Bool, cond, ◌&&◌, length, take, drop, leb, ltb, eqb}
use mathlib.Core.List.{List, [], ◌∷◌, ◌++◌, map, foldl}
use Rattle.std.specs.Int.Count.{ones}
use Rattle.lists.specs.Lists.{sum, concat, all, filter}
use Rattle.rules.specs.Answer.{Answer, accepted, require, unless_refused, if_accepted}
use Rattle.rules.specs.Bytes.{byte}
use Rattle.rules.specs.Op.{Op, Vector, replicas, count_in, replica_of, seq_of}
use Rattle.rules.specs.File.{Log, counts_of, file_end, chunks, log_of}
use Rattle.rules.specs.Sound.{sound}
use Rattle.rules.specs.Replay.{Stamped, ordered}
use Rattle.rules.specs.Deliver.{Result, deliver_answer, deliver_buffer}
use Rattle.rules.specs.Path.{Written}

---- what is in a bundle

-- for each replica how many of its ops are beyond the other's counts; "a counterpart that is ahead gets nothing for that seat"
unfoldable pub beyond_counts : Log → Vector → Vector
beyond_counts log v = map (λ s. count_in (counts_of log) s - count_in v s) replicas

-- "one byte with bit s - 1 set for each seat s that contributes": the bit of the first count is the lowest
unfoldable pub head_byte : Vector → ℕ
head_byte [] = 0
head_byte (n ∷ ns) = cond (eqb n 0) 0 1 + 2 * head_byte ns

-- that byte, "and a count byte, 1 to 255, for each set bit in seat order"
unfoldable pub head_of : Vector → List ℕ
head_of counts = head_byte counts ∷ filter (ltb 0) counts

-- an op beyond the other's counts; "all records beyond them", "in judging order"
unfoldable pub is_beyond : Vector → Stamped → Bool
is_beyond v x = ltb (count_in v (replica_of x.op)) (seq_of x.op)

unfoldable pub ops_beyond : Log → Vector → List Op
ops_beyond log v = map (λ (x : Stamped). x.op) (filter (is_beyond v) (ordered log (counts_of log)))

unfoldable pub bundle_of : Log → Vector → List ℕ
bundle_of log v = head_of (beyond_counts log v) ++ concat (ops_beyond log v)

---- making one for the other's counts v: "tests 1, then 8 for too short an output, and answers its length"; room is how many bytes are lent

unfoldable pub bundle_answer : ℕ → (file : List ℕ) → Vector → (room : ℕ) → Answer
bundle_answer w f v room =
    require (sound w f) 1
    (require (leb (length (bundle_of (log_of w f) v)) room) 8 (accepted (length (bundle_of (log_of w f) v))))

unfoldable pub bundle_call : ℕ → (file : List ℕ) → Vector → (out : List ℕ) → Written
bundle_call w f v out =
    let a = bundle_answer w f v (length out) in
    record { answer = a; out = if_accepted a (bundle_of (log_of w f) v ++ drop (length (bundle_of (log_of w f) v)) out) out }

---- reading one

-- the head: its first byte, and the count bytes, one for each bit that is set
unfoldable pub head_size : List ℕ → ℕ
head_size b = 1 + ones (byte b 0)

-- the counts of k replicas: the next count byte for a set bit, else 0
unfoldable pub counts_read : (k head : ℕ) → List ℕ → Vector
counts_read zero h bs = []
counts_read (suc k) h bs = cond (eqb (h % 2) 0) (0 ∷ counts_read k (h / 2) bs) (byte bs 0 ∷ counts_read k (h / 2) (drop 1 bs))

unfoldable pub head_counts : List ℕ → Vector
head_counts b = counts_read 8 (byte b 0) (drop 1 b)

unfoldable pub bodies_in : ℕ → List ℕ → List Op
bodies_in w b = chunks w (sum (head_counts b)) (drop (head_size b) b)

-- how many ops are of replica s
unfoldable pub ops_by : List Op → ℕ → ℕ
ops_by ops s = length (filter (λ r. eqb (replica_of r) s) ops)

-- number 12: "a parcel without a whole head (one of no bytes too), or whose" zero count, length "or bodies' seats disagree with its head"
unfoldable pub whole_bundle : ℕ → List ℕ → Bool
whole_bundle w b =
    leb (head_size b) (length b)
    && all (ltb 0) (take (ones (byte b 0)) (drop 1 b))
    && eqb (length b) (head_size b + w * sum (head_counts b))
    && all (λ s. eqb (ops_by (bodies_in w b) s) (count_in (head_counts b) s)) replicas

---- opening one

-- "opening a parcel delivers its bodies in turn", "records already held are passed by", and it "answers the new file end": the answer, the
-- buffer, and the bodies that are accepted
unfoldable pub turns_answer : ℕ → List ℕ → List Op → Answer
turns_answer w f [] = accepted (file_end w f)
turns_answer w f (r ∷ rs) = unless_refused (deliver_answer w f r) (turns_answer w (deliver_buffer w f r) rs)

unfoldable pub turns_buffer : ℕ → List ℕ → List Op → List ℕ
turns_buffer w f rs = foldl (deliver_buffer w) f rs

unfoldable pub turns_taken : ℕ → List ℕ → List Op → List Op
turns_taken w f [] = []
turns_taken w f (r ∷ rs) = if_accepted (deliver_answer w f r) (r ∷ []) [] ++ turns_taken w (deliver_buffer w f r) rs

unfoldable pub open_answer : ℕ → (buffer bundle : List ℕ) → Answer
open_answer w f b = require (sound w f) 1 (require (whole_bundle w b) 12 (turns_answer w f (bodies_in w b)))

-- "if one is refused the whole collection stays as before"
unfoldable pub open_buffer : ℕ → (buffer bundle : List ℕ) → List ℕ
open_buffer w f b = if_accepted (open_answer w f b) (turns_buffer w f (bodies_in w b)) f

abbrev pub open_bundle : ℕ → (buffer bundle : List ℕ) → Result
open_bundle w f b = record { answer = open_answer w f b; buffer = open_buffer w f b }
