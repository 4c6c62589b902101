-- The listing of a view, and what the program `outline` prints. Tests 1, 8.
use Rattle.rules.specs.File.{counts_of, empty_log, Log, file_end, log_of}
use Rattle.std.specs.Prelude.{ℕ, zero, suc, ◌+◌, ◌/◌, ◌%◌, Bool, cond, ◌&&◌, List, [], ◌∷◌, ◌++◌, map, length, drop, leb, ltb, eqb}
use Rattle.rules.specs.Answer.{Answer, accepted, require, if_accepted}
use Rattle.lists.specs.Lists.{concat, filter}
use Rattle.rules.specs.Sound.{sound}
use Rattle.rules.specs.Tree.{slots, parent_in, depth}
use Rattle.rules.specs.Replay.{parents_of}
use Rattle.rules.specs.Path.{Written}
use Rattle.rules.specs.Views.{nodes, View, keeping, shown}
use Rattle.rules.specs.Marks.{marked}

unfoldable pub children : Log → List ℕ → ℕ → List ℕ
children log parents n = filter (λ m. eqb (parent_in parents m) n) (nodes log)

-- "children follow their parent in rising node number, each with all below it before the next", in at most k levels
unfoldable pub preorder : ℕ → Log → List ℕ → ℕ → List ℕ
preorder zero log parents n = []
preorder (suc k) log parents n = n ∷ concat (map (preorder k log parents) (children log parents n))

-- decimal digits, in at most k of them; a two-byte number has at most five
unfoldable pub digits : ℕ → ℕ → List ℕ
digits zero n = []
digits (suc k) n = let high = digits k (n / 10) in cond (ltb n 10) [] high ++ ((48 + n % 10) ∷ [])

unfoldable pub decimal : ℕ → List ℕ
decimal n = digits 5 n

-- "depth, space, node number, space, k or r, line feed"
unfoldable pub line_of : (depth node : ℕ) (marked : Bool) → List ℕ
line_of d n m = decimal d ++ (32 ∷ (decimal n ++ (32 ∷ cond m 114 107 ∷ 10 ∷ [])))

unfoldable pub line : Log → List ℕ → ℕ → List ℕ
line log parents n = line_of (depth parents n) n (marked log (counts_of log) n)

unfoldable pub listing_in : View → Log → List ℕ → List ℕ
listing_in view log parents = concat (map (line log parents) (filter (shown view log parents) (preorder slots log parents 0)))

unfoldable pub listing_of : View → Log → List ℕ
listing_of view log = listing_in view log (parents_of log)

-- the answer is how many bytes it wrote; room is how many are lent
unfoldable pub listing_answer : ℕ → (file : List ℕ) → View → (room : ℕ) → Answer
listing_answer w f view room =
    require (sound w f) 1
    (require (leb (length (listing_of view (log_of w f))) room) 8 (accepted (length (listing_of view (log_of w f)))))

unfoldable pub listing : ℕ → (file : List ℕ) → View → (out : List ℕ) → Written
listing w f view out =
    let a = listing_answer w f view (length out) in
    record { answer = a; out = if_accepted a (listing_of view (log_of w f) ++ drop (length (listing_of view (log_of w f))) out) out }

-- how many bytes a listing has, for a caller who is to lend them
unfoldable pub listing_size : ℕ → (file : List ℕ) → View → Answer
listing_size w f view = require (sound w f) 1 (accepted (length (listing_of view (log_of w f))))

-- "refused 1" and a line feed
unfoldable pub refused_line : List ℕ
refused_line = 114 ∷ 101 ∷ 102 ∷ 117 ∷ 115 ∷ 101 ∷ 100 ∷ 32 ∷ 49 ∷ 10 ∷ []

-- what the program prints: the keeping view; "input with bytes past the file's end, or not sound, prints the line refused 1", but "an
-- input of no bytes is read by the program as the collection without records"
unfoldable pub outline : ℕ → (input : List ℕ) → List ℕ
outline w f =
    cond (eqb (length f) 0) (listing_of keeping empty_log)
    (cond (sound w f && eqb (file_end w f) (length f)) (listing_of keeping (log_of w f)) refused_line)
