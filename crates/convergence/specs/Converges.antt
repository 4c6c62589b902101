-- What two logs come to when they meet: demand 3 as one statement.
use Rattle.std.specs.Prelude.{ℕ, ◌≤◌, ◌≡◌, Bool, true, false, cond, ◌&&◌, not, List, [], ◌++◌, length, drop, eqb}
use Rattle.rules.specs.Answer.{Answer, refused, had_it, waiting, done, accepted}
use Rattle.lists.specs.Lists.{concat, all}
use Rattle.rules.specs.Op.{Op}
use Rattle.rules.specs.File.{Log, width, largest}
use Rattle.rules.specs.Tree.{slots}
use Rattle.rules.specs.Replay.{parents_of, outcomes_of}
use Rattle.rules.specs.Judge.{Judgement, judge}
use Rattle.rules.specs.Views.{nodes}
use Rattle.rules.specs.TreeClaim.{IsTree}
use Rattle.convergence.specs.Lists.{Stored}
use Rattle.convergence.specs.Exchange.{Call, run, standing, has, times, Agreed, arrange, filed, Side, left, right, other, Pair, missing, everything, Round, after, Answered, answers, acceptances, accepted_by, ValidRound, EachRound}

-- the answers of a round: "acceptance, had it and 5, which is early, and no others"
unfoldable pub expected : Answer → Bool
expected (refused n) = eqb n 5
expected had_it = true
expected waiting = false
expected done = false
expected (accepted n) = true

-- lent tables after the replay of a log
unfoldable pub judged : Log → (parents outcomes : List ℕ) → Judgement
judged log p o = record {
  answer = done;
  parents = parents_of log ++ drop slots p;
  outcomes = outcomes_of log ++ drop slots o;
}

-- once nothing is missing: p before the first round, q after the last, xs the answers in between
pub record Settled (p q : Pair) (xs : List Answered) : Type 0 where
  -- each op was accepted once by the side without it, if the other had it, and never else
  pub once : (d : Side) (r : Op) → times (accepted_by d xs) r ≡ cond (has (p (other d)).held r && not (has (p d).held r)) 1 0
  -- each file is that of all ops that either held before the rounds
  pub files : (d : Side) → (q d).buffer ≡ filed (everything p) (p d).buffer
  -- judging gives both the same tree and outcomes, those of all these ops
  pub judging : (d : Side) (parents outcomes : List ℕ) → slots ≤ length parents → slots ≤ length outcomes
      → judge width (q d).buffer parents outcomes ≡ judged (arrange (everything p)) parents outcomes
  -- every climb reaches the root in no more steps than there are added nodes
  pub tree : IsTree (nodes (arrange (everything p))) (parents_of (arrange (everything p)))

pub record Meets (p : Pair) (rounds : List Round) : Type 0 where
  -- each list left the file of the held ops
  pub stored : (d : Side) → Stored (p d)
  -- arranging what either holds drops nothing: an op is in the log of all ops exactly if one side holds it
  pub every : (r : Op) → has (concat (arrange (everything p))) r ≡ has (everything p) r
  -- the answers of all rounds are those expected
  pub answered : all (λ x. expected x.answered) (answers p (concat rounds)) ≡ true
  -- each round that begins with something missing has an acceptance
  pub progress : EachRound (λ at os. 1 ≤ length (missing at) → 1 ≤ length (acceptances (answers at os))) p rounds
  -- so as many rounds as ops were missing are enough
  pub ends : length (missing p) ≤ length rounds → missing (after p (concat rounds)) ≡ []
  pub settled : missing (after p (concat rounds)) ≡ [] → Settled p (after p (concat rounds)) (answers p (concat rounds))

-- the two as the rounds find them: for each side the buffer that its list began with, the calls after making, and what lies past the file
unfoldable pub meeting : (Side → List ℕ) → (Side → List Call) → (Side → List ℕ) → Pair
meeting start calls rest d = standing (run (start d) (calls d)) (rest d)

abbrev pub Converges : Type 0
Converges =
    (start : Side → List ℕ) (calls : Side → List Call) (rest : Side → List ℕ) (rounds : List Round)
    → ((d : Side) → 32 ≤ length (start d))
    → ((d : Side) → largest width ≤ length (meeting start calls rest d).buffer)
    → Agreed (meeting start calls rest left).held (meeting start calls rest right).held
    → EachRound ValidRound (meeting start calls rest) rounds
    → Meets (meeting start calls rest) rounds
