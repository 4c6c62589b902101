-- The tidy-up, proved: upward moves issued from one log are true, and come to one buffer in any order.
use Prim.Native.Nat.{ℕ, ◌≤◌, ◌<◌}
use borrow.Author.Tests.{ltb-true}
use lib.ListN.{length}
use mathlib.Core.Bool.{Bool, true, false, cond}
use mathlib.Core.List.{List, [], ◌∷◌}
use mathlib.Core.Logic.{⊎_elim}
use mathlib.Core.Path.{refl, sym, ap, ◌≡◌, ◌∙◌}
use native.Mathlib.Omega.{arith}
use Rattle.rules.specs.File.{Log, log_of, width}
use Rattle.rules.specs.Answer.{accepted}
use Rattle.rules.specs.Issue.{issue_answer, issue_buffer}
use Rattle.rules.specs.Op.{Op, kind_of, replica_of}
use Rattle.rules.specs.Replay.{parents_of}
use Rattle.rules.specs.Tree.{depth}
use Rattle.rules.proofs.IssueLaws.{allowed, issue_admitted}
use Rattle.rules.proofs.PutOutLaws.{NextOp, put_out_law, put_out_next}
use Rattle.rules.proofs.SoundLaws.{sound_good}
use Rattle.rules.proofs.StructureLaws.{GoodLog}
use Rattle.convergence.specs.Clash.{Move, put_out, request}
use Rattle.convergence.specs.Exchange.{has}
use Rattle.convergence.proofs.ArriveLaws.{none_added, one_more}
use Rattle.convergence.proofs.HasLaws.{has_cases, has_none}
use Rattle.convergence.proofs.MoveLaws.{asked, drawn, op_of, upward}
use Rattle.tidy_up.specs.Examples.{after, before, three_moves, tidied, worked}
use Rattle.tidy_up.specs.TidyUp.{AllArrive, EachIssuedUp, IssuedUp, OwnIsThere, TidiedTree, TidyUp, UpwardMoves, none_lost, one_applied}
use Rattle.tidy_up.proofs.ComingLaws.{all_come}
use Rattle.tidy_up.proofs.UpwardLaws.{TrueUp}
use Rattle.tidy_up.proofs.TidyLaws.{highest_wins, none_lost_law, one_applied_law}

---- a move that was issued

each_up : (log : Log) (ops : List Op) → EachIssuedUp log ops → (r : Op) → has ops r ≡ true → IssuedUp log r
each_up log [] h r i = has_none r i
each_up log (x ∷ ops) h r i = ⊎_elim
    (λ (e : r ≡ x). rw e h.0) (λ (e : has ops r ≡ true). each_up log ops h.1 r e) (has_cases x ops r i)

-- what an accepted issue of a move put out
module _ (b out : List ℕ) (x : Move) (end : ℕ) (ok : issue_answer width b (length out) x.replica (request x) ≡ accepted end) where
  abbrev there : Log
  there = log_of width b

  good : GoodLog there
  good = sound_good width b (issue_admitted b (length out) x.replica (request x) end ok).is_sound_so

  op_is : op_of there x ≡ put_out b out x
  op_is = sym (put_out_law b out x.replica (request x) end ok)

  origin : replica_of (put_out b out x) ≡ x.replica
  origin = ap replica_of (sym op_is) ∙ (drawn there good x).origin

  put_range : (1 ≤ replica_of (put_out b out x)) × (replica_of (put_out b out x) ≤ 8)
  put_range =
      let a = asked width b (length out) end x (allowed width b (length out) x.replica (request x) end ok) in
      rw origin (a.low, a.high)

  put_next : NextOp there (replica_of (put_out b out x)) (put_out b out x)
  put_next = rw origin (put_out_next b out x.replica (request x) end ok)

  module _ (up : kind_of (put_out b out x) ≡ 3) where
    -- its kind is what the depths say
    rising : depth (parents_of there) x.parent < depth (parents_of there) x.node
    rising = ltb-true _ _ (go (upward there x) (sym (drawn there good x).kind ∙ ap kind_of op_is ∙ up))
      where
        go : (b : Bool) → ◌≡◌ {A = ℕ} (cond b 3 4) 3 → b ≡ true
        go true e = refl
        go false e = absurd (omega arith)

    put_true : TrueUp there (put_out b out x)
    put_true =
        let d = drawn there good x in
        let it : TrueUp there (op_of there x) =
        record { upward = ap kind_of op_is ∙ up; saw = d.vector; rises = rw (d.parent_is, d.node_is) rising } in
        rw op_is at it

-- from a buffer to the very log that it holds, and from the bytes there to the op
transfer : (P : Log → Op → Type 0) {a b : Log} {r z : Op} → a ≡ b → r ≡ z → P a r → P b z
transfer P e f p = rw (e, f) at p

module _ (log : Log) (r : Op) (u : IssuedUp log r) where
  issued_true : TrueUp log r
  issued_true =
      transfer TrueUp u.very_log u.put
      (put_true u.buffer u.out u.asked u.end u.taken (ap kind_of u.put ∙ u.upward))

  issued_range : (1 ≤ replica_of r) × (replica_of r ≤ 8)
  issued_range =
      transfer (λ l z. (1 ≤ replica_of z) × (replica_of z ≤ 8)) u.very_log u.put
      (put_range u.buffer u.out u.asked u.end u.taken)

  issued_next : NextOp log (replica_of r) r
  issued_next =
      transfer (λ l z. NextOp l (replica_of z) z) u.very_log u.put (put_next u.buffer u.out u.asked u.end u.taken)

---- the theorems

module _ (log : Log) (ops : List Op) (up : UpwardMoves log ops) where
  one_up : (r : Op) → has ops r ≡ true → IssuedUp log r
  one_up r i = each_up log ops up.each r i

  truth : (r : Op) → has ops r ≡ true → TrueUp log r
  truth r i = issued_true log r (one_up r i)

pub tidy_up_law : TidyUp
tidy_up_law f sound_f ops up h added =
    let good = sound_good width f sound_f in
    let Good-more = sound_good width h added.is_sound_so in
    let true_up = truth (log_of width f) ops up in (
      none_lost_law (log_of width f) (log_of width h) good Good-more ops added.ops true_up,
      one_applied_law (log_of width f) (log_of width h) good Good-more ops added.ops true_up up.replicas_differ,
    )

pub tidied_tree : TidiedTree
tidied_tree f sound_f ops up h added =
    highest_wins (log_of width f) (log_of width h) (sound_good width f sound_f) (sound_good width h added.is_sound_so) ops added.ops
    (truth (log_of width f) ops up)

pub all_arrive : AllArrive
all_arrive f sound_f ops up b there coming only room all =
    let log = log_of width f in
    all_come f sound_f ops up.replicas_differ
    (λ r i. issued_range log r (one_up log ops up r i)) (λ r i. issued_next log r (one_up log ops up r i))
    b there coming only room all

pub own_is_there : OwnIsThere
unfolding issue_buffer
own_is_there f b out x end one_log e =
    let a = issue_admitted b (length out) x.replica (request x) end e in
    rw (e, put_out_law b out x.replica (request x) end e) (one_more f b [] (none_added f b a.is_sound_so one_log) _ end a)

-- the theorem at work: three moves, two of them of one node
pub worked_out : (none_lost tidied three_moves ≡ true) × (one_applied tidied three_moves ≡ true)
worked_out =
    rw worked.log_after at (tidy_up_law before worked.is_sound_so three_moves worked.upward_moves after worked.only_added)
