-- Of two clashing moves issued from one log, the upward one or else the higher replica's is applied, and the other is not.
use Prim.Native.Nat.{◌≤◌, ◌<◌, ◌+◌, ◌*◌, ℕ, suc}
use borrow.Author.Tests.{eq-eqb, ne_eqb, lt-ltb, ltb-false}
use lib.Dec.{ltb, eqb}
use lib.ListN.{get_or, set, length, length-set}
use lib.Seq.{get_or-set_same, get_or-set_other}
use mathlib.Core.Bool.{Bool, true, cond, false, and-eq-true_iff}
use mathlib.Core.List.{foldl-append, [], ◌∷◌, List}
use mathlib.Core.Logic.{◌⊎◌, inl, inr, ⊎_elim}
use mathlib.Core.Path.{refl, ap, ◌≡◌, ◌∙◌, sym}
use native.Mathlib.Decide.{ℕ_discrete}
use native.Mathlib.Omega.{arith}
use Rattle.convergence.proofs.AddedLaws.{new_extends, one_of_new, none_new, new_op_law, new_count}
use Rattle.convergence.proofs.HasLaws.{has_head, has_tail, has_none, has_cases}
use Rattle.convergence.proofs.ArriveLaws.{AddsOp, issue_adds, op_adds, arrives, arrives_back}
use Rattle.convergence.proofs.ClashLaws.{winner_first}
use Rattle.rules.proofs.StepLaws.{passed_over, placed_already, applied, blocked, applies, tables_full}
use Rattle.convergence.proofs.MoveLaws.{op_of, upward, Asked, asked, Drawn, drawn, slot_in, valid_node, y_blocked, circle_is}
use Rattle.convergence.specs.Clash.{Move, next_slot, request, beats, circle, clash, Wins, hang, BothIssued, put_out, OnlyAdded, Arrives, Arrivals, ClashDecided, BothArrive, CircleCutsOff}
use Rattle.convergence.specs.Exchange.{Call, deliver, has}
use Rattle.order.proofs.LateLaws.{Late, ordered_late, late_empty, late_ready, top}
use Rattle.order.proofs.PlacedLaws.{placed_by}
use Rattle.order.specs.Levels.{ready_op, level, ready_ops, level_kind}
use Rattle.lists.proofs.BoolLaws.{and_both, never}
use Rattle.rules.proofs.IssueLaws.{allowed}
use Rattle.rules.proofs.PutOutLaws.{NextOp, put_out_law, put_out_next}
use Rattle.rules.proofs.SoundLaws.{sound_good}
use Rattle.rules.proofs.StructureLaws.{GoodLog}
use Rattle.rules.proofs.SlotLaws.{slot_below, slot_injective}
use Rattle.rules.specs.Tree.{move_kind, slot, slots, slot_of}
use Rattle.rules.specs.File.{Log, counts_of, op_at, log_of, width, file_end}
use Rattle.rules.specs.Op.{Op, count_in, node_of, replica_of}
use Rattle.rules.specs.Replay.{parents_of, State, Stamped, replay, step, outcomes_of, outcome_of}
use Rattle.lists.specs.Lists.{concat}
use Rattle.rules.specs.Sound.{sound}

-- more is log and the ops of x and y
record Both (log more : Log) (x y : Move) : Type 0 where
  pub late : Late log more
  pub good : GoodLog more
  pub count_x : count_in (counts_of more) x.replica ≡ count_in (counts_of log) x.replica + 1
  pub count_y : count_in (counts_of more) y.replica ≡ count_in (counts_of log) y.replica + 1
  pub rest : (s : ℕ) → 1 ≤ s → s ≤ 8 → (s ≡ x.replica → ⊥) → (s ≡ y.replica → ⊥) → count_in (counts_of more) s ≡ count_in (counts_of log) s
  pub op_x : op_at more x.replica (count_in (counts_of log) x.replica + 1) ≡ op_of log x
  pub op_y : op_at more y.replica (count_in (counts_of log) y.replica + 1) ≡ op_of log y

swap : (log more : Log) (x y : Move) → Both log more x y → Both log more y x
swap log more x y b = record {
  late = b.late;
  good = b.good;
  count_x = b.count_y;
  count_y = b.count_x;
  rest = λ s l u p q. b.rest s l u q p;
  op_x = b.op_y;
  op_y = b.op_x;
}

---- x beats y

module _ (log more : Log) (good : GoodLog log) (x y : Move) (ax : Asked log x) (ay : Asked log y)
    (both : Both log more x y) (apart : x.replica ≡ y.replica → ⊥) where
  abbrev before : State
  before = replay log (counts_of log)

  abbrev now_time : ℕ
  now_time = suc (top log more both.late good both.good)

  abbrev first : Stamped
  first = record { time = now_time; op = op_of log x }

  abbrev second : Stamped
  second = record { time = now_time; op = op_of log y }

  op_x : Drawn log x
  op_x = drawn log good x

  op_y : Drawn log y
  op_y = drawn log good y

  -- the two are replayed last, x first
  module _ (wins : beats (parents_of log) x y ≡ true) where
    abbrev entries : ℕ → ℕ → List Stamped
    entries = ready_op more now_time (ready_ops more (counts_of more) (counts_of log))

    x_ready : (k : ℕ) → entries k x.replica ≡ cond (eqb (cond (upward log x) 3 4) k) (first ∷ []) []
    x_ready k =
        late_ready log more both.late good both.good k x.replica ax.low ax.high (omega (arith, both.count_x))
        ∙ rw (both.op_x, op_x.kind)

    y_ready : (k : ℕ) → entries k y.replica ≡ cond (eqb (cond (upward log y) 3 4) k) (second ∷ []) []
    y_ready k =
        late_ready log more both.late good both.good k y.replica ay.low ay.high (omega (arith, both.count_y))
        ∙ rw (both.op_y, op_y.kind)

    two_last : level more now_time (ready_ops more (counts_of more) (counts_of log)) ≡ first ∷ second ∷ []
    unfolding level level_kind beats move_kind
    two_last =
        winner_first entries x.replica y.replica ax.low ax.high ay.low ay.high first second
        (λ k s l u p q. late_empty log more both.late good both.good k s l u (both.rest s l u p q))
        (upward log x) (upward log y) x_ready y_ready apart wins

    replayed : replay more (counts_of more) ≡ step (step before first) second
    unfolding replay
    replayed = rw (ordered_late log more both.late good both.good, two_last, foldl-append)

  ---- what the two do

  placed_before : (i : ℕ) → get_or before.placed i 0 < now_time
  unfolding top
  placed_before i = omega (arith, placed_by log (counts_of log) i)

  -- the state after x
  abbrev mid : State
  mid = record {
    parents = hang (parents_of log) x;
    outcomes = set (outcomes_of log) (next_slot log x.replica) 1;
    placed = set before.placed (slot_of x.node) now_time;
  }

  x_applied : step before first ≡ mid
  unfolding hang parents_of outcomes_of
  x_applied =
      applied before now_time (op_of log x) op_x.moves
      (applies before now_time (op_of log x) op_x.moves
      (λ e. omega (arith, placed_before (slot_of (node_of (op_of log x))))) (rw (op_x.node_is, op_x.parent_is) ax.clear))
      ∙ rw (op_x.node_is, op_x.parent_is, op_x.slot_is)

  y_passed : (o : ℕ) → eqb o 1 ≡ false → outcome_of mid second ≡ o
      → step mid second
      ≡ record { parents = mid.parents; outcomes = set mid.outcomes (next_slot log y.replica) o; placed = mid.placed }
  y_passed o ne e = passed_over mid now_time (op_of log y) op_y.moves o ne e ∙ rw op_y.slot_is

  -- 2 if they take the same node
  y_same : x.node ≡ y.node → outcome_of mid second ≡ 2
  y_same e =
      let in_table = slot_below x.node (valid_node log x ax) in
      placed_already mid now_time (op_of log y) op_y.moves (rw (op_y.node_is, ← e)
      (get_or-set_same before.placed (slot_of x.node) now_time 0 (omega (arith, (tables_full log (counts_of log)).placed_full))))

  -- 3 if they close a circle
  y_circle : (x.node ≡ y.node → ⊥) → circle (parents_of log) x y ≡ true → outcome_of mid second ≡ 3
  y_circle ne c =
      let vx = valid_node log x ax in
      let vy = valid_node log y ay in
      blocked mid now_time (op_of log y) op_y.moves
      (λ e.
      let here = rw op_y.node_is at e in
      let there = get_or-set_other before.placed (slot_of x.node) (slot_of y.node) now_time 0
      (λ q. ne (slot_injective x.node y.node vx vy (sym q))) in
      omega (arith, placed_before (slot_of y.node)))
      (rw (op_y.node_is, op_y.parent_is) (y_blocked log good x y ax ay c))

  y_outcome : clash (parents_of log) x y ≡ true → outcome_of mid second ≡ cond (eqb x.node y.node) 2 3
  unfolding clash
  y_outcome c = elim (ℕ_discrete x.node y.node) [
    | yes e ↦ rw (eq-eqb _ _ e) (y_same e)
    | no ne ↦ rw (ne_eqb _ _ ne) (y_circle ne (rw (ne_eqb _ _ ne) at c))
  ]

  slots_apart : next_slot log x.replica ≡ next_slot log y.replica → ⊥
  unfolding next_slot slot
  slots_apart e = apart (omega (arith, ax.low, ax.count, ay.low, ay.count))

  x_wins : beats (parents_of log) x y ≡ true → clash (parents_of log) x y ≡ true → Wins log more x y
  unfolding parents_of outcomes_of
  x_wins wins c =
      let at_x : ℕ = next_slot log x.replica in
      let at_y : ℕ = next_slot log y.replica in
      let lost : ℕ = cond (eqb x.node y.node) 2 3 in
      let full : length (outcomes_of log) ≡ slots = (tables_full log (counts_of log)).outcomes_full in
      let still_full = length-set (outcomes_of log) at_x 1 in
      let end = replayed wins ∙ ap (λ st. step st second) x_applied ∙ y_passed lost (not_one (eqb x.node y.node)) (y_outcome c) in
      let outcomes : outcomes_of more ≡ set mid.outcomes at_y lost = ap (λ (st : State). st.outcomes) end in
      record {
        winner = ap (λ t. get_or t at_x 0) outcomes ∙ get_or-set_other mid.outcomes at_y at_x lost 0 slots_apart
            ∙ get_or-set_same (outcomes_of log) at_x 1 0 (omega (arith, slot_in log x ax));
        loser = ap (λ t. get_or t at_y 0) outcomes ∙ get_or-set_same mid.outcomes at_y lost 0 (omega (arith, slot_in log y ay));
        tree = ap (λ (st : State). st.parents) end;
      }
    where
      not_one : (b : Bool) → eqb (cond b 2 3) 1 ≡ false
      not_one true = refl
      not_one false = refl

-- who does not beat the other is beaten
beaten : (log : Log) (x y : Move) → (x.replica ≡ y.replica → ⊥)
    → beats (parents_of log) x y ≡ false → beats (parents_of log) y x ≡ true
unfolding beats move_kind
beaten log x y apart e = go (upward log x) (upward log y) e
  where
    higher : ltb y.replica x.replica ≡ false → ltb x.replica y.replica ≡ true
    higher e = let h = ltb-false y.replica x.replica e in lt-ltb x.replica y.replica (omega arith)

    go : (u v : Bool) → cond (eqb (cond u 3 4) (cond v 3 4)) (ltb y.replica x.replica) (eqb (cond u 3 4) 3) ≡ false
        → cond (eqb (cond v 3 4) (cond u 3 4)) (ltb x.replica y.replica) (eqb (cond v 3 4) 3) ≡ true
    go true true e = higher e
    go true false e = never (sym e)
    go false true e = refl
    go false false e = higher e

clash_back : (parents : List ℕ) (x y : Move) → clash parents x y ≡ true → clash parents y x ≡ true
unfolding clash circle
clash_back parents x y c = elim (ℕ_discrete x.node y.node) [
  | yes e ↦ rw (eq-eqb y.node x.node (sym e))
  | no ne ↦
      let h = simp and-eq-true_iff at (rw (ne_eqb _ _ ne) at c) in
      rw (ne_eqb y.node x.node (λ e. ne (sym e))) (and_both h.1 h.0)
]

---- both are held

apart_back : (x y : Move) → (x.replica ≡ y.replica → ⊥) → y.replica ≡ x.replica → ⊥
apart_back x y apart e = apart (sym e)

module _ (log more : Log) (good : GoodLog log) (Good-more : GoodLog more) (x y : Move) (apart : x.replica ≡ y.replica → ⊥)
    (ops : (z : Op) → has (concat more) z ≡ has (op_of log x ∷ op_of log y ∷ concat log) z) where
  abbrev rx : Op
  rx = op_of log x

  abbrev ry : Op
  ry = op_of log y

  abbrev two : List Op
  two = rx ∷ ry ∷ []

  one_of_two : (z : Op) → has two z ≡ true → (z ≡ rx) ⊎ (z ≡ ry)
  one_of_two z h = ⊎_elim
      (λ (e : z ≡ rx). inl e)
      (λ (e : has (ry ∷ []) z ≡ true). ⊎_elim (λ (q : z ≡ ry). inr q) (λ q. has_none z q) (has_cases ry [] z e))
      (has_cases rx (ry ∷ []) z h)

  module _ (dx : Drawn log x) (dy : Drawn log y) where
    alone_x : (z : Op) → has two z ≡ true → replica_of z ≡ x.replica → z ≡ rx
    alone_x z h e = ⊎_elim
        (λ (q : z ≡ rx). q) (λ (q : z ≡ ry). absurd (apart (sym e ∙ ap replica_of q ∙ dy.origin))) (one_of_two z h)

    alone_y : (z : Op) → has two z ≡ true → replica_of z ≡ y.replica → z ≡ ry
    alone_y z h e = ⊎_elim
        (λ (q : z ≡ rx). absurd (apart (sym (ap replica_of q ∙ dx.origin) ∙ e))) (λ (q : z ≡ ry). q) (one_of_two z h)

    both_held : Both log more x y
    both_held =
        let first = has_head rx (ry ∷ []) in
        let second = has_tail rx (ry ∷ []) ry (has_head ry []) in
        record {
          late = record {
            extends = new_extends log more good Good-more two ops;
            vector = λ s q l u lo hi. ⊎_elim (λ e. rw e dx.vector) (λ e. rw e dy.vector)
                (one_of_two _ (one_of_new log more good Good-more two ops s q l u lo hi));
          };
          good = Good-more;
          count_x = new_count log more good Good-more two ops _ rx first dx.origin dx.next alone_x;
          count_y = new_count log more good Good-more two ops _ ry second dy.origin dy.next alone_y;
          rest = λ s l u ne ne'. none_new log more good Good-more two ops s l u (λ z h e. ⊎_elim
              (λ (q : z ≡ rx). ne (sym e ∙ ap replica_of q ∙ dx.origin))
              (λ (q : z ≡ ry). ne' (sym e ∙ ap replica_of q ∙ dy.origin))
              (one_of_two z h));
          op_x = new_op_law log more good Good-more two ops _ rx first dx.origin dx.next;
          op_y = new_op_law log more good Good-more two ops _ ry second dy.origin dy.next;
        }

---- from the calls

-- what two accepted issues say
module _ (f g out out' : List ℕ) (x y : Move) (both : BothIssued f g out out' x y) where
  abbrev log : Log
  log = log_of width f

  abbrev putx : Op
  putx = put_out f out x

  abbrev puty : Op
  puty = put_out g out' y

  good : GoodLog log
  good = sound_good width f (allowed width f (length out) x.replica (request x) both.end both.first).is_sound_so

  ax : Asked log x
  ax = asked width f (length out) both.end x (allowed width f (length out) x.replica (request x) both.end both.first)

  ay : Asked log y
  ay =
      let a = allowed width g (length out') y.replica (request y) both.end' both.second in
      rw both.one_log at (asked width g (length out') both.end' y a)

  put_x : putx ≡ op_of log x
  put_x = put_out_law f out x.replica (request x) both.end both.first

  put_y : puty ≡ op_of log y
  put_y = rw both.one_log at (put_out_law g out' y.replica (request y) both.end' both.second)

  back_x : NextOp log x.replica putx
  back_x = put_out_next f out x.replica (request x) both.end both.first

  back_y : NextOp log y.replica puty
  back_y = rw both.one_log at (put_out_next g out' y.replica (request y) both.end' both.second)

  differ_back : y.replica ≡ x.replica → ⊥
  differ_back = apart_back x y both.replicas_differ

  module _ (h : List ℕ) (added : OnlyAdded f h (putx ∷ puty ∷ [])) (c : clash (parents_of log) x y ≡ true) where
    abbrev more : Log
    more = log_of width h

    held : Both log more x y
    held =
        both_held log more good (sound_good width h added.is_sound_so) x y both.replicas_differ (rw (put_x, put_y) at added.ops)
        (drawn log good x) (drawn log good y)

    decided : (beats (parents_of log) x y ≡ true → Wins log more x y) × (beats (parents_of log) x y ≡ false → Wins log more y x)
    decided = (
      λ w. x_wins log more good x y ax ay held both.replicas_differ w c,
      λ w. x_wins log more good y x ay ax (swap log more x y held) differ_back
          (beaten log x y both.replicas_differ w) (clash_back (parents_of log) x y c),
    )

  module _ (b : List ℕ) (is_sound_so : sound width b ≡ true) (one_log : log_of width b ≡ log)
      (fits : file_end width b + 2 * width ≤ length b) where
    room : file_end width b + width ≤ length b
    room = omega arith

    x_then_y : (one : Call) → AddsOp b putx one → Arrives f b putx puty one (deliver puty)
    x_then_y one adds =
        arrives f good _ _ putx puty back_x back_y ay.low both.replicas_differ b one_log one adds fits

    y_then_x : (one : Call) → AddsOp b puty one → Arrives f b putx puty one (deliver putx)
    y_then_x one adds =
        arrives_back f b putx puty one (deliver putx)
        (arrives f good _ _ puty putx back_y back_x ax.low differ_back b one_log one adds fits)

    arrivals : Arrivals f b out out' x y putx puty
    arrivals = record {
      x_issued = x_then_y _ (rw put_x (issue_adds f b out x.replica (request x) both.end both.first is_sound_so one_log room));
      y_issued = y_then_x _ (rw (put_out_law g out' y.replica (request y) both.end' both.second)
          (issue_adds g b out' y.replica (request y) both.end' both.second is_sound_so (one_log ∙ sym both.one_log) room));
      x_first = x_then_y _ (op_adds f b x.replica putx back_x is_sound_so one_log room);
      y_first = y_then_x _ (op_adds f b y.replica puty back_y is_sound_so one_log room);
    }

pub clash_decided : ClashDecided
clash_decided f g out out' x y both h added c = decided f g out out' x y both h added c

pub both_arrive : BothArrive
both_arrive f g out out' x y both b is_sound_so one_log fits = arrivals f g out out' x y both b is_sound_so one_log fits

pub circle_cuts_off : CircleCutsOff
circle_cuts_off f g out out' x y both =
    circle_is (log f g out out' x y both) (good f g out out' x y both) x y (ax f g out out' x y both) (ay f g out out' x y both)
