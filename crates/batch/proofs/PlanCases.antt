-- The moves of a batch in turn, as the code plans them.
use mathlib.Core.Path.{◌≡◌, refl, sym, ap, ◌∙◌}
use mathlib.Core.Bool.{true, false}
use mathlib.Core.List.{List, [], ◌∷◌, ◌++◌, append_assoc, append-nil, foldl-append}
use Prim.Native.Nat.{ℕ, suc, ◌+◌, ◌*◌, ◌-◌, ◌^◌, ◌≤◌, ◌<◌}
use native.Mathlib.Numerals.{add-one}
use native.Mathlib.Omega.{arith}
use lib.ListN.{drop, get_or, length, length-append, length-drop, length-take, set, take, take-append-drop}
use lib.Seq.{drop-cons, length-take-le, take_all, take_at, take-suc}
use borrow.Author.Rules.{rules}
use Rattle.lists.specs.Lists.{concat}
use Rattle.lists.proofs.BoolLaws.{never, tested}
use Rattle.lists.proofs.ListLaws.{concat_append}
use Rattle.rules.specs.Answer.{Answer, accepted, unless_refused}
use Rattle.rules.specs.File.{Log, counts_of, file_end, header_counts, log_of, start_of, width}
use Rattle.rules.specs.Issue.{move, issue_answer, issued, request_known, request_unmarked, Issued}
use Rattle.rules.specs.Log.{known_parent}
use Rattle.rules.specs.Op.{Vector, count_in, is_replica}
use Rattle.rules.specs.Replay.{parents_of}
use Rattle.rules.specs.Tree.{slot_of, slots}
use Rattle.rules.proofs.FileLaws.{counts_log_of}
use Rattle.rules.proofs.IssueLaws.{issue_admitted}
use Rattle.rules.proofs.ReplicaLaws.{replica_high, replica_low}
use Rattle.rules.proofs.SoundLaws.{sound_good, sound_laid}
use Rattle.rules.proofs.StepLaws.{tables_full}
use Rattle.codec.specs.Asked.{is_accepted}
use Rattle.codec.proofs.AnswerLaws.{accepted_with, if_accepted_law}
use Rattle.delivery.specs.Adding.{last_test, room_test}
use Rattle.oplog.proofs.HeaderLaws.{end_is}
use Rattle.issue.specs.Issuing.{Lent, bytes_of, cleared_op, drafted, put_out}
use Rattle.issue.specs.Issuing.{Drafted}
use Rattle.std.specs.Prelude.{Ok, Err}
use Rattle.issue.proofs.IssueCases.{issue_put, issue_refused, op_of}
use Rattle.soundness.proofs.SoundCases.{end_asks}
use Rattle.marks.specs.Knowing.{MarkedLog}
use Rattle.batch_rules.specs.Batch.{move_buffer, moves_answer, moves_buffer, moves_ops, most_moves}
use Rattle.batch_rules.proofs.BatchLaws.{AllTaken, Carried, Settled, yes, no, issue_settled, ops_parts, parents_after, taken_answer, taken_both, taken_carried, taken_first}
use Rattle.batch.specs.declared.drafting.Batch.{Batch}
use Rattle.batch.specs.Planning.{Next, Planned, Prepared, Turn, drafted_in, next_by, put_next}
use Rattle.batch.proofs.DraftCases.{leaving, draft_moved, draft_node, draft_parent}
use Rattle.batch.proofs.TakenLaws.{taken_count, taken_counts, taken_end}

---- a move is tested at f, with the counts and the tree of g, as it would be at g

module _ (f g : List ℕ) (c : Carried f g) (s : ℕ) (is : is_replica s ≡ true) (n p : ℕ) where
  abbrev there : Log
  there = log_of width g

  same_draft : drafted_in (log_of width f) (counts_of there) (parents_of there) s n p ≡ drafted there s (move n p)
  unfolding drafted_in drafted cleared_op request_known request_unmarked known_parent
  same_draft = rw (c.knows n, c.knows p)

  -- what is drafted, and bytes for an op
  module _ (op : List ℕ) (long : length op ≡ width) where
    lent : Lent g (length op) s
    lent = record { issuer = record { is_sound_so = c.is_sound_so; is_replica_so = is }; space = omega (arith, long) }

    abbrev left : Drafted → Next
    left r = next_by (length f) (file_end width g) (counts_of there) s (parents_of there) op r

    answer_is : (r : Drafted) → r ≡ drafted there s (move n p) → (left r).answer ≡ issue_answer width g width s (move n p)
    unfolding next_by put_next room_test put_out last_test
    answer_is (Err why) e =
        ap (λ (x : Issued). x.answer) (issue_refused g op s (move n p) lent why e)
        ∙ ap (λ k. issue_answer width g k s (move n p)) long
    answer_is (Ok d) e =
        rw (← c.size) (ap (λ (x : Issued). x.answer) (issue_put g op s (move n p) lent d e _ refl)
        ∙ ap (λ k. issue_answer width g k s (move n p)) long)

    abbrev draft : Drafted
    draft = drafted_in (log_of width f) (counts_of there) (parents_of there) s n p

    left_by : (r : Drafted) → draft ≡ r → is_accepted (left r).answer ≡ true
        → ((left r).op ≡ issued there s (move n p)) × ((left r).tree ≡ set (parents_of there) (slot_of n) p)
    unfolding next_by put_next cleared_op
    left_by (Err why) e a = never a
    left_by (Ok d) e a =
        let moved = draft_moved (log_of width f) (counts_of there) (parents_of there) s n p d e in
        let node = draft_node (log_of width f) (counts_of there) (parents_of there) s n p d e in
        let parent = draft_parent (log_of width f) (counts_of there) (parents_of there) s n p d e in (
          if_accepted_law (bytes_of s d (counts_of there)) op (room_test (length f) (file_end width g)) a ∙ sym (op_of there s (move n p) d moved),
          if_accepted_law (set (parents_of there) (slot_of d.node) d.parent) (parents_of there) (room_test (length f) (file_end width g)) a
              ∙ rw (node, parent),
        )

    -- x is what the move left
    module _ (x : Next) (so : x ≡ left draft) where
      turn_answer : x.answer ≡ issue_answer width g width s (move n p)
      turn_answer = ap (λ (y : Next). y.answer) so ∙ answer_is draft same_draft

      module _ (a : is_accepted x.answer ≡ true) where
        turn_left : ((left draft).op ≡ issued there s (move n p)) × ((left draft).tree ≡ set (parents_of there) (slot_of n) p)
        turn_left = left_by draft refl (ap (λ (y : Next). is_accepted y.answer) (sym so) ∙ a)

        turn_op : x.op ≡ issued there s (move n p)
        turn_op = ap (λ (y : Next). y.op) so ∙ turn_left.0

        turn_taken : (m : ℕ) × (issue_answer width g width s (move n p) ≡ accepted m)
        turn_taken = let (m, e) = accepted_with x.answer a in (m, sym turn_answer ∙ e)

        turn_tree : x.tree ≡ parents_of (log_of width (move_buffer width g s n p))
        turn_tree =
            let (m, e) = turn_taken in
            ap (λ (y : Next). y.tree) so ∙ turn_left.1 ∙ sym (parents_after g s n p m e)

---- the loop

-- the buffer after the first i moves
abbrev reached : (f : List ℕ) (s : ℕ) (ns : List ℕ) (p i : ℕ) → List ℕ
reached f s ns p i = moves_buffer width f s (take i ns) p

-- i moves are planned: t is the tree that they leave of the first one, and their ops are the first bytes of ops
pub record PlannedTo (f : List ℕ) (u : Vector) (marks : List ℕ) (s : ℕ) (ns : List ℕ) (p start k end : ℕ)
    (first t ops : List ℕ) (i : ℕ) : Type 0 where
  pub marked : MarkedLog f u marks
  pub is_replica_so : is_replica s ≡ true
  pub most : length ns ≤ most_moves
  pub start_is : start ≡ start_of width (header_counts f) 9
  pub wide : k ≡ s
  pub whole : end ≡ length ns
  pub few : i ≤ length ns
  pub taken : AllTaken f s (take i ns) p
  pub tree : t ≡ parents_of (log_of width (reached f s ns p i))
  pub same : length t ≡ length first
  pub size : length ops ≡ width * length ns
  pub written : take (width * i) ops ≡ concat (moves_ops width f s (take i ns) p)

pub plan_starts : (b : Batch) (t ns ops : List ℕ) (start k : ℕ) → Prepared b t ns ops → start ≡ start_of width (header_counts b.file.now) 9
    → k ≡ b.replica → PlannedTo b.file.now b.held b.marks.now b.replica ns b.parent start k (length ns) t t ops 0
unfolding moves_buffer moves_ops concat
plan_starts b t ns ops start k x es ek = record {
  marked = x.marked;
  is_replica_so = x.plannable.is_replica_so;
  most = x.plannable.few;
  start_is = es;
  wide = ek;
  whole = refl;
  few = omega arith;
  taken = tt;
  tree = x.tree;
  same = refl;
  size = x.plannable.bytes;
  written = refl;
}

module _ (f : List ℕ) (u : Vector) (marks : List ℕ) (s : ℕ) (ns : List ℕ) (p start k end : ℕ) (first t ops : List ℕ) (i : ℕ)
    (x : PlannedTo f u marks s ns p start k end first t ops i) where
  abbrev here : List ℕ
  here = reached f s ns p i

  few_taken : length (take i ns) ≡ i
  few_taken = length-take-le i ns x.few

  carried : Carried f here
  carried = taken_carried (take i ns) f s p x.marked.tallied.is_sound_so x.taken

  start_end : start ≡ file_end width f
  start_end = x.start_is ∙ end_is width f

  end_here : file_end width here ≡ start + width * i
  end_here = omega (arith, taken_end s p x.is_replica_so (take i ns) f x.taken, start_end, few_taken)

  pub plan_inside : start + width * i ≤ length f
  plan_inside = omega (arith, end_here, carried.size, (sound_laid width here carried.is_sound_so).fits)

  pub plan_fits : length f < 2 ^ 64 → (at : ℕ) → at ≡ width * i → start + at < 2 ^ 64
  plan_fits h at e = omega (arith, plan_inside)

  pub plan_small : length ns ≤ 16
  plan_small = x.most

  pub plan_counts : (1 ≤ k) × (k ≤ 8) × (count_in u k + i ≤ 255)
  plan_counts =
      let low = replica_low s x.is_replica_so in
      let high = replica_high s x.is_replica_so in
      let below = (sound_good width here carried.is_sound_so).counts s low high in
      let more = taken_count s p x.is_replica_so (take i ns) f x.taken in
      rw (x.wide, x.marked.tallied.counts) (low, high, omega (arith, few_taken))

  plan_table : length t ≡ slots
  unfolding parents_of
  plan_table = rw x.tree (tables_full (log_of width here) (counts_of (log_of width here))).parents_full

  module _ (h : i < end) (at to : ℕ) (ha : at ≡ width * i) (ht : to ≡ at + width) where
    pub plan_node : i < length ns
    plan_node = omega (arith, x.whole)

    pub plan_part : to ≤ length ops
    plan_part = omega (arith, x.size, x.whole)

    abbrev part : List ℕ
    part = take (to - at) (drop at ops)

    plan_there : start + at ≤ length f
    plan_there = omega (arith, plan_inside)

    part_long : length part ≡ width
    part_long = simp (length-take, length-drop) (omega (arith, plan_part))

    pub plan_asks : (b : Batch) → b.file.now ≡ f → b.held ≡ u → b.marks.now ≡ marks → b.replica ≡ s → Turn b (start + at) t part
    plan_asks b ef eu em es = record {
      ground = record { marked = rw (ef, eu, em) x.marked; size = plan_table; is_replica_so = rw es x.is_replica_so };
      bytes = part_long;
      inside = rw ef plan_there;
    }

    abbrev node : ℕ
    node = get_or ns i 0

    next_nodes : drop i ns ≡ node ∷ drop (suc i) ns
    next_nodes = drop-cons ns i 0 plan_node

    nodes_to : take (i + 1) ns ≡ take i ns ++ (node ∷ [])
    nodes_to = rw add-one (take-suc ns i 0 plan_node)

    here_next : reached f s ns p (i + 1) ≡ move_buffer width here s node p
    unfolding moves_buffer
    here_next = rw (nodes_to, foldl-append)

    later : Answer
    later = moves_answer width (move_buffer width here s node p) s (drop (suc i) ns) p

    rest : moves_answer width f s ns p ≡ unless_refused (issue_answer width here width s (move node p)) later
    unfolding moves_answer later
    rest =
        ap (λ ms. moves_answer width f s ms p) (sym (take-append-drop i ns))
        ∙ taken_first (take i ns) (drop i ns) f s p x.taken
        ∙ ap (λ ms. moves_answer width here s ms p) next_nodes

    -- c are the counts there, and a, t' and o what the move left
    module _ (c : Vector) (hc : c ≡ set u (k - 1) (count_in u k + i)) (a : Answer) (t' o : List ℕ)
        (e : record { answer = a; tree = t'; op = o }
        ≡ next_by (length f) (start + at) c s t part (drafted_in (log_of width f) c t s node p)) where
      abbrev y : Next
      y = record { answer = a; tree = t'; op = o }

      counts_here : c ≡ counts_of (log_of width here)
      counts_here =
          let held : u ≡ header_counts f = x.marked.tallied.counts ∙ counts_log_of width f in
          hc ∙ rw (x.wide, held) (sym (taken_counts s p x.is_replica_so (take i ns) f x.taken ∙ rw few_taken))

      so : y ≡ left f here carried s x.is_replica_so node p part part_long (draft f here carried s x.is_replica_so node p part part_long)
      so = let z : start + at ≡ file_end width here = omega (arith, end_here) in e ∙ rw (z, counts_here, x.tree)

      answer_here : a ≡ issue_answer width here width s (move node p)
      answer_here = turn_answer f here carried s x.is_replica_so node p part part_long y so

      pub plan_refused : is_accepted a ≡ false → (b : List ℕ) → Planned f s ns p a b
      unfolding unless_refused
      plan_refused h b = record {
        answered = sym (rest ∙ go (sym answer_here) (issue_settled here width s (move node p)));
        written = λ w. never (sym h ∙ w);
      }
        where
          go : {b : Answer} → b ≡ a → Settled b → unless_refused b later ≡ a
          go q (no m) = q
          go q (yes m) = never (sym h ∙ ap is_accepted (sym q))

      module _ (w : is_accepted a ≡ true) where
        took : (m : ℕ) × (issue_answer width here width s (move node p) ≡ accepted m)
        took = turn_taken f here carried s x.is_replica_so node p part part_long y so w

        op_is : o ≡ issued (log_of width here) s (move node p)
        op_is = turn_op f here carried s x.is_replica_so node p part part_long y so w

        op_long : length o ≡ width
        op_long = let (m, q) = took in rw op_is (issue_admitted here width s (move node p) m q).long

        ops_next : moves_ops width f s (take (i + 1) ns) p ≡ moves_ops width f s (take i ns) p ++ (o ∷ [])
        unfolding moves_ops
        ops_next = rw (nodes_to, ops_parts (take i ns) (node ∷ []) f s p, op_is)

        tree_next : t' ≡ parents_of (log_of width (reached f s ns p (i + 1)))
        tree_next = rw here_next (turn_tree f here carried s x.is_replica_so node p part part_long y so w)

        pub plan_on : length t' ≡ length t
            → PlannedTo f u marks s ns p start k end first t' (take at ops ++ (o ++ drop (to - at) (drop at ops))) (i + 1)
        unfolding concat
        plan_on l =
            let front : length (take at ops) ≡ at = length-take-le at ops (omega (arith, plan_part)) in
            let both : length (take at ops ++ o) ≡ width * (i + 1) = rw (length-append, front, op_long) (omega arith) in
            let back : List ℕ = drop (to - at) (drop at ops) in
            let parts : take at ops ++ (o ++ back) ≡ (take at ops ++ o) ++ back = sym (append_assoc (take at ops) o back) in
            record {
              marked = x.marked;
              is_replica_so = x.is_replica_so;
              most = x.most;
              start_is = x.start_is;
              wide = x.wide;
              whole = x.whole;
              few = omega (arith, plan_node);
              taken = rw nodes_to (taken_both (take i ns) (node ∷ []) f s p x.taken (took, tt));
              tree = tree_next;
              same = l ∙ x.same;
              size = rw (parts, length-append, both, length-drop, length-drop) (omega (arith, x.size, plan_part));
              written =
                  ap (take (width * (i + 1))) parts ∙ take_at (take at ops ++ o) back (width * (i + 1)) both
                  ∙ rw (ops_next, concat_append, append-nil, ha, x.written);
            }

  pub plan_end_fits : length f < 2 ^ 64 → end ≤ i → (m : ℕ) → m ≡ width * length ns → start + m < 2 ^ 64
  plan_end_fits l h m e =
      let all : i ≡ length ns = omega (arith, x.whole, x.few) in
      omega (arith, plan_inside, ap (λ (j : ℕ). width * j) all)

  pub plan_ends : end ≤ i → (m : ℕ) → m ≡ length ns → Planned f s ns p (accepted (start + width * m)) ops
  plan_ends h m em =
      let all : i ≡ length ns = omega (arith, x.whole, x.few) in
      let every : take i ns ≡ ns = take_all i ns (omega arith) in
      let taken : AllTaken f s ns p = rw every at x.taken in
      record {
        answered = sym (taken_answer ns f s p taken ∙ ap accepted (taken_end s p x.is_replica_so ns f taken ∙ rw (em, start_end)));
        written = λ _. sym (take_all (width * i) ops (omega (arith, x.size))) ∙ x.written ∙ rw every;
      }

---- what the code of planning needs: search planning
pub ruleset turning = (plan_counts, plan_node, plan_part, plan_asks, plan_refused, plan_on)

pub ruleset planning = (rules, tested, end_asks, leaving, plan_starts, plan_inside, plan_fits, plan_end_fits, plan_small, turning, plan_ends)
