-- What a run of offers comes to: both sides stay files of ops of the union, the answers are those of a round, and
-- each acceptance makes one op less missing.
use mathlib.Core.Path.{◌≡◌, refl, sym, ◌∙◌}
use mathlib.Core.Logic.{⊎_elim}
use mathlib.Core.Bool.{Bool, true, false, cond, ◌&&◌, or-true}
use mathlib.Core.List.{List, [], ◌∷◌, ◌++◌, append_assoc, append-nil}
use Prim.Native.Nat.{ℕ, suc, ◌+◌, ◌≤◌}
use native.Mathlib.Omega.{arith}
use native.Mathlib.Decide.{dec_le}
use borrow.Author.Tests.{leb-true}
use lib.ListN.{length}
use Rattle.lists.specs.Lists.{same, concat, all, any, filter}
use Rattle.rules.specs.Op.{Op, count_in, replica_of, vector_of, seq_of}
use Rattle.rules.specs.File.{Log, op_at, counts_of, file_end, log_of, appended, width, largest}
use Rattle.rules.specs.Log.{covered}
use Rattle.rules.specs.Deliver.{is_held, deliver_answer}
use Rattle.convergence.specs.Exchange.{Site, answer, has, Side, left, right, other, is_side, Pair, missing, Offer, Round, answer_to, offered, after, Answered, answers, acceptances, accepted_by, offers, ValidRound, EachRound, only_in}
use Rattle.convergence.specs.Converges.{expected}
use Rattle.rules.specs.Answer.{Answer, refused, had_it, accepted, if_accepted, waiting, done}
use Rattle.lists.proofs.BoolLaws.{never, and_left, and_right, or_cases}
use Rattle.rules.proofs.AppendLaws.{seq_positive}
use Rattle.rules.proofs.DeliverLaws.{Admitted, admitted}
use Rattle.rules.proofs.OfferLaws.{Offered, early, had, short, taken}
use Rattle.rules.proofs.WayLaws.{OnWay, room_in_full, way_answer, way_grown, way_room}
use Rattle.rules.proofs.CausalLaws.{Missing, total, some_ready}
use Rattle.rules.proofs.FileLaws.{WideLog}
use Rattle.lists.proofs.ListLaws.{same_refl, same_eq}
use Rattle.rules.proofs.StructureLaws.{HeldOp, HeldOps}
use Rattle.convergence.proofs.HasLaws.{has_old, times_some, only_in_less, only_in_same, some_only_in}
use Rattle.rules.proofs.InLaws.{OpIn, in_more, op_in}
use Rattle.convergence.proofs.KeptLaws.{log_in, Kept, kept_ops, kept_grown, grown_new}
use Rattle.convergence.proofs.SideLaws.{both, side_self, side_other, side_eq, missing_from, delivered, offered_to, offered_other, offered_same, answers_append, after_append, accepted_by_append, acceptances_append}
use Rattle.rules.proofs.SoundLaws.{SoundLog}
use Rattle.lists.proofs.AllLaws.{all_append}

-- a side in the rounds, on its way to u from the buffer f
pub record Stands (u : Log) (f : List ℕ) (x : Site) : Type 0 where
  pub kept : Kept x
  pub way : OnWay width u f x.buffer

-- from p to q by offers with these answers
pub record Passes (u : Log) (base : Side → List ℕ) (p q : Pair) (xs : List Answered) : Type 0 where
  pub stands : (d : Side) → Stands u (base d) (q d)
  pub answered : all (λ x. expected x.answered) xs ≡ true
  pub gained : (d : Side) → (q d).held ≡ (p d).held ++ accepted_by d xs
  pub fewer : length (missing p) ≡ length (missing q) + length (acceptances xs)

-- what an op is answered where there is room for it
module _ {g : List ℕ} {r : Op} (room : is_held (log_of width g) r ≡ false → file_end width g + width ≤ length g) where
  offered_expected : {a : Answer} → Offered width g r a → expected a ≡ true
  unfolding expected
  offered_expected taken = refl
  offered_expected (had e) = refl
  offered_expected (early e) = refl
  offered_expected (short e l) = absurd (omega (arith, room e))

  -- an op that is neither held nor early
  accepts : {a : Answer} → Offered width g r a → (is_held (log_of width g) r ≡ true → ⊥) → (covered (log_of width g) (vector_of r) ≡ false → ⊥)
      → (n : ℕ) × (a ≡ accepted n)
  accepts taken h c = (file_end width g + width, refl)
  accepts (had e) h c = absurd (h e)
  accepts (early e) h c = absurd (c e)
  accepts (short e l) h c = absurd (omega (arith, room e))

-- an op that would be accepted, and is offered
reached : (os : List Offer) (p : Pair) (d : Side) (r : Op) (n : ℕ) → offers os d r ≡ true → deliver_answer width (p d).buffer r ≡ accepted n
    → 1 ≤ length (acceptances (answers p os))
unfolding offers any answers acceptances filter answer_to answer
reached [] p d r n e h = never e
reached (o ∷ os) p d r n e h = go (if_accepted (answer_to p o) true false) refl (reached os (offered p o) d r n)
  where
    go : (b : Bool) → if_accepted (answer_to p o) true false ≡ b
        → (offers os d r ≡ true → deliver_answer width (offered p o d).buffer r ≡ accepted n
        → 1 ≤ length (acceptances (answers (offered p o) os)))
        → 1 ≤ length (cond b (record { offer = o; answered = answer_to p o } ∷ acceptances (answers (offered p o) os))
        (acceptances (answers (offered p o) os)))
    go true q ih = omega arith
    go false q ih =
        ⊎_elim (λ (z : (is_side d o.to && same r o.op) ≡ true).
        let a : answer_to p o ≡ accepted n = rw (
          side_eq d o.to (and_left (is_side d o.to) _ z),
          same_eq r o.op
              (and_right (is_side d o.to) _ z),
        ) at h in
        never (sym (rw a at q)))
        (λ (z : offers os d r ≡ true). ih z (rw (offered_same p o q d) h))
        (or_cases (is_side d o.to && same r o.op) (offers os d r) e)

module _ (u : Log) (su : SoundLog u) (wu : WideLog width u) (base : Side → List ℕ) (big : (d : Side) → largest width ≤ length (base d))
  where
    ---- one offer

    module _ (d : Side) (x : Site) (s : Stands u (base d) x) (r : Op) (i : OpIn u r) where
      offer_answer : Offered width x.buffer r (deliver_answer width x.buffer r)
      offer_answer = way_answer width u su (base d) x.buffer s.way r i wu

      room : is_held (log_in x) r ≡ false → file_end width x.buffer + width ≤ length x.buffer
      room = way_room width u su (base d) x.buffer s.way r i (room_in_full width u su (base d) (big d))

      stands_grown : (n : ℕ) → Admitted width x.buffer r n
          → Stands u (base d) (record { buffer = appended width x.buffer r; held = x.held ++ (r ∷ []) })
      stands_grown n h = record {
        kept = kept_grown x r n s.kept h;
        way = way_grown width u su (base d) x.buffer s.way r i n h;
      }

    pass_none : (p : Pair) → ((d : Side) → Stands u (base d) (p d)) → Passes u base p p []
    unfolding all accepted_by acceptances filter
    pass_none p s = record {
      stands = s;
      answered = refl;
      gained = λ d. sym (append-nil (p d).held);
      fewer = omega arith;
    }

    pass_then : {p q z : Pair} {xs ys : List Answered} → Passes u base p q xs → Passes u base q z ys → Passes u base p z (xs ++ ys)
    pass_then {p} {q} {z} {xs} {ys} a b = record {
      stands = b.stands;
      answered = all_append (λ x. expected x.answered) xs ys a.answered b.answered;
      gained = λ d. rw (b.gained d, a.gained d, accepted_by_append) (append_assoc (p d).held (accepted_by d xs) (accepted_by d ys));
      fewer = omega (arith, a.fewer, b.fewer, acceptances_append xs ys);
    }

    -- nothing changes
    pass_same : (p q : Pair) (x : Answered) → ((d : Side) → Stands u (base d) (p d)) → ((d : Side) → q d ≡ p d)
        → expected x.answered ≡ true → if_accepted x.answered true false ≡ false → Passes u base p q (x ∷ [])
    unfolding all accepted_by acceptances filter
    pass_same p q x s e h n = record {
      stands = λ d. rw (e d) (s d);
      answered = rw h;
      gained = λ d. rw (n, e d) (sym (append-nil (p d).held));
      fewer = rw (missing_from p left, missing_from q left, e left, e (other left), n) (omega arith);
    }

    -- the side t gains the op r
    pass_gain : (p q : Pair) (t : Side) (r : Op) (n : ℕ) → ((d : Side) → Stands u (base d) (p d)) → has (p (other t)).held r ≡ true
        → OpIn u r → Admitted width (p t).buffer r n → q t ≡ record {
          buffer = appended width (p t).buffer r;
          held = (p t).held
              ++ (r ∷ []);
        }
        → q (other t) ≡ p (other t) → Passes u base p q (record { offer = record { to = t; op = r }; answered = accepted n } ∷ [])
    unfolding all accepted_by acceptances filter expected
    pass_gain p q t r n s o i h eq eo = record {
      stands = both t (λ d. Stands u (base d) (q d)) (rw eq (stands_grown t (p t) (s t) r i n h)) (rw eo (s (other t)));
      answered = refl;
      gained = both t (λ d. (q d).held ≡ (p d).held ++ accepted_by d (record { offer = record { to = t; op = r }; answered = accepted n }
          ∷ []))
          (rw (side_self t, eq)) (rw (side_other t, eo) (sym (append-nil (p (other t)).held)));
      fewer = rw (missing_from p t, missing_from q t, eq, eo, only_in_same (p t).held (p (other t)).held r o)
          (omega (
            arith,
            only_in_less (p (other t)).held (p t).held r (grown_new (p t) r n (s t).kept h),
            times_some (p (other t)).held r
                o,
            (s (other t)).kept.once r,
          ));
    }

    -- an offer of an op that the other side has
    pass_one : (p : Pair) (o : Offer) → ((d : Side) → Stands u (base d) (p d)) → has (p (other o.to)).held o.op ≡ true
        → Passes u base p (offered p o) (record { offer = o; answered = answer_to p o } ∷ [])
    unfolding answer_to answer delivered expected
    pass_one p o s h = go (answer_to p o) refl (offer_answer o.to (p o.to) (s o.to) o.op i)
      where
        i : OpIn u o.op
        i = let t = other o.to in in_more (log_in (p t)) u (s t).way.inside o.op ((s t).kept.tracks.inside o.op h)

        fits : is_held (log_in (p o.to)) o.op ≡ false → file_end width (p o.to).buffer + width ≤ length (p o.to).buffer
        fits = room o.to (p o.to) (s o.to) o.op i

        go : (a : Answer) → answer_to p o ≡ a → Offered width (p o.to).buffer o.op a
            → Passes u base p (offered p o) (record { offer = o; answered = a } ∷ [])
        go (refused n) e f = pass_same p (offered p o) (record { offer = o; answered = refused n }) s (offered_same p o (rw e))
            (offered_expected fits f) refl
        go waiting e f = never (offered_expected fits f)
        go done e f = never (offered_expected fits f)
        go had_it e f = pass_same p (offered p o) (record { offer = o; answered = had_it }) s (offered_same p o (rw e)) refl refl
        go (accepted n) e f = pass_gain p (offered p o) o.to o.op n s h i (admitted width (p o.to).buffer o.op n e)
            (rw e at (offered_to p o)) (offered_other p o)

    ---- a run of offers

    pass_offers : (os : List Offer) (p : Pair) → ((d : Side) → Stands u (base d) (p d)) → ((d : Side) (r : Op) → offers os d r ≡ true
        → has (p (other d)).held r ≡ true) → Passes u base p (after p os) (answers p os)
    unfolding after answers offers any
    pass_offers [] p s h = pass_none p s
    pass_offers (o ∷ os) p s h =
        let one = pass_one p o s (h o.to o.op (rw (side_self o.to, same_refl o.op))) in
        pass_then one (pass_offers os (offered p o) one.stands (λ d r e.
        rw (one.gained (other d)) (has_old (p (other d)).held _ r (h d r (rw (e, or-true))))))

    ---- rounds

    module _ (p : Pair) (s : (d : Side) → Stands u (base d) (p d)) (os : Round) (v : ValidRound p os) where
      pass_round : Passes u base p (after p os) (answers p os)
      pass_round = pass_offers os p s (λ d r e. sym (v d r) ∙ e)

      lacks : (d : Side) (r : Op) → has (p (other d)).held r ≡ true → has (p d).held r ≡ false
          → Missing (log_in (p (other d))) (log_in (p d)) (replica_of r) (seq_of r)
      lacks d r a b =
          let i = (s (other d)).kept.tracks.inside r a in
          let j = in_more (log_in (p (other d))) u (s (other d)).way.inside r i in
          record {
            low = i.low;
            high = i.high;
            first = seq_positive r;
            here = i.here;
            not_there = elim (dec_le (seq_of r) (count_in (counts_of (log_in (p d))) (replica_of r))) [
              | yes l ↦ never (sym b ∙ (s d).kept.tracks.outside r (record {
                low = i.low;
                high = i.high;
                here = l;
                there = sym ((s d).way.inside.ops (replica_of r) (seq_of r) i.low i.high (seq_positive r) l) ∙ j.there;
              }))
              | no nl ↦ omega arith
            ];
          }

      -- an op that d lacks, and that is not early there
      ready : (d : Side) (r : Op) → has (p (other d)).held r ≡ true → has (p d).held r ≡ false
          → (x : Op) × (n : ℕ) × (offers os d x ≡ true) × (deliver_answer width (p d).buffer x ≡ accepted n)
      unfolding is_held
      ready d r a b =
          let here : Log = log_in (p (other d)) in
          let there : Log = log_in (p d) in
          let ops : HeldOps here = kept_ops (p (other d)) (s (other d)).kept in
          let (t, k, y, c) = some_ready here there ops (suc (total (vector_of (op_at here (replica_of r) (seq_of r))))) (replica_of r) (seq_of r)
          (lacks d r a b) (omega arith) in
          let x : Op = op_at here t k in
          let i : OpIn here x = op_in here ops t k y.low y.high y.first y.here in
          let m : HeldOp here t k x = ops t k y.low y.high y.first y.here in
          let j : OpIn u x = in_more here u (s (other d)).way.inside x i in
          let (n, e) = accepts (room d (p d) (s d) x j) (offer_answer d (p d) (s d) x j) (λ g.
          let z : k ≤ count_in (counts_of there) t = rw (m.origin, m.number) at (leb-true (seq_of x) (count_in (counts_of there) (replica_of x))
          g) in
          omega (arith, y.not_there)) (λ g. never (sym g ∙ c)) in
          (x, n, v d x ∙ (s (other d)).kept.tracks.outside x i, e)

      round_accepts : 1 ≤ length (missing p) → 1 ≤ length (acceptances (answers p os))
      unfolding other
      round_accepts h =
          let from : (d : Side) → 1 ≤ length (only_in (p (other d)).held (p d).held) → 1 ≤ length (acceptances (answers p os)) =
          λ d l. let (r, a, b) = some_only_in (p (other d)).held (p d).held l in let (x, n, o, e) = ready d r a b in reached os p d x n o e
          in
          elim (dec_le 1 (length (only_in (p left).held (p right).held))) [
            | yes l ↦ from right l
            | no nl ↦ from left (omega (arith, missing_from p left))
          ]

    -- all rounds
    pub pass_rounds : (rounds : List Round) (p : Pair) → ((d : Side) → Stands u (base d) (p d)) → EachRound ValidRound p rounds
        → Passes u base p (after p (concat rounds)) (answers p (concat rounds))
    unfolding concat after answers
    pass_rounds [] p s v = pass_none p s
    pass_rounds (os ∷ rounds) p s v =
        let one = pass_round p s os v.0 in
        rw (after_append, answers_append) (pass_then one (pass_rounds rounds (after p os) one.stands v.1))

    pub rounds_accept : (rounds : List Round) (p : Pair) → ((d : Side) → Stands u (base d) (p d)) → EachRound ValidRound p rounds
        → EachRound (λ at os. 1 ≤ length (missing at) → 1 ≤ length (acceptances (answers at os))) p rounds
    rounds_accept [] p s v = tt
    rounds_accept (os ∷ rounds) p s v = (
      round_accepts p s os v.0,
      rounds_accept rounds (after p os) (pass_round p s os v.0).stands
          v.1,
    )

    pub rounds_end : (rounds : List Round) (p : Pair) → ((d : Side) → Stands u (base d) (p d)) → EachRound ValidRound p rounds
        → length (missing p) ≤ length rounds → length (missing (after p (concat rounds))) ≡ 0
    unfolding concat after
    rounds_end [] p s v h = omega arith
    rounds_end (os ∷ rounds) p s v h =
        let one = pass_round p s os v.0 in
        let less : length (missing (after p os)) ≤ length rounds = elim (dec_le 1 (length (missing p))) [
          | yes l ↦ omega (arith, one.fewer, round_accepts p s os v.0 l)
          | no nl ↦ omega (arith, one.fewer)
        ] in
        rw (after_append os (concat rounds) p) (rounds_end rounds (after p os) one.stands v.1 less)
