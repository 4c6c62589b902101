-- Deliveries with one holdback, each lent what the last one left, end as plain offers, over and over, do: every offered op is held, can
-- never be, or waits; and what waits is early.
use mathlib.Core.Path.{◌≡◌, refl, sym, ◌∙◌}
use mathlib.Core.Logic.{◌⊎◌, inl, inr, ⊎_elim}
use mathlib.Core.Bool.{Bool, true, false, cond, ◌||◌}
use mathlib.Core.List.{List, [], ◌∷◌, ◌++◌}
use Prim.Native.Nat.{ℕ, zero, suc, ◌+◌, ◌≤◌, ◌<◌}
use native.Mathlib.Omega.{arith}
use borrow.Author.Tests.{ltb-true}
use lib.Dec.{ltb}
use lib.ListN.{length, length-append}
use Rattle.lists.proofs.BoolLaws.{never}
use Rattle.rules.specs.Answer.{Answer, refused, had_it, waiting, accepted, require, if_accepted, if_waiting, done}
use Rattle.rules.specs.Bytes.{byte}
use Rattle.rules.specs.Op.{Op, vector_of, well_formed}
use Rattle.rules.specs.File.{Log, Extends, file_end, log_of, appended}
use Rattle.rules.specs.Log.{covered, closed, names_known}
use Rattle.rules.specs.Bundle.{turns_buffer}
use Rattle.rules.specs.Deliver.{is_held, deliver_answer, deliver_buffer}
use Rattle.rules.specs.Holdback.{Desk, places, stays, Look, found, none, look, Search, search_on, looks, search, holdback_ops, holdback_of, sound_holdback, waits, put_back, early_answer, released, answer_on, holdback_answer, holdback_buffer, holdback_after, holdback_taken}
use Rattle.rules.specs.Sound.{sound}
use Rattle.rules.proofs.AppendLaws.{Admits, extends_refl, extends_then, covered_more, same_within, closed_more, names_more, replica_formed}
use Rattle.rules.proofs.DeliverLaws.{Admitted, admitted}
use Rattle.rules.proofs.FileLaws.{Wide, wide_last}
use Rattle.rules.proofs.HoldbackLaws.{ops_back, ops_count, ops_few, ops_wide, holdback_sound}
use Rattle.rules.proofs.ReleaseLaws.{accepted_says}
use Rattle.rules.proofs.SearchLaws.{look_less}
use Rattle.rules.proofs.VerdictLaws.{Verdict, short, unformed, rival, had, early, torn, unknown, full, taken, verdict}
use Rattle.convergence.specs.Exchange.{has}
use Rattle.convergence.specs.Holding.{AtMost33, RestRefused, post, posted, cleared, NeverFull, none_accepted, over_and_over, reads, FairOffers, OrderFree, HoldbackPromise}
use Rattle.convergence.proofs.HasLaws.{has_head, has_tail, has_old, has_new, has_none, has_cases, has_either}
use Rattle.convergence.proofs.GrownLaws.{same_bytes}
use Rattle.convergence.proofs.EndLaws.{Ended, reads_of, reads_long, reads_formed, one_log}
use Rattle.convergence.proofs.LookLaws.{stays_as, Dropped, Looked, is_found, is_none, looked, searched, left_wide, left_back}
use Rattle.convergence.proofs.PlainLaws.{Fits, fits_first, fits_deliver, fits_turns, fits_plain, has_room, none_ended, plain_ends, held_more, held_new, extends_new, accepted_buffer}

---- one call

pub at_most_33 : AtMost33
unfolding holdback_taken released
at_most_33 w f r h n e =
    let x = accepted_says w f r h n e in
    let s = searched w (deliver_buffer w f r) (holdback_ops w h) in
    omega (arith, s.few, ops_few w h x.is_holdback)

pub rest_refused : RestRefused
unfolding holdback_buffer holdback_after released
rest_refused w f r h n e =
    let x = accepted_says w f r h n e in
    let back = left_back w h x.is_holdback (deliver_buffer w f r) in
    let s = searched w (deliver_buffer w f r) (holdback_ops w h) in
    rw (e, back) (λ y i. stays_as _ (s.stay y i))

---- ops that need no more waiting for

-- held; or refused for a cause that stays: the vector is covered, and not closed, or without a node that the op names
data Settled (log : Log) (r : Op) : Type 0 where
  is_held_so : is_held log r ≡ true → Settled log r
  is_torn : covered log (vector_of r) ≡ true → closed log (vector_of r) ≡ false → Settled log r
  is_unknown : covered log (vector_of r) ≡ true → names_known log r ≡ false → Settled log r

settled_more : (log more : Log) → Extends log more → (r : Op) → well_formed r ≡ true → Settled log r → Settled more r
settled_more log more x r m (is_held_so e) = let k = replica_formed r m in is_held_so (held_more log more x r k.0 k.1 e)
settled_more log more x r m (is_torn c e) =
    is_torn (covered_more log more x (vector_of r) c) (closed_more log more (vector_of r) (same_within log more x (vector_of r) c) ∙ e)
settled_more log more x r m (is_unknown c e) =
    is_unknown (covered_more log more x (vector_of r) c) (names_more log more r (same_within log more x (vector_of r) c) ∙ e)

settled_out : (log : Log) (r : Op) → Settled log r → Admits log r → ⊥
settled_out log r (is_held_so e) a = never (sym a.new ∙ e)
settled_out log r (is_torn c e) a = never (sym e ∙ a.is_closed)
settled_out log r (is_unknown c e) a = never (sym e ∙ a.names)

---- what is dropped, and what stays

module _ (w : ℕ) (g : List ℕ) (s : sound w g ≡ true) (r : Op) where
  dropped_settled : reads w r ≡ true → Dropped w g r → Settled (log_of w g) r
  unfolding stays
  dropped_settled e d = go (verdict w g r s) d.goes d.not_taken
    where
      go : {a : Answer} → Verdict w g r a → stays a ≡ false → if_accepted a true false ≡ false → Settled (log_of w g) r
      go (short h) z n = absurd (h (reads_long w r e))
      go (unformed h) z n = never (sym h ∙ reads_formed w r e)
      go (rival h) z n = is_held_so h
      go (had h) z n = is_held_so h
      go (early l m h) z n = never (sym z)
      go (torn c h) z n = is_torn c h
      go (unknown c h) z n = is_unknown c h
      go (full l a h) z n = never (sym z)
      go (taken h) z n = never (sym n)

  stays_early : (Admits (log_of w g) r → file_end w g + w ≤ length g) → stays (deliver_answer w g r) ≡ true
      → covered (log_of w g) (vector_of r) ≡ false
  unfolding stays
  stays_early room = go (verdict w g r s)
    where
      go : {a : Answer} → Verdict w g r a → stays a ≡ true → covered (log_of w g) (vector_of r) ≡ false
      go (short h) z = never z
      go (unformed h) z = never z
      go (rival h) z = never z
      go (had h) z = never z
      go (early l m h) z = h
      go (torn c h) z = never z
      go (unknown c h) z = never z
      go (full l a h) z = absurd (omega (arith, room a))
      go (taken h) z = never z

module _ (w : ℕ) (f : List ℕ) (rs : List (List ℕ)) where
  abbrev In : Op → Type 0
  In r = has rs r ≡ true

  -- offered, and it reads
  abbrev Known : List Op → Type 0
  Known ops = (y : Op) → has ops y ≡ true → In y × (reads w y ≡ true)

  ---- the search: an op that waited is left there, or needs no more waiting for

  record Through (g : List ℕ) (ops : List Op) (s : Search) : Type 0 where
    reached : Fits w rs f s.buffer
    more : Extends (log_of w g) (log_of w s.buffer)
    whither : (y : Op) → has ops y ≡ true → Settled (log_of w s.buffer) y ⊎ (has s.left y ≡ true)

  -- an op is found, and the search goes on
  module _ (g : List ℕ) (ops : List Op) (x : Fits w rs f g) (i : Known ops) where
    settled_by : (y : Op) → has ops y ≡ true → Dropped w g y → (more : Log) → Extends (log_of w g) more → Settled more y
    settled_by y j d more e =
        settled_more (log_of w g) more e y (reads_formed w y (i y j).1) (dropped_settled w g x.grown.is_sound_so y (i y j).1 d)

    through_none : (left : List Op) → Looked w g ops (none left) → Through g ops (record { buffer = g; left = left; taken = [] })
    through_none left (is_none y) = record {
      reached = x;
      more = extends_refl (log_of w g);
      whither = λ z j. ⊎_elim
          (λ (c : has left z ≡ true). inr c)
          (λ (c : Dropped w g z). inl (settled_by z j c (log_of w g) (extends_refl (log_of w g))))
          (y.whither z j);
    }

    through_found : (r : Op) (left : List Op) → Looked w g ops (found r left) → (s : Search)
        → (Fits w rs f (deliver_buffer w g r) → Known left → Through (deliver_buffer w g r) left s)
        → Through g ops (record { buffer = s.buffer; left = s.left; taken = r ∷ s.taken })
    through_found r left (is_found y) s again =
        let a = admitted w g r y.end y.takes in
        let b : List ℕ = deliver_buffer w g r in
        let e : b ≡ appended w g r = accepted_buffer w g r y.end y.takes in
        let one : Extends (log_of w g) (log_of w b) = rw e (extends_new w g r y.end a) in
        let t = again (fits_deliver w rs f g r (i r y.its_place).0 x) (λ z j. i z (y.whence z j)) in
        let all = extends_then _ _ _ one t.more in
        let new : Settled (log_of w b) r = is_held_so (rw e (held_new w g r y.end a)) in
        record {
          reached = t.reached;
          more = all;
          whither = λ z j. ⊎_elim
              (λ (q : z ≡ r). inl (rw q (settled_more (log_of w b) _ t.more r a.admits.formed new)))
              (λ q. ⊎_elim (λ (c : has left z ≡ true). t.whither z c) (λ (c : Dropped w g z). inl (settled_by z j c _ all)) q)
              (y.whither z j);
        }

  through_looks : (k : ℕ) (g : List ℕ) (ops : List Op) → length ops < k → Fits w rs f g → Known ops → Through g ops (looks k w g ops)
  unfolding looks search_on
  through_looks zero g ops h x i = absurd (omega arith)
  through_looks (suc k) g ops h x i = go (look w g [] ops) refl (looked w g ops [] (λ y j. has_none y j)) (through_looks k)
    where
      go : (l : Look) → look w g [] ops ≡ l → Looked w g ops l
          → ((b : List ℕ) (xs : List Op) → length xs < k → Fits w rs f b → Known xs → Through b xs (looks k w b xs))
          → Through g ops (search_on w g (looks k w) l)
      go (found r left) e y again =
          let less = look_less w g ops r left e in
          through_found g ops x i r left y (looks k w (deliver_buffer w g r) left) (again (deliver_buffer w g r) left (omega arith))
      go (none left) e y again = through_none g ops x i left y

  through : (g : List ℕ) (ops : List Op) → Fits w rs f g → Known ops → Through g ops (search w g ops)
  unfolding search
  through g ops = through_looks (suc (length ops)) g ops (omega arith)

  ---- one call

  -- what waits was offered, reads, and is early
  record Desked (d : Desk) : Type 0 where
    reached : Fits w rs f d.buffer
    is_holdback : sound_holdback w d.holdback ≡ true
    known : Known (holdback_ops w d.holdback)
    is_early : (y : Op) → has (holdback_ops w d.holdback) y ≡ true → covered (log_of w d.buffer) (vector_of y) ≡ false

  -- an op waits, or needs no more waiting for
  abbrev Waited : Desk → Op → Type 0
  Waited d y = Settled (log_of w d.buffer) y ⊎ (has (holdback_ops w d.holdback) y ≡ true)

  record Next (d : Desk) (r : Op) (e : Desk) : Type 0 where
    desked : Desked e
    keeps : (y : Op) → reads w y ≡ true → Waited d y → Waited e y
    gains : reads w r ≡ true → Waited e r

  module _ (d : Desk) (r : Op) (x : Desked d) (i : In r) where
    abbrev g : List ℕ
    g = d.buffer

    abbrev h : List ℕ
    h = d.holdback

    abbrev ops : List Op
    ops = holdback_ops w h

    s : sound w g ≡ true
    s = x.reached.grown.is_sound_so

    -- nothing changes
    same_desk : (reads w r ≡ true → Waited d r) → Next d r (record { buffer = g; holdback = h })
    same_desk k = record {
      desked = record { reached = x.reached; is_holdback = x.is_holdback; known = x.known; is_early = x.is_early };
      keeps = λ y e q. q;
      gains = k;
    }

    -- an early op goes to the back
    to_back : length r ≡ w → well_formed r ≡ true → covered (log_of w g) (vector_of r) ≡ false → byte h 0 < places
        → Next d r (record { buffer = g; holdback = holdback_of w (ops ++ (r ∷ [])) })
    to_back l m c room =
        let more : List Op = ops ++ (r ∷ []) in
        let wide : Wide w more = wide_last w ops r (ops_wide w h x.is_holdback) l in
        let back : holdback_ops w (holdback_of w more) ≡ more = ops_back w more wide in
        let last : (y : Op) → has (r ∷ []) y ≡ true → y ≡ r = λ y j. ⊎_elim (λ (q : y ≡ r). q) (λ (q : has [] y ≡ true). has_none y q)
        (has_cases r [] y j) in
        record {
          desked = record {
            reached = x.reached;
            is_holdback = holdback_sound w more wide (rw length-append (omega (arith, ops_count w h)));
            known = rw back (λ y j. ⊎_elim
                (λ (q : has ops y ≡ true). x.known y q)
                (λ (q : has (r ∷ []) y ≡ true). rw (last y q) (i, reads_of w r l m))
                (has_either ops (r ∷ []) y j));
            is_early = rw back (λ y j. ⊎_elim
                (λ (q : has ops y ≡ true). x.is_early y q)
                (λ (q : has (r ∷ []) y ≡ true). rw (last y q) c)
                (has_either ops (r ∷ []) y j));
          };
          keeps = λ y e q. ⊎_elim
              (λ (z : Settled (log_of w g) y). inl z)
              (λ (z : has ops y ≡ true). inr (rw back (has_old ops (r ∷ []) y z)))
              q;
          gains = λ e. inr (rw back (has_new ops r));
        }

    -- the desk after an early op that was answered so
    abbrev held_desk : Bool → Bool → Desk
    held_desk b c =
        let a = require (b || c) 13 waiting in
        let t = cond b h (holdback_of w (ops ++ (r ∷ []))) in
        record {
          buffer = if_accepted a (released w g r h).buffer g;
          holdback = if_accepted a (holdback_of w (released w g r h).left) (if_waiting a t h);
        }

    on_early : length r ≡ w → well_formed r ≡ true → covered (log_of w g) (vector_of r) ≡ false → (b c : Bool) → waits w r h ≡ b
        → ltb (byte h 0) places ≡ c → (require (b || c) 13 waiting ≡ refused 13 → ⊥) → Next d r (held_desk b c)
    unfolding require waits has
    on_early l m v true c e k ok = same_desk (λ z. inr e)
    on_early l m v false true e k ok = to_back l m v (ltb-true _ _ k)
    on_early l m v false false e k ok = absurd (ok refl)

    -- an op is accepted, and the search goes through those that wait
    on_taken : (n : ℕ) → Admitted w g r n → deliver_answer w g r ≡ accepted n
        → Next d r (record { buffer = (released w g r h).buffer; holdback = holdback_of w (released w g r h).left })
    unfolding released
    on_taken n a e =
        let b : List ℕ = deliver_buffer w g r in
        let q : b ≡ appended w g r = accepted_buffer w g r n e in
        let th = through b ops (fits_deliver w rs f g r i x.reached) x.known in
        let se = searched w b ops in
        let lo = left_back w h x.is_holdback b in
        let now = (search w b ops).buffer in
        let all : Extends (log_of w g) (log_of w now) = extends_then _ _ _ (rw q (extends_new w g r n a)) th.more in
        let new : Settled (log_of w b) r = is_held_so (rw q (held_new w g r n a)) in
        record {
          desked = record {
            reached = th.reached;
            is_holdback = holdback_sound w _ (left_wide w h x.is_holdback b) (omega (arith, se.few, ops_few w h x.is_holdback));
            known = rw lo (λ y j. x.known y (se.whence y j));
            is_early = rw lo (λ y j.
                let k = x.known y (se.whence y j) in
                stays_early w now th.reached.grown.is_sound_so y (has_room w rs f now th.reached y k.0 k.1) (se.stay y j));
          };
          keeps = λ y z k. ⊎_elim
              (λ (p : Settled (log_of w g) y). inl (settled_more (log_of w g) _ all y (reads_formed w y z) p))
              (λ (p : has ops y ≡ true). ⊎_elim (λ c. inl c) (λ (c : has (search w b ops).left y ≡ true). inr (rw lo c)) (th.whither y p))
              k;
          gains = λ z. inl (settled_more (log_of w b) _ th.more r a.admits.formed new);
        }

    -- by the answer of the plain delivery
    abbrev answered_desk : Answer → Desk
    answered_desk a =
        let b = answer_on a w g r h in
        record {
          buffer = if_accepted b (released w g r h).buffer g;
          holdback = if_accepted b (holdback_of w (released w g r h).left) (if_waiting b (put_back w r h) h);
        }

    next : (a : Answer) → deliver_answer w g r ≡ a → Verdict w g r a → (answer_on a w g r h ≡ refused 13 → ⊥) → Next d r (answered_desk a)
    unfolding answer_on early_answer put_back
    next (refused n) e (short k) ok = same_desk (λ z. absurd (k (reads_long w r z)))
    next (refused n) e (unformed k) ok = same_desk (λ z. never (sym k ∙ reads_formed w r z))
    next (refused n) e (rival k) ok = same_desk (λ z. inl (is_held_so k))
    next had_it e (had k) ok = same_desk (λ z. inl (is_held_so k))
    next (refused n) e (early l m k) ok = on_early l m k (waits w r h) (ltb (byte h 0) places) refl refl ok
    next (refused n) e (torn c k) ok = same_desk (λ z. inl (is_torn c k))
    next (refused n) e (unknown c k) ok = same_desk (λ z. inl (is_unknown c k))
    next (refused n) e (full l a k) ok =
        absurd (omega (arith, has_room w rs f g x.reached r i (reads_of w r l a.formed) a))
    next (accepted n) e (taken k) ok = on_taken n k e
    next waiting e v ok = elim v [ ]
    next done e v ok = elim v [ ]

    post_next : (holdback_answer w g r h ≡ refused 13 → ⊥) → Next d r (post w d r)
    unfolding post holdback_buffer holdback_after holdback_answer require
    post_next ok =
        rw (s, x.is_holdback) (next (deliver_answer w g r) refl (verdict w g r s) (rw (s, x.is_holdback) at ok))

  ---- calls in a row

  record Row (d : Desk) (os : List (List ℕ)) : Type 0 where
    desked : Desked (posted w d os)
    keeps : (y : Op) → reads w y ≡ true → Waited d y → Waited (posted w d os) y
    gains : (y : Op) → has os y ≡ true → reads w y ≡ true → Waited (posted w d os) y

  row : (os : List (List ℕ)) (d : Desk) → Desked d → ((r : Op) → has os r ≡ true → In r) → NeverFull w d os → Row d os
  unfolding posted
  row [] d x i ok = record { desked = x; keeps = λ y e q. q; gains = λ y j e. has_none y j }
  row (r ∷ os) d x i ok =
      let one = post_next d r x (i r (has_head r os)) ok.0 in
      let rest = row os (post w d r) one.desked (λ y j. i y (has_tail r os y j)) ok.1 in
      record {
        desked = rest.desked;
        keeps = λ y e q. rest.keeps y e (one.keeps y e q);
        gains = λ y j e. ⊎_elim
            (λ (z : y ≡ r). rest.keeps y e (rw z (one.gains (rw z at e))))
            (λ (z : has os y ≡ true). rest.gains y z e)
            (has_cases r os y j);
      }

  module _ (x : FairOffers w f rs) where
    first : Desked (cleared w f)
    unfolding cleared
    first =
        let none_waits : holdback_ops w (holdback_of w []) ≡ [] = ops_back w [] tt in
        record {
          reached = fits_first w rs f x;
          is_holdback = holdback_sound w [] tt (omega arith);
          known = rw none_waits (λ y j. has_none y j);
          is_early = rw none_waits (λ y j. has_none y j);
        }

    -- where no call found the holdback full, all have come to one end
    row_end : NeverFull w (cleared w f) rs
        → Fits w rs f (posted w (cleared w f) rs).buffer × Ended w f rs (posted w (cleared w f) rs).buffer
    row_end ok =
        let y = row rs (cleared w f) first (λ r j. j) ok in (
          y.desked.reached,
          λ r j e a. ⊎_elim
              (λ z. settled_out _ r z a)
              (λ z. never (sym (y.desked.is_early r z) ∙ a.is_covered))
              (y.gains r j e),
        )

    -- two buffers at the end are one
    one_buffer : (a b : List ℕ) → Fits w rs f a → Fits w rs f b → Ended w f rs a → Ended w f rs b → a ≡ b
    one_buffer a b y z p q =
        same_bytes In w f a b y.grown z.grown (one_log w f rs x.no_rivals a b y.grown z.grown p q)

    plain_end : Ended w f rs (over_and_over w f rs)
    plain_end = none_ended w rs f (over_and_over w f rs) (fits_plain w rs f x) (plain_ends w rs f)

    order_free : (os : List (List ℕ)) → ((r : Op) → has os r ≡ true → In r) → none_accepted w (turns_buffer w f os) rs ≡ true
        → turns_buffer w f os ≡ over_and_over w f rs
    order_free os i none_left =
        let y = fits_turns w rs f os f i (fits_first w rs f x) in
        one_buffer _ _ y (fits_plain w rs f x) (none_ended w rs f (turns_buffer w f os) y none_left) plain_end

    holdback_end : NeverFull w (cleared w f) rs → (posted w (cleared w f) rs).buffer ≡ over_and_over w f rs
    holdback_end ok = let (y, over) = row_end ok in one_buffer _ _ y (fits_plain w rs f x) over plain_end

pub offers_in_any_order : OrderFree
offers_in_any_order w f rs os x = order_free w f rs x os

pub holdback_promise : HoldbackPromise
holdback_promise w f rs x = holdback_end w f rs x
