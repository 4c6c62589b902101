-- What each call adds, and what settles it: the only laws that go by cases on the call.
use mathlib.Core.Path.{◌≡◌, refl, sym, ap, ◌∙◌}
use mathlib.Core.Bool.{true, false}
use mathlib.Core.List.{List, [], ◌∷◌, ◌++◌}
use Prim.Native.Nat.{ℕ, zero, suc}
use native.Mathlib.Omega.{arith}
use lib.ListN.{length, drop}
use lib.Seq.{take_at}
use Rattle.rules.specs.Op.{Op}
use Rattle.rules.specs.File.{log_of, file_end, appended, chunks, width}
use Rattle.rules.specs.Answer.{Answer, refused, had_it, waiting, done, accepted, if_accepted, unless_refused}
use Rattle.rules.specs.Deliver.{make_answer, make_buffer, deliver_answer, deliver_buffer}
use Rattle.rules.specs.Issue.{move, issued, issue_answer, issue_buffer, issue_out}
use Rattle.rules.specs.Bundle.{bodies_in, turns_answer, turns_buffer, turns_taken, open_answer, open_buffer}
use Rattle.rules.proofs.DeliverLaws.{if_not, required, accepted_same, Admitted, admitted, delivered, appended_end}
use Rattle.rules.proofs.IssueLaws.{issue_admitted}
use Rattle.rules.proofs.SoundLaws.{empty_ends}
use Rattle.rules.specs.Holdback.{Look, found, none, look, search_on, looks, search, holdback_ops, released, holdback_answer, holdback_buffer, holdback_taken}
use Rattle.rules.proofs.ReleaseLaws.{accepted_says, released_alike, answer_alike, after_alike}
use Rattle.rules.proofs.SearchLaws.{look_found}
use Rattle.rules.proofs.TurnLaws.{OneLog, turns_end, deliver_alike, issue_alike, turns_alike}
use Rattle.convergence.specs.Exchange.{Call, make, issue, deliver, open_bundle, deliver_holdback, deliver_page, issue_page, issue_moves, Site, answer, buffer_after, begun, added, Adds, reply, out_after, page_after, taken_back}
use Rattle.convergence.specs.Lists.{CallsAdd}
use Rattle.page_rules.specs.Page.{Page, deliver_page_answer, issue_page_answer, page_with, taken_with, with_page}
use Rattle.page_rules.proofs.FewLaws.{page_delivered, page_issued}
use Rattle.batch_rules.specs.Batch.{batch_answer, batch_buffer, move_buffer, moves_buffer, moves_ops}
use Rattle.batch_rules.proofs.BatchLaws.{AllTaken, after_is}
use Rattle.batch_rules.proofs.BatchTheorem.{batch_alike, batch_ends, put_in, taken}

---- what a call adds

adds_one : (f : List ℕ) (r : Op) (n : ℕ) → Admitted width f r n → Adds f (r ∷ []) (appended width f r)
unfolding deliver_buffer
adds_one f r n h = let e = delivered width f r n h in (n, e, rw e)

-- bodies in turn
turns_add : (rs : List Op) (f : List ℕ) (n : ℕ) → turns_answer width f rs ≡ accepted n
    → Adds f (turns_taken width f rs) (turns_buffer width f rs)
unfolding turns_answer turns_taken turns_buffer unless_refused deliver_buffer
turns_add [] f n e = refl
turns_add (r ∷ rs) f n e = go (deliver_answer width f r) refl e (λ g. turns_add rs g n)
  where
    next : List ℕ
    next = deliver_buffer width f r

    go : (a : Answer) → deliver_answer width f r ≡ a → unless_refused a (turns_answer width next rs) ≡ accepted n
        → ((g : List ℕ) → turns_answer width g rs ≡ accepted n → Adds g (turns_taken width g rs) (turns_buffer width g rs))
        → Adds f (if_accepted a (r ∷ []) [] ++ turns_taken width next rs) (turns_buffer width next rs)
    go (refused m) q e ih = let z : ◌≡◌ {A = ℕ} 0 1 = cc in absurd (omega arith)
    go had_it q e ih = let s : next ≡ f = rw q in rw s (ih f (rw s at e))
    go waiting q e ih = let s : next ≡ f = rw q in rw s (ih f (rw s at e))
    go done q e ih = let s : next ≡ f = rw q in rw s (ih f (rw s at e))
    go (accepted m) q e ih = (m, q, ih next e)

-- moves in turn
moves_add : (ns f : List ℕ) (s p : ℕ) → AllTaken f s ns p → Adds f (moves_ops width f s ns p) (moves_buffer width f s ns p)
unfolding moves_ops moves_buffer deliver_buffer
moves_add [] f s p t = refl
moves_add (n ∷ ns) f s p t =
    let (m, e) = t.0 in
    let took = delivered width f _ m (issue_admitted f width s (move n p) m e) in
    let r : Op = issued (log_of width f) s (move n p) in
    let same : deliver_buffer width f r ≡ move_buffer width f s n p = rw took (sym (after_is f s n p m e)) in
    (m, took, rw same (moves_add ns (move_buffer width f s n p) s p t.1))

-- ops of a holdback, each found in its turn
looks_add : (k : ℕ) (f : List ℕ) (ops : List Op) → Adds f (looks k width f ops).taken (looks k width f ops).buffer
unfolding looks search_on
looks_add zero f ops = refl
looks_add (suc k) f ops = go (look width f [] ops) refl (looks_add k)
  where
    go : (a : Look) → look width f [] ops ≡ a
        → ((g : List ℕ) (xs : List Op) → Adds g (looks k width g xs).taken (looks k width g xs).buffer)
        → Adds f (search_on width f (looks k width) a).taken (search_on width f (looks k width) a).buffer
    go (found x left) e ih =
        let (n, took) = look_found width f ops [] x left e in
        (n, took, ih (deliver_buffer width f x) left)
    go (none left) e ih = refl

search_adds : (f : List ℕ) (ops : List Op) → Adds f (search width f ops).taken (search width f ops).buffer
unfolding search
search_adds f ops = looks_add (suc (length ops)) f ops

pub opened : (f b : List ℕ) (n : ℕ) → open_answer width f b ≡ accepted n → turns_answer width f (bodies_in width b) ≡ accepted n
unfolding open_answer
opened f b n e = (required _ _ _ n (required _ _ _ n e).1).1

adds : (x : Site) (c : Call) (n : ℕ) → answer x.buffer c ≡ accepted n
    → Adds (begun x c).buffer (added x.buffer c) (buffer_after x.buffer c)
unfolding answer begun added buffer_after issue_buffer issue_out deliver_buffer open_buffer holdback_buffer holdback_taken released batch_buffer
adds x make n e = refl
adds x (issue out s q) n e =
    let h = issue_admitted x.buffer (length out) s q n e in
    let r : Op = issued (log_of width x.buffer) s q in
    rw (e, take_at r (drop width out) width h.long) (adds_one x.buffer r n h)
adds x (deliver r) n e = (n, e, refl)
adds x (open_bundle b) n e = rw e (turns_add (bodies_in width b) x.buffer n (opened x.buffer b n e))
adds x (deliver_holdback r h) n e =
    let y = accepted_says width x.buffer r h n e in
    rw e (y.first, y.takes, search_adds (deliver_buffer width x.buffer r) (holdback_ops width h))
adds x (deliver_page r p) n e = rw e (adds_one x.buffer r n (page_delivered x.buffer r p n e))
adds x (issue_page out s q p) n e =
    let h = page_issued x.buffer out s q p n e in
    let r : Op = issued (log_of width x.buffer) s q in
    rw (e, take_at r (drop width out) width h.long) (adds_one x.buffer r n h)
adds x (issue_moves out s ns p) n e =
    let t = taken x.buffer out s ns p n e in
    rw (e, put_in x.buffer out s ns p n e) (moves_add ns x.buffer s p t)

made : (f : List ℕ) (n : ℕ) → make_answer f ≡ accepted n → accepted 32 ≡ accepted n
unfolding make_answer
made f n e = (required _ _ _ n e).1

ends : (f : List ℕ) (c : Call) (n : ℕ) → answer f c ≡ accepted n → file_end width (buffer_after f c) ≡ n
unfolding answer buffer_after make_buffer issue_buffer deliver_buffer open_buffer holdback_buffer
ends f make n e =
    rw e (empty_ends width (drop 32 f) ∙ accepted_same 32 n (made f n e))
ends f (issue out s q) n e = let h = issue_admitted f (length out) s q n e in rw e (appended_end width f _ n h ∙ h.end)
ends f (deliver r) n e = let h = admitted width f r n e in rw e (appended_end width f r n h ∙ h.end)
ends f (open_bundle b) n e = rw e (turns_end width (bodies_in width b) f n (opened f b n e))
ends f (deliver_holdback r h) n e = rw e (accepted_says width f r h n e).end
ends f (deliver_page r p) n e = let h = page_delivered f r p n e in rw e (appended_end width f r n h ∙ h.end)
ends f (issue_page out s q p) n e = let h = page_issued f out s q p n e in rw e (appended_end width f _ n h ∙ h.end)
ends f (issue_moves out s ns p) n e = batch_ends f out s ns p n e

keeps : (f : List ℕ) (c : Call) → if_accepted (answer f c) true false ≡ false → buffer_after f c ≡ f
unfolding answer buffer_after make_buffer issue_buffer deliver_buffer open_buffer holdback_buffer batch_buffer
keeps f make e = if_not (make_answer f) _ f e
keeps f (issue out s q) e = if_not (issue_answer width f (length out) s q) _ f e
keeps f (deliver r) e = if_not (deliver_answer width f r) _ f e
keeps f (open_bundle b) e = if_not (open_answer width f b) _ f e
keeps f (deliver_holdback r h) e = if_not (holdback_answer width f r h) _ f e
keeps f (deliver_page r p) e = if_not (deliver_page_answer width f r p) _ f e
keeps f (issue_page out s q p) e = if_not (issue_page_answer width f (length out) s q p) _ f e
keeps f (issue_moves out s ns p) e = if_not (batch_answer width f (length out) s ns p) _ f e

pub calls_add : CallsAdd
calls_add = record { adds = adds; ends = ends; keeps = keeps }

---- what a call begins with

pub begun_is : (P : Site → Type 0) (x : Site) (c : Call) → P (begun x make) → P x → P (begun x c)
unfolding begun
begun_is P x make m k = m
begun_is P x (issue out s q) m k = k
begun_is P x (deliver r) m k = k
begun_is P x (open_bundle b) m k = k
begun_is P x (deliver_holdback r h) m k = k
begun_is P x (deliver_page r p) m k = k
begun_is P x (issue_page out s q p) m k = k
begun_is P x (issue_moves out s ns p) m k = k

pub begun_held : (x y : Site) (c : Call) → x.held ≡ y.held → (begun x c).held ≡ (begun y c).held
unfolding begun
begun_held x y make e = cc
begun_held x y (issue out s q) e = e
begun_held x y (deliver r) e = e
begun_held x y (open_bundle b) e = e
begun_held x y (deliver_holdback r h) e = e
begun_held x y (deliver_page r p) e = e
begun_held x y (issue_page out s q p) e = e
begun_held x y (issue_moves out s ns p) e = e

---- the log and the buffer's length settle it

-- making asks for the length alone
pub make_alike : (f g : List ℕ) → length f ≡ length g → reply f make ≡ reply g make
unfolding reply answer taken_back out_after page_after make_answer
make_alike f g e = rw e

module _ (f g : List ℕ) (x : OneLog width f g) where
  -- with a page, where the answer without it is one
  module _ (p : Page) (r : Op) (a b : Answer) (e : a ≡ b) where
    with_alike : with_page width f p a ≡ with_page width g p b
    unfolding with_page
    with_alike = rw (x.first, x.second, e)

    taken_alike : taken_with width f p r (with_page width f p a) ≡ taken_with width g p r (with_page width g p b)
    unfolding taken_with
    taken_alike = rw (with_alike, x.log)

    page_alike : page_with width f p r (with_page width f p a) ≡ page_with width g p r (with_page width g p b)
    unfolding page_with
    page_alike = rw (with_alike, x.log)

  pub reply_alike : (c : Call) → reply f c ≡ reply g c
  unfolding reply answer taken_back out_after page_after issue_out open_answer deliver_page_answer issue_page_answer
  reply_alike make = make_alike f g x.size
  reply_alike (issue out s q) = rw (issue_alike width f g x (length out) s q, x.log)
  reply_alike (deliver r) = rw (deliver_alike width f g x r)
  reply_alike (open_bundle b) = rw (x.first, x.second, (turns_alike width (bodies_in width b) f g x).0)
  reply_alike (deliver_holdback r h) = rw (answer_alike width f g x r h, after_alike width f g x r h)
  reply_alike (deliver_page r p) =
      let e = deliver_alike width f g x r in
      rw (taken_alike p r _ _ e, page_alike p r _ _ e, with_alike p r _ _ e)
  reply_alike (issue_page out s q p) =
      let e = issue_alike width f g x (length out) s q in
      let r : Op = issued (log_of width f) s q in
      rw (← x.log, taken_alike p r _ _ e, page_alike p r _ _ e, with_alike p r _ _ e)
  reply_alike (issue_moves out s ns p) = let y = batch_alike f g x out s ns p in rw (y.0, y.1)

  pub added_alike : (c : Call) → added f c ≡ added g c
  unfolding added issue_out holdback_taken issue_page_answer
  added_alike make = refl
  added_alike (issue out s q) = rw (issue_alike width f g x (length out) s q, x.log)
  added_alike (deliver r) = refl
  added_alike (open_bundle b) = (turns_alike width (bodies_in width b) f g x).1
  added_alike (deliver_page r p) = refl
  added_alike (issue_page out s q p) =
      let e = issue_alike width f g x (length out) s q in
      rw (← x.log, with_alike p (issued (log_of width f) s q) _ _ e)
  added_alike (issue_moves out s ns p) = ap (chunks width (length ns)) (batch_alike f g x out s ns p).1
  added_alike (deliver_holdback r h) = ap (λ (t : List Op). r ∷ t) (released_alike width f g x r h).same_taken
