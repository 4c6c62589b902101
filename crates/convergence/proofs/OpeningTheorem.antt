-- Opening a bundle delivers its bodies in turn, and a body that is refused gives the answer.
use mathlib.Core.Path.{◌≡◌, refl, sym, ap, ◌∙◌}
use mathlib.Core.Bool.{true}
use mathlib.Core.List.{List, [], ◌∷◌}
use Prim.Native.Nat.{ℕ}
use native.Mathlib.Omega.{arith}
use Rattle.lists.specs.Lists.{all}
use Rattle.rules.specs.Answer.{Answer, refused, had_it, waiting, done, accepted, require, unless_refused}
use Rattle.rules.specs.Bundle.{bodies_in, turns_answer, whole_bundle, open_answer, open_buffer}
use Rattle.rules.specs.Deliver.{deliver_answer, deliver_buffer}
use Rattle.rules.specs.File.{width}
use Rattle.rules.specs.Op.{Op}
use Rattle.rules.specs.Sound.{sound}
use Rattle.rules.proofs.DeliverLaws.{never_waiting, never_done}
use Rattle.convergence.specs.Exchange.{Site, deliver, open_bundle, answer, buffer_after, begun, added, perform}
use Rattle.convergence.specs.Handover.{deliver_all, deliver_answers, taken_or_had}
use Rattle.convergence.specs.Opens.{FirstRefused, OpeningDelivers}
use Rattle.convergence.proofs.CallLaws.{calls_add, opened}
use Rattle.convergence.proofs.DeliverAllLaws.{all_is, all_answered, performed}

-- one body more in front, which is passed
refused_after : (x : Site) (r : Op) (ops : List Op) (n : ℕ) {a : Answer} → deliver_answer width x.buffer r ≡ a → taken_or_had a ≡ true
    → FirstRefused (perform x (deliver r)) ops n → FirstRefused x (r ∷ ops) n
unfolding deliver_answers deliver_all all answer
refused_after x r ops n q t z = record {
  before = r ∷ z.before;
  body = z.body;
  after = z.after;
  split = ap (◌∷◌ r) z.split;
  passed = rw (q, t) z.passed;
  number = z.number;
}

first_refused : (ops : List Op) (x : Site) (n : ℕ) → turns_answer width x.buffer ops ≡ refused n → FirstRefused x ops n
unfolding turns_answer unless_refused deliver_answers deliver_all all answer taken_or_had
first_refused [] x n e = let z : ◌≡◌ {A = ℕ} 0 1 = cc in absurd (omega arith)
first_refused (r ∷ ops) x n e = go (deliver_answer width x.buffer r) refl e (first_refused ops (perform x (deliver r)) n)
  where
    next : Site
    next = perform x (deliver r)

    go : (a : Answer) → deliver_answer width x.buffer r ≡ a
        → unless_refused a (turns_answer width (deliver_buffer width x.buffer r) ops) ≡ refused n
        → (turns_answer width next.buffer ops ≡ refused n → FirstRefused next ops n) → FirstRefused x (r ∷ ops) n
    go (refused m) q e ih = record { before = []; body = r; after = ops; split = refl; passed = refl; number = q ∙ e }
    go had_it q e ih = refused_after x r ops n q refl (ih (rw (performed x r) e))
    go waiting q e ih = absurd (never_waiting width x.buffer r q)
    go done q e ih = absurd (never_done width x.buffer r q)
    go (accepted m) q e ih = refused_after x r ops n q refl (ih (rw (performed x r) e))

turns_refused : (f b : List ℕ) (n : ℕ) → sound width f ≡ true → whole_bundle width b ≡ true → open_answer width f b ≡ refused n
    → turns_answer width f (bodies_in width b) ≡ refused n
unfolding open_answer require
turns_refused f b n s h e = rw (s, h) at e

pub opening_delivers : OpeningDelivers
unfolding answer perform buffer_after begun added open_buffer
opening_delivers x b = record {
  passed = λ n e. all_answered (bodies_in width b) x n (opened x.buffer b n e);
  leaves = λ n e. rw e (sym (all_is (bodies_in width b) x));
  ends = λ n e. calls_add.ends x.buffer (open_bundle b) n e;
  stays = λ n e. rw e;
  returned = λ n e s h. first_refused (bodies_in width b) x n (turns_refused x.buffer b n s h e);
}
