-- Ops delivered in turn at a site: the site after them, and their answers.
use mathlib.Core.Path.{◌≡◌, refl, sym, ◌∙◌}
use mathlib.Core.Bool.{◌&&◌, true}
use mathlib.Core.List.{List, [], ◌∷◌, ◌++◌, append_assoc, append-nil}
use Prim.Native.Nat.{ℕ}
use native.Mathlib.Omega.{arith}
use Rattle.lists.specs.Lists.{all}
use Rattle.rules.specs.Answer.{Answer, refused, had_it, waiting, done, accepted, if_accepted, unless_refused}
use Rattle.rules.specs.Bundle.{turns_answer, turns_buffer, turns_taken}
use Rattle.rules.specs.Deliver.{deliver_answer, deliver_buffer}
use Rattle.rules.specs.File.{width}
use Rattle.rules.specs.Op.{Op}
use Rattle.convergence.specs.Exchange.{Site, deliver, answer, buffer_after, begun, added, perform}
use Rattle.convergence.specs.Handover.{deliver_all, deliver_answers, taken_or_had}
use Rattle.rules.proofs.DeliverLaws.{never_waiting, never_done}
use Rattle.convergence.proofs.KeptLaws.{Kept, kept_perform}

pub kept_all : (ops : List Op) (x : Site) → Kept x → Kept (deliver_all x ops)
unfolding deliver_all
kept_all [] x k = k
kept_all (r ∷ ops) x k = kept_all ops (perform x (deliver r)) (kept_perform x (deliver r) k)

-- one op
held_then : (a : Answer) (held : List Op) (r : Op) → if_accepted a (held ++ (r ∷ [])) held ≡ held ++ if_accepted a (r ∷ []) []
held_then (refused n) held r = sym (append-nil held)
held_then had_it held r = sym (append-nil held)
held_then waiting held r = sym (append-nil held)
held_then done held r = sym (append-nil held)
held_then (accepted n) held r = refl

pub performed : (x : Site) (r : Op) → perform x (deliver r) ≡ record {
  buffer = deliver_buffer width x.buffer r;
  held = x.held ++ if_accepted (deliver_answer width x.buffer r) (r ∷ []) [];
}
unfolding perform buffer_after answer begun added
performed x r = rw (held_then (deliver_answer width x.buffer r) x.held r)

-- the buffer is the fold of the deliveries, and what is held are those that were accepted
pub all_is : (ops : List Op) (x : Site)
    → deliver_all x ops ≡ record { buffer = turns_buffer width x.buffer ops; held = x.held ++ turns_taken width x.buffer ops }
unfolding deliver_all turns_buffer turns_taken
all_is [] x = rw append-nil
all_is (r ∷ ops) x = all_is ops (perform x (deliver r)) ∙ rw (performed x r, append_assoc)

-- where none is refused, each is accepted or answered "had it"
pub all_answered : (ops : List Op) (x : Site) (n : ℕ) → turns_answer width x.buffer ops ≡ accepted n
    → all taken_or_had (deliver_answers x ops) ≡ true
unfolding turns_answer deliver_answers all answer unless_refused taken_or_had
all_answered [] x n e = refl
all_answered (r ∷ ops) x n e = go (deliver_answer width x.buffer r) refl e (all_answered ops (perform x (deliver r)) n)
  where
    next : Site
    next = perform x (deliver r)

    go : (a : Answer) → deliver_answer width x.buffer r ≡ a
        → unless_refused a (turns_answer width (deliver_buffer width x.buffer r) ops) ≡ accepted n
        → (turns_answer width next.buffer ops ≡ accepted n → all taken_or_had (deliver_answers next ops) ≡ true)
        → (taken_or_had a && all taken_or_had (deliver_answers next ops)) ≡ true
    go (refused m) q e ih = let z : ◌≡◌ {A = ℕ} 0 1 = cc in absurd (omega arith)
    go had_it q e ih = ih (rw (performed x r) e)
    go waiting q e ih = absurd (never_waiting width x.buffer r q)
    go done q e ih = absurd (never_done width x.buffer r q)
    go (accepted m) q e ih = ih (rw (performed x r) e)
