-- What a call accepts leaves room for the 256 above it: a file end is at most the length of its buffer.
use Prim.Native.Nat.{ℕ, ◌≤◌}
use lib.ListN.{length}
use mathlib.Core.List.{List}
use mathlib.Core.Path.{◌≡◌, refl}
use native.Mathlib.Omega.{arith}
use Rattle.numbers.specs.Fits.{fits}
use Rattle.rules.specs.Views.{View}
use Rattle.rules.specs.Listing.{listing_answer, listing_of, listing, listing_size}
use Rattle.rules.specs.Measure.{counts_answer, counts_call, end_answer}
use Rattle.rules.specs.Path.{path_answer, path_of, path_call}
use Rattle.rules.proofs.DeliverLaws.{admitted, required, accepted_same}
use Rattle.rules.proofs.IssueLaws.{allowed}
use Rattle.rules.proofs.ReleaseLaws.{accepted_says, released_sound}
use Rattle.rules.proofs.SoundLaws.{sound_end, sound_laid}
use Rattle.rules.proofs.TurnLaws.{turns_end, turns_length, turns_sound}
use Rattle.order.proofs.TourLaws.{sound_listing}
use Rattle.rules.specs.Answer.{Answer, refused, had_it, waiting, done, accepted}
use Rattle.rules.specs.Bundle.{bodies_in, bundle_answer, bundle_call, bundle_of, open_answer, turns_answer, turns_buffer}
use Rattle.rules.specs.Deliver.{make_answer, deliver_answer}
use Rattle.rules.specs.Holdback.{holdback_answer, released}
use Rattle.rules.specs.Op.{Vector}
use Rattle.rules.specs.Issue.{Request, issue_answer}
use Rattle.rules.specs.Judge.{judge, judge_answer}
use borrow.Author.Tests.{leb-true}
use Rattle.rules.specs.File.{file_end, width, log_of}
use Rattle.batch_rules.specs.Batch.{batch_answer, moves_buffer}
use Rattle.batch_rules.proofs.BatchLaws.{taken_carried}
use Rattle.batch_rules.proofs.BatchTheorem.{batch_buffer_law, batch_ends, passed, taken}

-- an answer fits if what it accepts does
fits_if : (a : Answer) → ((n : ℕ) → a ≡ accepted n → n ≤ 9223372036854775807) → fits a
unfolding fits
fits_if (refused n) h = tt
fits_if had_it h = tt
fits_if waiting h = tt
fits_if done h = tt
fits_if (accepted n) h = h n refl

pub make_fits : (f : List ℕ) → fits (make_answer f)
unfolding make_answer
make_fits f = fits_if (make_answer f) (λ n e. omega (arith, accepted_same 32 n (required _ _ _ n e).1))

pub deliver_fits : (f r : List ℕ) → length f ≤ 9223372036854775807 → fits (deliver_answer width f r)
deliver_fits f r h =
    fits_if (deliver_answer width f r) (λ n e. omega (arith, (admitted width f r n e).room, (admitted width f r n e).end))

pub issue_fits : (f : List ℕ) (room s : ℕ) (q : Request) → length f ≤ 9223372036854775807 → fits (issue_answer width f room s q)
issue_fits f room s q h =
    fits_if (issue_answer width f room s q)
    (λ n e. omega (arith, (allowed width f room s q n e).room_left, (allowed width f room s q n e).end))

pub judge_fits : (f p o : List ℕ) → fits (judge width f p o).answer
unfolding judge judge_answer
judge_fits f p o =
    fits_if (judge_answer width f p o)
    (λ n e.
    let d = (required _ _ _ n (required _ _ _ n e).1).1 in
    let z : ◌≡◌ {A = ℕ} 0 1 = cc in
    omega arith)

pub path_fits : (f : List ℕ) (n : ℕ) (out : List ℕ) → length out ≤ 9223372036854775807 → fits (path_call width f n out).answer
unfolding path_call path_answer
path_fits f n out h =
    fits_if (path_answer width f (length out) n)
    (λ m e.
    let c = required _ _ _ m (required _ _ _ m (required _ _ _ m e).1).1 in
    let room : length (path_of (log_of width f) n) ≤ length out = leb-true _ _ c.0 in
    omega (arith, room, accepted_same _ m c.1))

pub listing_fits : (f : List ℕ) (v : View) (out : List ℕ) → length out ≤ 9223372036854775807 → fits (listing width f v out).answer
unfolding listing listing_answer
listing_fits f v out h =
    fits_if (listing_answer width f v (length out))
    (λ m e.
    let c = required _ _ _ m (required _ _ _ m e).1 in
    let room : length (listing_of v (log_of width f)) ≤ length out = leb-true _ _ c.0 in
    omega (arith, room, accepted_same _ m c.1))

pub size_fits : (f : List ℕ) (v : View) → fits (listing_size width f v)
unfolding listing_size
size_fits f v =
    fits_if (listing_size width f v)
    (λ m e.
    let c = required _ _ _ m e in
    omega (arith, sound_listing width f v c.0, accepted_same _ m c.1))

pub end_fits : (f : List ℕ) → length f ≤ 9223372036854775807 → fits (end_answer width f)
unfolding end_answer
end_fits f h =
    fits_if (end_answer width f)
    (λ m e.
    let c = required _ _ _ m e in
    omega (arith, (sound_laid width f c.0).fits, accepted_same _ m c.1))

pub counts_fits : (f out : List ℕ) → fits (counts_call width f out).answer
unfolding counts_call counts_answer
counts_fits f out =
    fits_if (counts_answer width f (length out))
    (λ m e. omega (arith, accepted_same 8 m (required _ _ _ m (required _ _ _ m e).1).1))

pub bundle_fits : (f : List ℕ) (v : Vector) (out : List ℕ) → length out ≤ 9223372036854775807 → fits (bundle_call width f v out).answer
unfolding bundle_call bundle_answer
bundle_fits f v out h =
    fits_if (bundle_answer width f v (length out))
    (λ m e.
    let c = required _ _ _ m (required _ _ _ m e).1 in
    let room : length (bundle_of (log_of width f) v) ≤ length out = leb-true _ _ c.0 in
    omega (arith, room, accepted_same _ m c.1))

pub open_fits : (f b : List ℕ) → length f ≤ 9223372036854775807 → fits (open_answer width f b)
unfolding open_answer
open_fits f b h =
    fits_if (open_answer width f b)
    (λ m e.
    let ops = bodies_in width b in
    let c = required _ _ _ m e in
    let t : turns_answer width f ops ≡ accepted m = (required _ _ _ m c.1).1 in
    let inside = (sound_laid width (turns_buffer width f ops) (turns_sound width ops f c.0)).fits in
    omega (arith, inside, turns_end width ops f m t, turns_length width ops f))

pub batch_fits : (f out : List ℕ) (s : ℕ) (ns : List ℕ) (p : ℕ) → length f ≤ 9223372036854775807
    → fits (batch_answer width f (length out) s ns p)
batch_fits f out s ns p h =
    fits_if (batch_answer width f (length out) s ns p)
    (λ m e.
    let a = (passed f (length out) s ns p m e).0.is_sound_so in
    let last = taken_carried ns f s p a (taken f out s ns p m e) in
    let inside = (sound_laid width (moves_buffer width f s ns p) last.is_sound_so).fits in
    let end : file_end width (moves_buffer width f s ns p) ≡ m = rw (batch_buffer_law f out s ns p m e) at (batch_ends f out s ns p m e) in
    omega (arith, inside, end, last.size))

pub holdback_fits : (f r h : List ℕ) → fits (holdback_answer width f r h)
holdback_fits f r h =
    fits_if (holdback_answer width f r h)
    (λ m e.
    let x = accepted_says width f r h m e in
    omega (arith, x.end, sound_end width (released width f r h).buffer (released_sound width f r h x.is_sound_so)))
