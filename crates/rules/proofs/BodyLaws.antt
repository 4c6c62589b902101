-- What `chunks_exact` gives of bytes that are bodies.
use Rattle.std.proofs.Common.{◌≡◌, ℕ, suc, ◌*◌, ◌/◌, ◌<◌, List, ◌∷◌, ◌++◌, length, ◌∙◌, arith, length-append}
use Rattle.std.proofs.Math.Seq.{drop_at, take_at}
use Rattle.std.proofs.lemmas.Iterator.{YieldsList}
use Rattle.std.proofs.lemmas.Iterator.Splits.{YieldsList-from_shown_while}
use Rattle.std.specs.Slice.Iter.{chunks_exact_rest, chunks_exact_size, chunks_exact_steps}
use Rattle.rules.specs.File.{chunks, width}

-- the bodies of so many bytes
bodies : List ℕ → List (List ℕ)
bodies bs = chunks width (length bs / 14) bs

few : (bs : List ℕ) → length bs < 14 → length (bodies bs) ≡ 0
unfolding bodies chunks
few bs h = let e : length bs / 14 ≡ 0 = omega arith in rw e

more : (bs x rest : List ℕ) → bs ≡ x ++ rest → length x ≡ 14 → bodies bs ≡ x ∷ bodies rest
unfolding bodies chunks
more bs x rest e h =
    let n : length (x ++ rest) / 14 ≡ suc (length rest / 14) = omega (arith, length-append x rest) in
    rw (e, n, take_at x rest 14 h, drop_at x rest 14 h)

pub YieldsList-from_bodies : {s : _} (n : ℕ) (bs : List ℕ) → chunks_exact_size s ≡ 14 → chunks_exact_rest s ≡ bs → length bs ≡ 14 * n
    → YieldsList (chunks_exact_steps {A = ℕ}) (λ x. x.now) s (chunks width n bs)
unfolding bodies
YieldsList-from_bodies {s} n bs size is long =
    let e : length bs / 14 ≡ n = omega arith in
    rw (← e, ← is) (
    YieldsList-from_shown_while
    chunks_exact_steps
    (λ x. x.now)
    (λ s. bodies (chunks_exact_rest s))
    (λ s. chunks_exact_size s ≡ 14)
    (λ s t w g. few (chunks_exact_rest s) (rw w at g.1.0))
    (λ s x t w g. (g.0 ∙ w, more (chunks_exact_rest s) x.now (chunks_exact_rest t) g.1.0 (g.1.1 ∙ w)))
    s
    size
    )
