-- The cases of the text that is printed, as the code meets them.
use Prim.Native.Nat.{ℕ, ◌≤◌, ◌<◌}
use lib.ListN.{drop, length, length-append, take}
use lib.Seq.{length-take-le, take_at}
use mathlib.Core.List.{List, [], append-nil}
use mathlib.Core.Path.{◌≡◌, ap, refl, sym, ◌∙◌}
use native.Mathlib.Decide.{dec_lt}
use native.Mathlib.Omega.{arith}
use Rattle.rules.specs.Answer.{Answer, accepted}
use Rattle.rules.specs.File.{largest, width}
use Rattle.rules.specs.Listing.{outline}
use Rattle.rules.specs.Path.{Written}
use Rattle.printing.proofs.PrintTheorems.{long_refused, outline_size}
use Rattle.view.proofs.PutCases.{put_all}
use Rattle.view.specs.Answers.{put_in}
use Rattle.view.specs.Tables.{put_front}
use Rattle.outline.specs.Text.{Printed, Readable, TextOf, counted}

-- the bytes that were read settle what is printed: either they are all, or the input is too long in any case
read_settles : (buf : List ℕ) (n : ℕ) → n ≤ length buf → largest width < length buf → TextOf buf n (outline width (take n buf))
read_settles buf n within big input x = elim (dec_lt n (length buf)) [
  | yes p ↦ ap (outline width) (sym (x.is ∙ rw (x.ended p, append-nil)))
  | no p ↦
      let full : length (take n buf) ≡ n = length-take-le n buf within in
      let long : largest width < length input = rw (x.is, length-append) (omega arith) in
      long_refused width (take n buf) (omega arith) ∙ sym (long_refused width input long)
]

-- lent 24,492 bytes, the whole output is put in front
module _ (buf out : List ℕ) (n : ℕ) (x : Readable buf n out) where
  abbrev text : List ℕ
  text = outline width (take n buf)

  fits : length text ≤ length out
  fits = let s = outline_size (take n buf) in omega (arith, x.out_size)

  pub text_put : (a : Answer) (o : List ℕ) → ◌≡◌ {A = Written} (record { answer = a; out = o }) (put_in (outline width (take n buf)) out)
      → (r : ℕ) → r ≡ counted a → TextOf buf n (take r o) × (r ≤ length out)
  unfolding put_front
  text_put a o e r is =
      let whole : Written = record { answer = accepted (length text); out = put_front text out } in
      let all_put : ◌≡◌ {A = Written} (record { answer = a; out = o }) whole =
      e ∙ sym (put_all text out (length text) refl fits (put_front text out) refl) in
      let long : r ≡ length text = is ∙ ap (λ (x : Written). counted x.answer) all_put in
      let written : o ≡ put_front text out = ap (λ (x : Written). x.out) all_put in
      let front : take r o ≡ text = rw (long, written) (take_at text (drop (length text) out) (length text) refl) in
      (λ input i. front ∙ read_settles buf n x.within x.buf_size input i, rw long fits)

-- it is the output for the bytes that were read, if no more follow
pub text_printed : (buf : List ℕ) (n : ℕ) (o : List ℕ) (r : ℕ) → r ≤ length o → TextOf buf n (take r o) → Printed o r
text_printed buf n o r h t =
    (h, take n buf, t (take n buf) (record { rest = []; is = sym (append-nil (take n buf)); ended = λ p. refl }))
