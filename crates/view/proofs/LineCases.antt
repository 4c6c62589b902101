-- The returns and turns of the lines of a tour, as the code meets them.
use Prim.Native.Nat.{◌*◌, ◌+◌, ◌<◌, ℕ, ◌≤◌}
use lib.Dec.{eqb}
use lib.ListN.{drop, get_or, length, length-append, take, take-append-drop}
use lib.Seq.{drop-append-add, drop-drop, take-append_seam, take-suc, take_all}
use mathlib.Core.Bool.{Bool, not}
use mathlib.Core.List.{◌++◌, List, [], append_assoc, append-nil, map, map-append, ◌∷◌}
use mathlib.Core.Path.{ap, refl, sym, ◌∙◌, ◌≡◌}
use native.Mathlib.Numerals.{add-one}
use native.Mathlib.Omega.{arith}
use Rattle.lists.proofs.ListLaws.{concat_append}
use Rattle.lists.specs.Lists.{concat}
use Rattle.rules.specs.Listing.{line_of}
use Rattle.tour.specs.Tables.{visit}
use Rattle.tour.specs.declared.touring.Visit.{Visit}
use Rattle.view.specs.Tables.{line_for, lines_of, put_front}
use Rattle.tree.specs.Slots.{slot_in}
use Rattle.view.specs.Asked.{Printable}
use Rattle.pen.specs.Lines.{Asked, Penned, penned, written}
use Rattle.pen.specs.declared.line.Pen.{Pen}
use borrow.Author.Rules.{rules}

-- the value past the end of a tour
abbrev root : Visit
root = visit 0 0

lines_append : (marks : List ℕ) (xs ys : List Visit) → lines_of marks (xs ++ ys) ≡ lines_of marks xs ++ lines_of marks ys
unfolding lines_of
lines_append marks xs ys = rw (map-append, concat_append (map (line_for marks) xs) (map (line_for marks) ys))

lines_one : (marks : List ℕ) (e : Visit) → lines_of marks (e ∷ []) ≡ line_for marks e
unfolding lines_of concat
lines_one marks e = append-nil (line_for marks e)

lines_none : (marks : List ℕ) (es : List Visit) → lines_of marks (take 0 es) ≡ []
unfolding lines_of concat
lines_none marks es = refl

lines_turn : (marks : List ℕ) (es : List Visit) (i : ℕ) → i < length es → lines_of marks (take (i + 1) es) ≡ lines_of marks (take i es)
    ++ line_for marks (get_or es i root)
lines_turn marks es i h = rw (add-one i, take-suc es i root h, lines_append marks (take i es) (get_or es i root ∷ []), lines_one)

-- a line fits where all do
lines_fit : (marks : List ℕ) (es : List Visit) (i : ℕ) → i < length es
    → length (lines_of marks (take i es)) + length (line_for marks (get_or es i root)) ≤ length (lines_of marks es)
lines_fit marks es i h =
    let e : lines_of marks es ≡ lines_of marks (take (i + 1) es) ++ lines_of marks (drop (i + 1) es) =
    rw (← lines_append marks (take (i + 1) es) (drop (i + 1) es), take-append-drop (i + 1) es) in
    let c = ap length e ∙ length-append (lines_of marks (take (i + 1) es)) _ in
    let b = ap length (lines_turn marks es i h) ∙ length-append (lines_of marks (take i es)) (line_for marks (get_or es i root)) in
    omega (arith, b, c)

line_for_law : (marks : List ℕ) (e : Visit) (s : ℕ) → s ≡ slot_in e.node
    → line_of e.depth e.node (not (eqb (get_or marks s 0) 0)) ≡ line_for marks e
unfolding line_for
line_for_law marks e s p = rw p

written_turn : (before text out line : List ℕ) (bytes : ℕ) → bytes ≡ length text → out ≡ text ++ drop (length text) before
    → take bytes out ++ (line ++ drop (bytes + length line) out) ≡ (text ++ line) ++ drop (length (text ++ line)) before
written_turn before text out line bytes b e =
    rw (
      e,
      b,
      take-append_seam text (drop (length text) before),
      drop-append-add text (drop (length text) before) (length line),
      drop-drop (length line) (length text) before,
      length-append text line,
    )
    (sym (append_assoc text line (drop (length text + length line) before)))

---- the size of the first i lines, whatever the marks

pub record Sizing (es : List Visit) (size i : ℕ) : Type 0 where
  pub some : i ≤ length es
  pub short : size ≤ 14 * i
  pub is : (marks : List ℕ) → size ≡ length (lines_of marks (take i es))

pub size_starts : (es : List Visit) → Sizing es 0 0
size_starts es = record { some = omega arith; short = omega arith; is = λ marks. sym (ap length (lines_none marks es)) }

module _ (es : List Visit) (size i : ℕ) (s : Sizing es size i) where
  pub size_on : i < length es → (r : ℕ)
      → ((marked : Bool) → r ≡ length (line_of (get_or es i root).depth (get_or es i root).node marked)) × (r ≤ 14)
      → Sizing es (size + r) (i + 1)
  size_on h r (line, few) = record { some = omega arith; short = omega (arith, s.short); is = more }
    where
      more : (marks : List ℕ) → size + r ≡ length (lines_of marks (take (i + 1) es))
      more marks =
          let e : Visit = get_or es i root in
          let a : r ≡ length (line_for marks e) = line (not (eqb (get_or marks (slot_in e.node) 0) 0))
          ∙ ap length (line_for_law marks e (slot_in e.node) refl) in
          rw (lines_turn marks es i h, length-append) (omega (arith, s.is marks))

  pub size_ends : length es ≤ i → (marks : List ℕ) → size ≡ length (lines_of marks es)
  size_ends h marks = s.is marks ∙ rw (take_all i es h)

---- the first i lines, written

pub record Lining (es : List Visit) (marks out₀ out : List ℕ) (pen : Pen) (i : ℕ) : Type 0 where
  pub asked : Printable es marks out₀
  pub some : i ≤ length es
  pub same : length out ≡ length out₀
  pub bytes : pen.bytes ≡ length (lines_of marks (take i es))
  pub lines : pen.lines ≡ i
  pub text : out ≡ put_front (lines_of marks (take i es)) out₀

pub lining_starts : (es : List Visit) (marks out : List ℕ) → Printable es marks out
    → Lining es marks out out (record { bytes = 0; lines = 0 }) 0
unfolding put_front
lining_starts es marks out a =
    let e = lines_none marks es in
    record { asked = a; some = omega arith; same = refl; bytes = sym (ap length e); lines = refl; text = rw e }

module _ (es : List Visit) (marks out₀ out : List ℕ) (pen : Pen) (i : ℕ) (l : Lining es marks out₀ out pen i) where
  pub lining_ends : length es ≤ i → out ≡ put_front (lines_of marks es) out₀
  lining_ends h = l.text ∙ rw (take_all i es h)

  -- k is the slot of the node
  module _ (h : i < length es) (e : Visit) (is : e ≡ get_or es i root) (k : ℕ) (ek : k ≡ slot_in e.node) where
    abbrev line : List ℕ
    line = line_of e.depth e.node (not (eqb (get_or marks k 0) 0))

    the_line : line ≡ line_for marks (get_or es i root)
    the_line = line_for_law marks e k ek ∙ ap (line_for marks) is

    pub line_asks : Asked out pen (line_of e.depth e.node (not (eqb (get_or marks k 0) 0)))
    line_asks =
        let fit = lines_fit marks es i h in
        let size = ap length the_line in
        record {
          room = omega (arith, fit, size, l.asked.room, l.same, l.bytes);
          few = omega (arith, l.lines, l.some, l.asked.arranged.few);
        }

    pub lining_on : (out' : List ℕ) (pen' : Pen) → length out' ≡ length out
        → record { out = out'; pen = pen' } ≡ penned out pen (line_of e.depth e.node (not (eqb (get_or marks k 0) 0)))
        → Lining es marks out₀ out' pen' (i + 1)
    unfolding put_front penned
    lining_on out' pen' same made =
        let text : out' ≡ written out pen.bytes line = ap (λ (x : Penned). x.out) made in
        let bytes : pen'.bytes ≡ pen.bytes + length line = ap (λ (x : Penned). x.pen.bytes) made in
        let lines : pen'.lines ≡ pen.lines + 1 = ap (λ (x : Penned). x.pen.lines) made in
        let before : List ℕ = lines_of marks (take i es) in
        let t : lines_of marks (take (i + 1) es) ≡ before ++ line = lines_turn marks es i h ∙ rw the_line in
        record {
          asked = l.asked;
          some = omega arith;
          same = same ∙ l.same;
          bytes = rw (t, length-append before line) (omega (arith, bytes, l.bytes));
          lines = omega (arith, lines, l.lines);
          text = text ∙ written_turn out₀ before out line pen.bytes l.bytes l.text ∙ rw (← t);
        }

---- what the code of lines needs: search lining
pub ruleset lining = (rules, size_starts, size_on, size_ends, lining_starts, lining_ends, line_asks, lining_on)
