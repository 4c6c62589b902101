-- Writing the bodies of a bundle, as the code meets it.
use Prim.Native.Nat.{ℕ, ◌+◌, ◌-◌, ◌^◌, ◌≤◌, ◌<◌}
use borrow.Author.Rules.{rules}
use borrow.Author.Tests.{le-ltb, lt-ltb}
use lib.ListN.{length, length-append, length-drop, length-take, take, drop, drop_of_length-le, get_or, take-append-drop}
use lib.Seq.{drop-cons, drop-drop}
use mathlib.Core.Bool.{Bool, true, false, cond}
use mathlib.Core.List.{List, [], ◌∷◌, ◌++◌, append-nil, map}
use mathlib.Core.Path.{◌≡◌, refl, sym, ap, ap₂, ◌∙◌}
use native.Mathlib.Numerals.{add-one}
use native.Mathlib.Omega.{arith}
use Rattle.lists.specs.Lists.{concat, filter}
use Rattle.lists.proofs.EachLaws.{Each, each_at}
use Rattle.lists.proofs.ListLaws.{stores, stores_append, stores_are, stores_length}
use Rattle.rules.specs.Bundle.{is_beyond, ops_beyond}
use Rattle.rules.specs.File.{Log, header_counts, log_of, width}
use Rattle.rules.specs.Log.{structural}
use Rattle.rules.specs.Op.{Vector, count_in}
use Rattle.rules.specs.Replay.{Stamped, ordered}
use Rattle.rules.proofs.FileLaws.{counts_log_of}
use Rattle.rules.proofs.SoundLaws.{sound_structural}
use Rattle.oplog.specs.Places.{Held}
use Rattle.oplog.proofs.FieldLaws.{op_is}
use Rattle.oplog.proofs.HeldLaws.{held_op, whole_closed, whole_held}
use Rattle.tree.specs.Slots.{InSlot, op_in, replica_in, sequence_in, slot_place}
use Rattle.schedule.specs.declared.entries.Entry.{Entry}
use Rattle.schedule.specs.Schedule.{scheduled, stamped_of}
use Rattle.schedule.specs.Level.{SchedulableCut}
use Rattle.schedule.proofs.OrderLaws.{entries_are, entries_in_slots}
use Rattle.bundle.specs.Bodies.{BodiesRoom, BodyRoom, Copied, copied, Output, WholeRoom, bodies_along, body_of, laid_over, output}

---- bytes laid over others

laid_none : (out : List ℕ) (at : ℕ) → output out at ≡ laid_over out at []
unfolding laid_over
laid_none out at = let e : at + 0 ≡ at = omega arith in rw (e, take-append-drop at out)

---- one body

module _ (f : List ℕ) (from : ℕ) (out : List ℕ) (at : ℕ) (x : Copied f from out at) (to end : ℕ) (ht : to ≡ from + width)
    (he : end ≡ at + width) where
  source_long : length (take (to - from) (drop from f)) ≡ width
  source_long = rw (length-take, length-drop) (omega (arith, x.source))

  pub copy_fits : length (take (to - from) (drop from f)) ≤ length (take (end - at) (drop at out))
  copy_fits = rw (source_long, length-take, length-drop) (omega (arith, x.room))

  pub copy_is : (lent : List ℕ) → lent ≡ take (to - from) (drop from f) ++ drop (length (take (to - from) (drop from f)))
      (take (end - at) (drop at out)) → take at out ++ (lent ++ drop (end - at) (drop at out)) ≡ copied f from out at
  unfolding copied
  copy_is lent e =
      let n : to - from ≡ width = omega arith in
      let k : end - at ≡ width = omega arith in
      let none : drop width (take width (drop at out)) ≡ [] =
      drop_of_length-le (take width (drop at out)) {i = width} (rw length-take (omega arith)) in
      rw (e, source_long, n, k, none, append-nil, drop-drop width at out)

module _ (f : List ℕ) (counts : Vector) (slot : ℕ) (s q c : ℕ) (hs : s ≡ replica_in slot) (hq : q ≡ sequence_in slot)
    (hc : c ≡ get_or counts (s - 1) 0) where
  pub body_skipped : (out : List ℕ) (at : ℕ) → q ≤ c → output out at ≡ laid_over out at (body_of (log_of width f) counts slot)
  unfolding body_of count_in
  body_skipped out at l = laid_none out at ∙ ap (laid_over out at) (rw (← hs, ← hc, ← hq, le-ltb c q l))

  module _ (l : c < q) where
    is_body : body_of (log_of width f) counts slot ≡ op_in (log_of width f) slot
    unfolding body_of count_in
    is_body = rw (← hs, ← hc, ← hq, lt-ltb c q l)

    module _ (out : List ℕ) (at : ℕ) (x : BodyRoom f counts slot out at) (from : ℕ) (is : from ≡ slot_place width f slot)
        (fits : from + width ≤ length f) where
      abbrev part : List ℕ
      part = take width (drop from f)

      body_bytes : body_of (log_of width f) counts slot ≡ part
      unfolding op_in
      body_bytes = is_body ∙ op_is width f _ _ x.in_slot.in_file ∙ rw (← is)

      part_long : length part ≡ width
      part_long = rw (length-take, length-drop) (omega arith)

      pub body_copies : Copied f from out at
      body_copies = let n = ap length body_bytes in record { source = fits; room = omega (arith, x.room, part_long) }

      pub body_fits : length out < 2 ^ 64 → at + width < 2 ^ 64
      body_fits h = omega (arith, body_copies.room)

      pub body_put : (after : List ℕ) → after ≡ copied f from out at
          → output after (at + width) ≡ laid_over out at (body_of (log_of width f) counts slot)
      unfolding laid_over copied
      body_put after e = rw (e, body_bytes, part_long)

---- all bodies of entries: those of the first i are written before at

pub record WrittenTo (log : Log) (counts : Vector) (es : List Entry) (out₀ out : List ℕ) (at i : ℕ) : Type 0 where
  pub left : stores out₀ 0 (bodies_along log counts es) ≡ stores out at (bodies_along log counts (drop i es))
  pub room : at + length (bodies_along log counts (drop i es)) ≡ length out
  pub whole : length (bodies_along log counts es) ≡ length out₀
  pub size : length out ≡ length out₀

along_turn : (log : Log) (counts : Vector) (es : List Entry) (i : ℕ) (d : Entry) → i < length es
    → bodies_along log counts (drop i es) ≡ body_of log counts (get_or es i d).slot ++ bodies_along log counts (drop (i + 1) es)
unfolding bodies_along concat
along_turn log counts es i d h = rw (add-one i, drop-cons es i d h)

module _ (f : List ℕ) (counts : Vector) (es : List Entry) (out₀ : List ℕ) (x : BodiesRoom f counts es out₀) where
  pub along_starts : WrittenTo (log_of width f) counts es out₀ out₀ 0 0
  along_starts = record { left = refl; room = omega (arith, x.room); whole = x.room; size = refl }

  module _ (out : List ℕ) (at i : ℕ) (y : WrittenTo (log_of width f) counts es out₀ out at i) (d : Entry) (h : i < length es) where
    abbrev body : List ℕ
    body = body_of (log_of width f) counts (get_or es i d).slot

    abbrev rest : List ℕ
    rest = bodies_along (log_of width f) counts (drop (i + 1) es)

    turn : bodies_along (log_of width f) counts (drop i es) ≡ body ++ rest
    turn = along_turn (log_of width f) counts es i d h

    turn_long : length (bodies_along (log_of width f) counts (drop i es)) ≡ length body + length rest
    turn_long = ap length turn ∙ length-append body rest

    pub body_asks : BodyRoom f counts (get_or es i d).slot out at
    body_asks = record { in_slot = x.in_slots i d h; room = omega (arith, y.room, turn_long) }

    pub along_on : (out' : List ℕ) (at' : ℕ) → output out' at' ≡ laid_over out at body
        → WrittenTo (log_of width f) counts es out₀ out' at' (i + 1)
    unfolding laid_over
    along_on out' at' is =
        let fits : at + length body ≤ length out = omega (arith, y.room, turn_long) in
        let bytes : out' ≡ stores out at body = ap (λ (o : Output). o.bytes) is ∙ sym (stores_are body out at fits) in
        let behind : at' ≡ at + length body = ap (λ (o : Output). o.behind) is in
        let same : length out' ≡ length out = ap length bytes ∙ stores_length body out at in
        record {
          left = y.left ∙ rw (turn, stores_append body rest out at, ← bytes, ← behind);
          room = omega (arith, y.room, turn_long);
          whole = y.whole;
          size = same ∙ y.size;
        }

  pub along_ends : (out : List ℕ) (at i : ℕ) → WrittenTo (log_of width f) counts es out₀ out at i → length es ≤ i
      → out ≡ bodies_along (log_of width f) counts es
  unfolding stores bodies_along concat
  along_ends out at i y h =
      let all : List ℕ = bodies_along (log_of width f) counts es in
      let e : drop i es ≡ [] = drop_of_length-le es h in
      let z : 0 + length all ≡ length all = omega arith in
      let none : drop (length all) out₀ ≡ [] = drop_of_length-le out₀ {i = length all} (omega (arith, y.whole)) in
      sym (y.left ∙ rw e) ∙ stores_are all out₀ 0 (omega (arith, y.whole)) ∙ rw (z, none, append-nil)

---- the slots of the order are those of the ops beyond

-- an op of the order, if it is beyond the counts
abbrev if_beyond : Vector → Stamped → List ℕ
if_beyond v x = cond (is_beyond v x) x.op []

beyond_concat : (v : Vector) (xs : List Stamped)
    → concat (map (if_beyond v) xs) ≡ concat (map (λ (x : Stamped). x.op) (filter (is_beyond v) xs))
unfolding concat filter
beyond_concat v [] = refl
beyond_concat v (x ∷ xs) = go (is_beyond v x) (beyond_concat v xs)
  where
    go : (b : Bool) → concat (map (if_beyond v) xs) ≡ concat (map (λ (x : Stamped). x.op) (filter (is_beyond v) xs))
        → cond b x.op [] ++ concat (map (if_beyond v) xs)
        ≡ concat (map (λ (x : Stamped). x.op) (cond b (x ∷ filter (is_beyond v) xs) (filter (is_beyond v) xs)))
    go true ih = ap (λ ys. x.op ++ ys) ih
    go false ih = ih

module _ (f : List ℕ) (counts : Vector) (out : List ℕ) (x : WholeRoom f counts out) where
  st : structural width f ≡ true
  st = sound_structural width f x.is_sound_so

  module _ (u : Vector) (hu : u ≡ header_counts f) where
    held : Held width f u
    held = rw hu (whole_held width f st (omega arith))

    pub order_asks : SchedulableCut width f u
    order_asks = record { is_structural = st; held = held; is_closed = rw hu (whole_closed width f st) }

    body_is : (e : Entry) → InSlot width f e.slot
        → body_of (log_of width f) counts e.slot ≡ if_beyond counts (stamped_of (log_of width f) e)
    unfolding body_of is_beyond op_in stamped_of
    body_is e i = let op = held_op width f st _ _ i.in_file in rw (op.origin, op.number)

    bodies_are : (es : List Entry) → Each (λ (e : Entry). InSlot width f e.slot) es
        → bodies_along (log_of width f) counts es ≡ concat (map (if_beyond counts) (map (stamped_of (log_of width f)) es))
    unfolding bodies_along concat
    bodies_are [] h = refl
    bodies_are (e ∷ es) h = ap₂ ◌++◌ (body_is e h.0) (bodies_are es h.1)

    module _ (es : List Entry) (is : es ≡ scheduled (log_of width f) u) where
      in_slots : Each (λ (e : Entry). InSlot width f e.slot) es
      in_slots = rw is (entries_in_slots width f u st held)

      along_is : bodies_along (log_of width f) counts es ≡ concat (ops_beyond (log_of width f) counts)
      unfolding ops_beyond
      along_is =
          bodies_are es in_slots
          ∙ rw (is, entries_are width f u st held, beyond_concat counts (ordered (log_of width f) u), hu, ← counts_log_of width f)

      pub along_asks : BodiesRoom f counts es out
      along_asks = record {
        in_slots = λ i d h. each_at (λ (e : Entry). InSlot width f e.slot) es d i in_slots h;
        room = ap length along_is ∙ x.room;
      }

      pub bodies_written : (after : List ℕ) → after ≡ bodies_along (log_of width f) counts es
          → after ≡ concat (ops_beyond (log_of width f) counts)
      bodies_written after e = e ∙ along_is

---- what the code of the bodies needs: search bodying

pub ruleset copyings = (copy_fits, copy_is, body_skipped, body_copies, body_fits, body_put)

pub ruleset bodying = (rules, copyings, order_asks)

---- what the walk along the entries needs
pub ruleset alongs = (along_starts, body_asks, along_on, along_ends)
