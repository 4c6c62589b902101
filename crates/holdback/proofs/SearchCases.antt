-- The search in a holdback, as the code meets it.
use Prim.Native.Nat.{ℕ, suc, ◌+◌, ◌*◌, ◌-◌, ◌≤◌, ◌<◌}
use borrow.Author.Rules.{rules}
use lib.ListN.{length, length-append, length-drop, length-take, take, drop, drop_of_length-le}
use lib.Seq.{drop_at, drop-cons, drop-drop, length-take-le, take_all, take_at, take-suc}
use mathlib.Core.Bool.{Bool, true, false, cond}
use mathlib.Core.List.{List, [], ◌∷◌, ◌++◌}
use mathlib.Core.Path.{◌≡◌, refl, sym, ap, ◌∙◌}
use native.Mathlib.Numerals.{add-one}
use native.Mathlib.Omega.{arith}
use Rattle.lists.proofs.BoolLaws.{tested}
use Rattle.rules.specs.Answer.{Answer, refused, had_it, waiting, done, accepted, if_accepted}
use Rattle.rules.specs.Bytes.{byte}
use Rattle.rules.specs.Deliver.{Result, deliver, deliver_answer, deliver_buffer}
use Rattle.rules.specs.File.{width}
use Rattle.rules.specs.Holdback.{Desk, holdback_of, holdback_ops, look, search, search_on, sound_holdback, stays}
use Rattle.rules.specs.Op.{Op}
use Rattle.rules.proofs.DeliverLaws.{deliver_length, deliver_sound, if_not}
use Rattle.rules.proofs.FileLaws.{Wide, chunk_at, wide_both, wide_drop, wide_take}
use Rattle.rules.proofs.HoldbackLaws.{sound_reads, ops_count, ops_wide, ops_back, holdback_back, holdback_sound}
use Rattle.rules.proofs.SearchLaws.{look_taken, look_stays, look_drops, search_is}
use Rattle.codec.specs.Answers.{number_of}
use Rattle.codec.specs.declared.answer.Refusal.{Refusal}
use Rattle.codec.specs.declared.answer.Refusal.TheVariants.{Unsound, Length, Malformed, Conflict, Early, NotClosed, Unknown, NoRoom, Exhausted, Cycle, Marked, BadBundle, HoldbackFull, BadHoldback}
use Rattle.delivery.proofs.DeliverCases.{delivering}
use Rattle.holdback_places.specs.Places.{Occupied, without}
use Rattle.holdback.specs.Searching.{Meet, Meetable, Searchable, LookAt, desk, left, left_by, met_of, meet_op, searched, looked_at, waiting_at}
use Rattle.holdback.specs.declared.searching.Met.{Met}
use Rattle.holdback.specs.declared.searching.Met.TheVariants.{Taken, Stays, Dropped}
use Rattle.holdback_places.proofs.PlaceCases.{occupied}

---- what becomes of an op

-- only 5 and 8 stay
pub stays_else : (why : Refusal) → (why ≡ Early → ⊥) → (why ≡ NoRoom → ⊥) → false ≡ stays (refused (number_of why))
unfolding stays
stays_else Unsound a b = refl
stays_else Length a b = refl
stays_else Malformed a b = refl
stays_else Conflict a b = refl
stays_else Early a b = absurd (a refl)
stays_else NotClosed a b = refl
stays_else Unknown a b = refl
stays_else NoRoom a b = absurd (b refl)
stays_else Exhausted a b = refl
stays_else Cycle a b = refl
stays_else Marked a b = refl
stays_else BadBundle a b = refl
stays_else HoldbackFull a b = refl
stays_else BadHoldback a b = refl

module _ (why : Refusal) where
  pub stays_early : why ≡ Early → true ≡ stays (refused (number_of why))
  unfolding stays
  stays_early e = rw e

  pub stays_full : why ≡ NoRoom → true ≡ stays (refused (number_of why))
  unfolding stays
  stays_full e = rw e

  module _ (b : Bool) (is : b ≡ stays (refused (number_of why))) where
    pub refused_stays : b ≡ true → Stays ≡ met_of (refused (number_of why))
    unfolding met_of
    refused_stays e = rw (← is, e)

    pub refused_dropped : b ≡ false → Dropped ≡ met_of (refused (number_of why))
    unfolding met_of
    refused_dropped e = rw (← is, e)

pub met_taken : (n : ℕ) → Taken ≡ met_of (accepted n)
unfolding met_of
met_taken n = refl

pub met_held : Dropped ≡ met_of had_it
unfolding met_of stays
met_held = refl

pub met_waiting : Dropped ≡ met_of waiting
unfolding met_of stays
met_waiting = refl

-- what was met tells the answer
data Told : Answer → Met → Type 0 where
  told_taken : {a : Answer} → if_accepted a true false ≡ true → Told a Taken
  told_stays : {a : Answer} → if_accepted a true false ≡ false → stays a ≡ true → Told a Stays
  told_dropped : {a : Answer} → if_accepted a true false ≡ false → stays a ≡ false → Told a Dropped

told : (a : Answer) → Told a (met_of a)
unfolding met_of
told a = go a (stays a) refl
  where
    go : (a : Answer) (b : Bool) → stays a ≡ b → Told a (if_accepted a Taken (cond b Stays Dropped))
    go (refused n) true e = told_stays refl e
    go (refused n) false e = told_dropped refl e
    go had_it true e = told_stays refl e
    go had_it false e = told_dropped refl e
    go waiting true e = told_stays refl e
    go waiting false e = told_dropped refl e
    go done true e = told_stays refl e
    go done false e = told_dropped refl e
    go (accepted n) b e = told_taken refl

module _ (a : Answer) where
  is_taken : (m : Met) → Told a m → m ≡ Taken → if_accepted a true false ≡ true
  is_taken Taken (told_taken t) e = t
  is_taken Stays (told_stays n s) e = let z : ◌≡◌ {A = ℕ} 0 1 = cc in absurd (omega arith)
  is_taken Dropped (told_dropped n s) e = let z : ◌≡◌ {A = ℕ} 0 1 = cc in absurd (omega arith)

  is_staying : (m : Met) → Told a m → m ≡ Stays → (if_accepted a true false ≡ false) × (stays a ≡ true)
  is_staying Taken (told_taken t) e = let z : ◌≡◌ {A = ℕ} 0 1 = cc in absurd (omega arith)
  is_staying Stays (told_stays n s) e = (n, s)
  is_staying Dropped (told_dropped n s) e = let z : ◌≡◌ {A = ℕ} 0 1 = cc in absurd (omega arith)

  is_dropped : (m : Met) → Told a m → m ≡ Dropped → (if_accepted a true false ≡ false) × (stays a ≡ false)
  is_dropped Taken (told_taken t) e = let z : ◌≡◌ {A = ℕ} 0 1 = cc in absurd (omega arith)
  is_dropped Stays (told_stays n s) e = let z : ◌≡◌ {A = ℕ} 0 1 = cc in absurd (omega arith)
  is_dropped Dropped (told_dropped n s) e = (n, s)

module _ (f : List ℕ) (x : Op) where
  pub meet_is : (a : Answer) (g : List ℕ) → record { answer = a; buffer = g } ≡ deliver width f x → (m : Met) → m ≡ met_of a
      → record { met = m; buffer = g } ≡ meet_op f x
  meet_is a g e m is =
      let answer_so : a ≡ deliver_answer width f x = ap (λ (o : Result). o.answer) e in
      let buffer_so : g ≡ deliver_buffer width f x = ap (λ (o : Result). o.buffer) e in
      rw (is, answer_so, buffer_so)

---- a step of the search

-- the search at f and h, where the first i ops have been met and stay
unfoldable pub scanned : (f h : List ℕ) (i : ℕ) → Desk
scanned f h i =
    left (search_on width f (search width) (look width f (take i (holdback_ops width h)) (drop i (holdback_ops width h))))

-- the looks so far, from f₀ and h₀ to f and h
pub record SearchTo (f₀ h₀ f h : List ℕ) : Type 0 where
  pub searchable : Searchable f h
  pub buffer_size : length f ≡ length f₀
  pub holdback_size : length h ≡ length h₀
  pub rest : searched f₀ h₀ ≡ searched f h

-- and the ops before place i in this look
pub record ScanTo (f₀ h₀ f h : List ℕ) (i : ℕ) : Type 0 where
  pub searchable : Searchable f h
  pub buffer_size : length f ≡ length f₀
  pub holdback_size : length h ≡ length h₀
  pub made : i ≤ byte h 0
  pub fewer : byte h 0 ≤ byte h₀ 0
  pub rest : searched f₀ h₀ ≡ scanned f h i

module _ (f h : List ℕ) (x : Searchable f h) where
  pub search_starts : SearchTo f h f h
  search_starts = record { searchable = x; buffer_size = refl; holdback_size = refl; rest = refl }

  pub scan_starts : ScanTo f h f h 0
  unfolding searched scanned
  scan_starts = record {
    searchable = x;
    buffer_size = refl;
    holdback_size = refl;
    made = omega arith;
    fewer = omega arith;
    rest = ap left (search_is width f (holdback_ops width h));
  }

-- the ops of a holdback from which the one at place i was freed
module _ (h : List ℕ) (i : ℕ) (o : Occupied h i) (g : List ℕ) (is : g ≡ holdback_of width (without (holdback_ops width h) i)) where
  abbrev ops : List Op
  ops = holdback_ops width h

  count : length ops ≡ byte h 0
  count = ops_count width h

  few_left : length (without ops i) + 1 ≡ byte h 0
  unfolding without
  few_left = rw (length-append, length-take, length-drop) (omega (arith, count, o.inside))

  wide_left : Wide width (without ops i)
  unfolding without
  wide_left =
      let w = ops_wide width h o.is_holdback in
      wide_both width (take i ops) (drop (suc i) ops) (wide_take width i ops w) (wide_drop width (suc i) ops w)

  freed_ops : holdback_ops width g ≡ without ops i
  freed_ops = rw is (ops_back width (without ops i) wide_left)

  freed_sound : sound_holdback width g ≡ true
  freed_sound = rw is (holdback_sound width (without ops i) wide_left (omega (arith, few_left, (sound_reads width h o.is_holdback).few)))

  freed_count : byte g 0 + 1 ≡ byte h 0
  freed_count = omega (arith, few_left, ops_count width g, ap length freed_ops)

  freed_size : length g ≡ length h
  freed_size = (sound_reads width g freed_sound).size ∙ sym (sound_reads width h o.is_holdback).size

  freed_take : take i (without ops i) ≡ take i ops
  unfolding without
  freed_take = take_at (take i ops) (drop (suc i) ops) i (length-take-le i ops (omega (arith, count, o.inside)))

  freed_drop : drop i (without ops i) ≡ drop (suc i) ops
  unfolding without
  freed_drop = drop_at (take i ops) (drop (suc i) ops) i (length-take-le i ops (omega (arith, count, o.inside)))

-- the op at place i, as the code lends it
module _ (f h : List ℕ) (i : ℕ) (x : Meetable f h i) where
  pub meet_inside : 1 + 14 * i + 14 ≤ length h
  meet_inside = x.is_occupied.fits

  pub meet_place : (m : Met) (g : List ℕ)
      → record { met = m; buffer = g } ≡ meet_op f (take (1 + 14 * i + 14 - (1 + 14 * i)) (drop (1 + 14 * i) h))
      → record { met = m; buffer = g } ≡ meet_op f (waiting_at h i)
  unfolding waiting_at holdback_ops
  meet_place m g e =
      let k : 1 + 14 * i + 14 - (1 + 14 * i) ≡ 14 = omega arith in
      e ∙ rw (k, chunk_at width (byte h 0) (drop 1 h) i x.is_occupied.inside, drop-drop (14 * i) 1 h)

-- the place is freed unless the op stays
module _ (f h : List ℕ) (i : ℕ) (m : Met) (g : List ℕ) (e : record { met = m; buffer = g } ≡ meet_op f (waiting_at h i)) where
  met_as : m ≡ met_of (deliver_answer width f (waiting_at h i))
  met_as = ap (λ (o : Meet). o.met) e

  buffer_as : g ≡ deliver_buffer width f (waiting_at h i)
  buffer_as = ap (λ (o : Meet). o.buffer) e

  look_is : (h' : List ℕ) → h' ≡ left_by m h i → record { met = m; buffer = g; holdback = h' } ≡ looked_at f h i
  unfolding looked_at
  look_is h' is = rw (is, ← met_as, ← buffer_as)

  pub look_kept : m ≡ Stays → record { met = Stays; buffer = g; holdback = h } ≡ looked_at f h i
  unfolding left_by
  look_kept is = rw (← is) (look_is h (rw is))

  module _ (h' : List ℕ) (freed : h' ≡ holdback_of width (without (holdback_ops width h) i)) where
    pub look_took : m ≡ Taken → record { met = Taken; buffer = g; holdback = h' } ≡ looked_at f h i
    unfolding left_by
    look_took is = rw (← is) (look_is h' (rw is freed))

    pub look_dropped : m ≡ Dropped → record { met = Dropped; buffer = g; holdback = h' } ≡ looked_at f h i
    unfolding left_by
    look_dropped is = rw (← is) (look_is h' (rw is freed))

module _ (f₀ h₀ f h : List ℕ) (i : ℕ) (x : ScanTo f₀ h₀ f h i) where
  pub scan_counts : sound_holdback width h ≡ true
  scan_counts = x.searchable.is_holdback

  -- n ops wait
  module _ (n : ℕ) (count_is : n ≡ byte h 0) (met : i < n) where
    inside : i < byte h 0
    inside = omega arith

    o : Occupied h i
    o = occupied h x.searchable.is_holdback i inside

    pub scan_meets : Meetable f h i
    scan_meets = record { is_sound_so = x.searchable.is_sound_so; is_occupied = o }

    abbrev op : Op
    op = waiting_at h i

    next_is : drop i (holdback_ops width h) ≡ op ∷ drop (suc i) (holdback_ops width h)
    unfolding waiting_at
    next_is = drop-cons (holdback_ops width h) i [] (omega (arith, inside, ops_count width h))

    -- what was met, and the buffer and the holdback after it
    module _ (m : Met) (g h' : List ℕ) (e : record { met = m; buffer = g; holdback = h' } ≡ looked_at f h i) where
      met_so : Told (deliver_answer width f op) m
      unfolding looked_at
      met_so = rw (ap (λ (v : LookAt). v.met) e) (told (deliver_answer width f op))

      buffer_so : g ≡ deliver_buffer width f op
      unfolding looked_at
      buffer_so = ap (λ (v : LookAt). v.buffer) e

      left_so : h' ≡ left_by m h i
      unfolding looked_at
      left_so = ap (λ (v : LookAt). v.holdback) e ∙ ap (λ k. left_by k h i) (sym (ap (λ (v : LookAt). v.met) e))

      same_buffer : if_accepted (deliver_answer width f op) true false ≡ false → g ≡ f
      unfolding deliver_buffer
      same_buffer n = buffer_so ∙ if_not (deliver_answer width f op) _ f n

      -- it stays: the look goes on behind it
      module _ (is : m ≡ Stays) where
        same_left : h' ≡ h
        unfolding left_by
        same_left = left_so ∙ rw is

        pub scan_stays : ScanTo f₀ h₀ g h' (i + 1)
        unfolding scanned waiting_at
        scan_stays =
            let (n, s) = is_staying (deliver_answer width f op) m met_so is in
            let ops : List Op = holdback_ops width h in
            let more : take (i + 1) ops ≡ take i ops ++ (op ∷ []) =
            rw (add-one i) (take-suc ops i [] (omega (arith, inside, ops_count width h))) in
            let step : scanned f h i ≡ scanned f h (i + 1) =
            rw (next_is, look_stays width f (take i ops) op (drop (suc i) ops) n s, more, add-one i) in
            rw (same_buffer n, same_left) (record {
              searchable = x.searchable;
              buffer_size = x.buffer_size;
              holdback_size = x.holdback_size;
              made = omega (arith, inside);
              fewer = x.fewer;
              rest = x.rest ∙ step;
            })

        pub stays_less : byte h' 0 - (i + 1) < byte h 0 - i
        stays_less = rw same_left (omega (arith, inside))

      -- it is dropped: the look goes on at this place
      module _ (is : m ≡ Dropped) where
        freed_dropped : h' ≡ holdback_of width (without (holdback_ops width h) i)
        unfolding left_by
        freed_dropped = left_so ∙ rw is

        pub scan_dropped : ScanTo f₀ h₀ g h' i
        unfolding scanned
        scan_dropped =
            let (n, s) = is_dropped (deliver_answer width f op) m met_so is in
            let ops : List Op = holdback_ops width h in
            let step : scanned f h i ≡ scanned f h' i =
            rw (
              next_is,
              look_drops width f (take i ops) op (drop (suc i) ops) n s,
              freed_ops h i o h' freed_dropped,
              freed_take h i o h' freed_dropped,
              freed_drop h i o h' freed_dropped,
            ) in
            rw (same_buffer n) (record {
              searchable = record { is_sound_so = x.searchable.is_sound_so; is_holdback = freed_sound h i o h' freed_dropped };
              buffer_size = x.buffer_size;
              holdback_size = freed_size h i o h' freed_dropped ∙ x.holdback_size;
              made = omega (arith, inside, freed_count h i o h' freed_dropped);
              fewer = omega (arith, freed_count h i o h' freed_dropped, x.fewer);
              rest = x.rest ∙ step;
            })

        pub dropped_less : byte h' 0 - i < byte h 0 - i
        dropped_less = omega (arith, inside, freed_count h i o h' freed_dropped)

      -- it is taken: the search starts again
      module _ (is : m ≡ Taken) where
        freed_taken : h' ≡ holdback_of width (without (holdback_ops width h) i)
        unfolding left_by
        freed_taken = left_so ∙ rw is

        taken_next : SearchTo f₀ h₀ g h'
        unfolding scanned searched search_on without
        taken_next =
            let t = is_taken (deliver_answer width f op) m met_so is in
            let ops : List Op = holdback_ops width h in
            let step : scanned f h i ≡ searched g h' =
            rw (next_is, look_taken width f (take i ops) op (drop (suc i) ops) t, freed_ops h i o h' freed_taken, buffer_so) in
            record {
              searchable = record {
                is_sound_so = rw buffer_so (deliver_sound width f op x.searchable.is_sound_so);
                is_holdback = freed_sound h i o h' freed_taken;
              };
              buffer_size = ap length buffer_so ∙ deliver_length width f op ∙ x.buffer_size;
              holdback_size = freed_size h i o h' freed_taken ∙ x.holdback_size;
              rest = x.rest ∙ step;
            }

        pub taken_less : byte h' 0 < byte h₀ 0
        taken_less = omega (arith, freed_count h i o h' freed_taken, x.fewer)

        pub search_on_law : (a b : List ℕ) → SearchTo a b f₀ h₀ → SearchTo a b g h'
        search_on_law a b y = record {
          searchable = taken_next.searchable;
          buffer_size = taken_next.buffer_size ∙ y.buffer_size;
          holdback_size = taken_next.holdback_size ∙ y.holdback_size;
          rest = y.rest ∙ taken_next.rest;
        }

  -- all have been met, and none is due
  pub search_ends : (n : ℕ) → n ≡ byte h 0 → n ≤ i → (a b : List ℕ) → SearchTo a b f₀ h₀ → desk f h ≡ searched a b
  unfolding scanned look search_on
  search_ends n count_is l a b y =
      let ops : List Op = holdback_ops width h in
      let all_met : length ops ≤ i = omega (arith, ops_count width h) in
      sym (y.rest ∙ x.rest ∙ rw (drop_of_length-le ops all_met, take_all i ops all_met)
      (ap (desk f) (holdback_back width h x.searchable.is_holdback)))

  module _ (a b : List ℕ) (y : SearchTo a b f₀ h₀) where
    pub buffer_kept : length f ≡ length a
    buffer_kept = x.buffer_size ∙ y.buffer_size

    pub holdback_kept : length h ≡ length b
    holdback_kept = x.holdback_size ∙ y.holdback_size

---- what the code of the search rules: search meets, searching
pub ruleset staying = (stays_early, stays_full, stays_else, refused_stays, refused_dropped, met_taken, met_held, met_waiting)

pub ruleset meets = (staying, delivering, meet_is, meet_inside, meet_place, look_kept, look_took, look_dropped)

pub ruleset scanning = (search_starts, scan_starts, scan_counts, scan_meets, scan_stays, stays_less, scan_dropped, dropped_less)

pub ruleset ending = (taken_less, search_on_law, search_ends, buffer_kept, holdback_kept)

pub ruleset searching = (rules, tested, scanning, ending)
