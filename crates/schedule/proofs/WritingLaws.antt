-- Turns of the loops over the replicas and the classes of a level that write the order, as the code has them.
use mathlib.Core.Path.{◌≡◌, refl, sym, ap, ◌∙◌}
use mathlib.Core.List.{List, [], ◌++◌, map, append-nil}
use Rattle.std.proofs.Common.{append_assoc}
use Prim.Native.Nat.{ℕ, zero, suc, ◌+◌, ◌-◌, ◌≤◌, ◌<◌}
use native.Mathlib.Omega.{arith}
use native.Mathlib.Numerals.{add-one}
use native.Mathlib.Decide.{dec_lt}
use native.Mathlib.Nat.{le_refl}
use lib.ListN.{length, length-append}
use borrow.Author.Tests.{ne_eqb}
use Rattle.lists.specs.Lists.{up_from, down_from, concat}
use Rattle.lists.proofs.RangeLaws.{concat_none, concat_nothing}
use Rattle.rules.specs.Op.{count_in, Vector}
use Rattle.schedule.specs.declared.entries.Entry.{Entry}
use Rattle.schedule.specs.Level.{Highest, Idle, Lowest, Room, RoomAt, RoomIn, class_entries, due_entry, level_entries}

---- what a loop has left to write: all entries behind those at the start are the rest behind those that are there now

pub record Left (start all now rest : List Entry) : Type 0 where
  pub room : Room now rest
  pub left : start ++ all ≡ now ++ rest

pub left_all : (start all rest : List Entry) → Room start all → all ≡ rest → Left start all start rest
left_all start all rest r e = record { room = rw e at r; left = rw e }

module _ (start all now rest : List Entry) (h : Left start all now rest) where
  module _ (es more : List Entry) (e : rest ≡ es ++ more) where
    more_length : length rest ≡ length es + length more
    more_length = ap length e ∙ length-append es more

    -- the room that its first part has; that part done
    pub left_room : Room now es
    left_room = omega (arith, h.room, more_length)

    pub left_on : (after : List Entry) → after ≡ now ++ es → Left start all after more
    left_on after is = record {
      room = omega (arith, h.room, more_length, ap length is, length-append now es);
      left = h.left ∙ rw (e, is) (sym (append_assoc now es more));
    }

  -- nothing left
  pub left_none : rest ≡ [] → now ≡ start ++ all
  left_none e = sym (h.left ∙ rw e (append-nil now))

---- the replicas of a class: those up to n are left

module _ (classes next : Vector) (time k : ℕ) where
  unfoldable pub class_up_to : ℕ → List Entry
  class_up_to n = concat (map (due_entry classes next time k) (down_from n))

  class_turn : (n m : ℕ) → n ≡ m + 1 → class_up_to n ≡ due_entry classes next time k n ++ class_up_to m
  unfolding class_up_to down_from concat
  class_turn n m e = rw (e, add-one m)

  due_zero : 1 ≤ k → (s : ℕ) → count_in classes s ≡ 0 → due_entry classes next time k s ≡ []
  unfolding due_entry
  due_zero l s z = rw (ne_eqb (count_in classes s) k (λ e. omega arith))

  -- replicas above have no op, and none below
  skip : (F : ℕ → List Entry) (n m : ℕ) → n ≤ m → ((s : ℕ) → n < s → s ≤ m → F s ≡ [])
      → concat (map F (down_from m)) ≡ concat (map F (down_from n))
  unfolding down_from concat
  skip F n zero h e = let z : n ≡ 0 = omega arith in rw z
  skip F n (suc m) h e = elim (dec_lt n (suc m)) [
    | yes l ↦ rw (e (suc m) l (le_refl _)) (skip F n m (omega arith) (λ s a b. e s a (omega arith)))
    | no l ↦ let z : n ≡ suc m = omega (arith, l) in rw z
  ]

  class_all : 1 ≤ k → (high : ℕ) → Highest classes high → class_entries classes next time k ≡ class_up_to high
  unfolding class_entries class_up_to
  class_all l high h = skip (due_entry classes next time k) high 8 h.most (λ s a b. due_zero l s (h.above s a b))

  class_none : 1 ≤ k → (low n : ℕ) → Lowest classes low → n < low → class_up_to n ≡ []
  unfolding class_up_to
  class_none l low n h u = concat_none (due_entry classes next time k) n (λ s a b. due_zero l s (h.below s a (omega (arith, b))))

  class_idle : 1 ≤ k → Idle classes → class_entries classes next time k ≡ []
  unfolding class_entries
  class_idle l z = concat_none (due_entry classes next time k) 8 (λ s a b. due_zero l s (z s a b))

-- the replicas below end are left
pub record AtReplica (classes next : Vector) (time k : ℕ) (start now : List Entry) (end : ℕ) : Type 0 where
  pub some : 1 ≤ end
  pub few : end ≤ 9
  pub rest : Left start (class_entries classes next time k) now (class_up_to classes next time k (end - 1))

module _ (classes next : Vector) (time k low high : ℕ) (start : List Entry) (x : RoomIn classes next time k low high start) where
  pub class_starts : AtReplica classes next time k start start (high + 1)
  class_starts =
      let e : high + 1 - 1 ≡ high = omega arith in
      record {
        some = omega arith;
        few = omega (arith, x.highest.most);
        rest = rw e (left_all _ _ _ x.room (class_all classes next time k x.some high x.highest));
      }

  module _ (now : List Entry) (end : ℕ) (h : AtReplica classes next time k start now end) where
    turn : low < end → class_up_to classes next time k (end - 1)
        ≡ due_entry classes next time k (end - 1) ++ class_up_to classes next time k (end - 1 - 1)
    turn u = class_turn classes next time k _ _ (omega (arith, x.lowest.least))

    pub due_asks : low < end → RoomAt classes next time k (end - 1) now
    due_asks u = record {
      replica = record { low = omega (arith, x.lowest.least); high = omega (arith, h.few) };
      room = left_room _ _ _ _ h.rest _ _ (turn u);
    }

    pub class_on : low < end → (after : List Entry) → after ≡ now ++ due_entry classes next time k (end - 1)
        → AtReplica classes next time k start after (end - 1)
    class_on u after e = record {
      some = omega (arith, x.lowest.least);
      few = omega (arith, h.few);
      rest = left_on _ _ _ _ h.rest _ _ (turn u) after e;
    }

    pub class_ends : end ≤ low → now ≡ start ++ class_entries classes next time k
    class_ends u = left_none _ _ _ _ h.rest (class_none classes next time k x.some low (end - 1) x.lowest (omega (arith, h.some)))

---- the classes of a level, from k on

module _ (classes next : Vector) (time : ℕ) where
  unfoldable pub level_from : ℕ → List Entry
  level_from k = concat (map (class_entries classes next time) (up_from k (5 - k)))

  level_turn : (k : ℕ) → k < 5 → level_from k ≡ class_entries classes next time k ++ level_from (k + 1)
  unfolding level_from up_from concat
  level_turn k h = let e : 5 - k ≡ suc (5 - (k + 1)) = omega arith in rw (e, ← add-one k)

  level_none : (k : ℕ) → 5 ≤ k → level_from k ≡ []
  unfolding level_from up_from concat
  level_none k h = let e : 5 - k ≡ 0 = omega arith in rw e

  -- from class k on
  pub record AtClass (start now : List Entry) (k : ℕ) : Type 0 where
    pub some : 1 ≤ k
    pub rest : Left start (level_entries classes next time) now (level_from k)

  pub level_starts : (start : List Entry) → Room start (level_entries classes next time) → AtClass start start 1
  unfolding level_entries level_from
  level_starts start r = record { some = le_refl 1; rest = left_all _ _ _ r refl }

  module _ (start now : List Entry) (k : ℕ) (h : AtClass start now k) where
    pub class_asks : k < 5 → (low high : ℕ) → Lowest classes low → Highest classes high → RoomIn classes next time k low high now
    class_asks u low high a b = record {
      lowest = a;
      highest = b;
      some = h.some;
      room = left_room _ _ _ _ h.rest _ _ (level_turn k u);
    }

    pub level_on : k < 5 → (after : List Entry) → after ≡ now ++ class_entries classes next time k → AtClass start after (k + 1)
    level_on u after e = record { some = omega arith; rest = left_on _ _ _ _ h.rest _ _ (level_turn k u) after e }

    pub level_ends : 5 ≤ k → now ≡ start ++ level_entries classes next time
    level_ends u = left_none _ _ _ _ h.rest (level_none k u)

  -- where no replica has an op of a class, nothing is written
  pub level_idle : Idle classes → (start : List Entry) → start ≡ start ++ level_entries classes next time
  unfolding level_entries
  level_idle z start = rw (concat_nothing (class_entries classes next time) 4 1 (λ k a b. class_idle classes next time k a z)) (sym (append-nil start))

---- what the code that writes a level needs
pub ruleset class_writing = (class_starts, due_asks, class_on, class_ends)

pub ruleset level_writing = (level_starts, class_asks, level_on, level_ends, level_idle)
