-- A page that is brought on to a log with one op more: what the steps ask, and what they leave.
use Rattle.std.specs.Prelude.{ℕ, suc, ◌≡◌, true, cond, List, drop, length}
use Rattle.lists.specs.Lists.{sum}
use Rattle.rules.specs.Op.{Vector}
use Rattle.rules.specs.File.{Log, counts_of, header_counts, log_of, width, within}
use Rattle.rules.specs.Log.{closed, structural}
use Rattle.page_rules.specs.Page.{Page, long_enough, page, page_at, shows}
use Rattle.rules.specs.Sound.{sound}
use Rattle.rules.specs.Replay.{order_of}
use Rattle.order.specs.Undo.{FirstNew}
use Rattle.schedule.specs.declared.entries.Entry.{Entry}
use Rattle.schedule.specs.Schedule.{scheduled}
use Rattle.page_tables.specs.Tables.{LongPage}

-- how many ops are taken back to bring on the page of a closed cut: where the lent tables show it, those behind the first op that it does
-- not count, and else all that it counts
pub record Took (log : Log) (old : Vector) (lent : Page) (taken : ℕ) : Type 0 where
  pub place : ℕ
  pub first : FirstNew log old place
  pub number : taken ≡ cond (shows lent (page_at log old)) (length (drop (suc place) (order_of log (counts_of log)))) (sum old)

-- the slot of an entry
abbrev pub slot_in_entry : Entry → ℕ
slot_in_entry e = e.slot

---- what the steps ask

-- a structurally sound file has one op more than a closed cut
pub record OneMore (f : List ℕ) (old : Vector) : Type 0 where
  pub is_structural : structural width f ≡ true
  pub eight : length old ≡ 8
  pub inside : within old (header_counts f) ≡ true
  pub is_closed : closed (log_of width f) old ≡ true
  pub one : sum (header_counts f) ≡ suc (sum old)

-- the order of all ops, and lent tables
pub record Renewable (f : List ℕ) (old all : Vector) (es : List Entry) (ls lp lo : List ℕ) : Type 0 where
  pub grown : OneMore f old
  pub counts : all ≡ header_counts f
  pub is_scheduled : es ≡ scheduled (log_of width f) all
  pub lent : LongPage ls lp lo

pub record OneMoreLent (f : List ℕ) (old : Vector) (ls lp lo : List ℕ) : Type 0 where
  pub grown : OneMore f old
  pub lent : LongPage ls lp lo

-- the tests 1 and 2 of the page passed
pub record PageReady (f ls lp lo : List ℕ) : Type 0 where
  pub is_sound_so : sound width f ≡ true
  pub long : long_enough (page ls lp lo) ≡ true
