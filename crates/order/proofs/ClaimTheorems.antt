-- The claims, proved.
use Rattle.order.specs.Claims.{BoundsFree, Decimals, JudgedClimbs, Listings, NoNewWork, OneFile, Ordered, PartsAlike, PartsOrdered, TakesBack, TreeClimbs}
use Rattle.order.proofs.LevelLaws.{Cut, equation}
use Rattle.rules.specs.File.{Log, counts_of, log_of}
use Rattle.rules.proofs.ExtendLaws.{alike_more, replay_alike}
use Rattle.order.proofs.DecimalLaws.{decimal_any, decimal_digits, decimal_first, decimal_number}
use Rattle.rules.proofs.FileLaws.{file_of_log_of, header_bytes}
use Rattle.rules.proofs.StructureLaws.{good_ops, laid_reads, structural_good, structural_laid}
use Rattle.order.proofs.LastLaws.{greatest_last}
use Rattle.order.proofs.TourLaws.{listing_size, preorder_is, preorder_once}
use Rattle.order.proofs.OnceLaws.{ordered_once}
use Rattle.rules.proofs.KnownLaws.{parent_reads}
use Rattle.order.proofs.FuelLaws.{path_fuel, preorder_fuel}
use Rattle.rules.specs.Tree.{slots}
use Rattle.order.proofs.WorkLaws.{issued_unmarked, marked_line}
use Rattle.rules.proofs.IssueLaws.{allowed}
use Rattle.rules.proofs.SoundLaws.{sound_good}
use Rattle.rules.proofs.ClimbToLaws.{climbs}
use Rattle.order.proofs.TreeTheorem.{below_root}
use Rattle.order.proofs.RunLaws.{along_at, replay_run}
use Rattle.lists.proofs.BoolLaws.{never}
use Rattle.rules.specs.Op.{is_move}
use Rattle.rules.specs.Replay.{Stamped, order_of, ordered, start}
use Rattle.rules.proofs.CausalLaws.{within_le}
use Rattle.order.specs.Undo.{replay_keeping, step_keeping, take_back, unjudged}
use Rattle.order.proofs.PartLaws.{ordered_part}
use Rattle.order.proofs.SlotLaws.{slots_distinct, slots_in}
use Rattle.order.proofs.UndoLaws.{ops_in, take_back_after}
use lib.ListN.{drop, take, take-append-drop}
use mathlib.Core.List.{List, ◌++◌, foldl}
use mathlib.Core.Path.{◌≡◌, ap, sym, ◌∙◌}

pub one_file : OneFile
one_file w f bytes s =
    let h = laid_reads w f (structural_laid w f s) in
    file_of_log_of w f (header_bytes w f bytes h.starts h.header)

pub in_order : Ordered
in_order w f s cut cv cl =
    let log : Log = log_of w f in
    let good = structural_good w f s in
    let is : Cut log cut = record { is_covered = cv; is_closed = cl } in
    record { once = ordered_once log good cut is; latest = greatest_last log good cut is }

pub parts_alike : PartsAlike
parts_alike w f more s x cut cv cl =
    let log : Log = log_of w f in
    replay_alike log more (good_ops (structural_good w f s)) cut (alike_more log more x cut cv cl)

pub parts_ordered : PartsOrdered
parts_ordered w f st part whole c h = ordered_part (log_of w f) (structural_good w f st) part whole c (within_le part whole h)

pub takes_back : TakesBack
unfolding replay_keeping order_of
takes_back w f st cut c place =
    let log = log_of w f in
    let good = structural_good w f st in
    let xs = ordered log cut in
    let whole : xs ≡ take place xs ++ drop place xs = sym (take-append-drop place xs) in
    ap (λ (ys : List Stamped). take_back (foldl step_keeping unjudged ys) (ops_in (drop place xs))) whole
    ∙ take_back_after (take place xs) (drop place xs) (rw (← whole) (slots_in log good cut c))
    (rw (← whole) (slots_distinct log good cut c))

pub bounds_free : BoundsFree
bounds_free w f s =
    let log : Log = log_of w f in
    let good = structural_good w f s in
    record {
      times = equation log good;
      paths = λ n k. path_fuel log good n (parent_reads log (counts_of log) n k);
      listings = preorder_fuel log good;
    }

pub tree_climbs : TreeClimbs
tree_climbs w f s cut cv cl p n k =
    let log : Log = log_of w f in
    let is : Cut log cut = record { is_covered = cv; is_closed = cl } in
    climbs _ p n (below_root log (structural_good w f s) cut is p (parent_reads log cut p k))

pub judged_climbs : JudgedClimbs
unfolding is_move
judged_climbs w f s cut cv cl before after x e moves =
    let log : Log = log_of w f in
    let is : Cut log cut = record { is_covered = cv; is_closed = cl } in
    let found = along_at start before x after (rw e at (replay_run log (structural_good w f s) cut is).along) in
    climbs _ _ _ (found.parent (λ k. never (rw k at moves)))

pub listings : Listings
listings w f s =
    let log : Log = log_of w f in
    let good = structural_good w f s in
    record {
      once = preorder_once log good slots;
      every = preorder_is log good;
      size = listing_size log good;
      marks = marked_line log good;
    }

pub decimals : Decimals
decimals n small = record {
  value = decimal_number n small;
  are_digits = decimal_digits n;
  first = λ l. decimal_first n l small;
  unbounded = λ k l. decimal_any k n l small;
}

pub no_new_work : NoNewWork
no_new_work w f room s q end e r =
    let a = allowed w f room s q end e in
    issued_unmarked (log_of w f) (sound_good w f a.is_sound_so) s q a.count a.is_unmarked r
