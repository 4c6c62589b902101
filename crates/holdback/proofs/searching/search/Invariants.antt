-- `holdback::searching::search`: what its loops keep.
use Prim.Native.Nat.{◌-◌}
use Rattle.rules.specs.Bytes.{byte}
use Rattle.holdback.proofs.SearchCases.{ScanTo, SearchTo}
use Rattle.holdback.proofs.searching.search.Given as goal

abbrev pub invariant-loop-i : goal.invariant-loop-i
invariant-loop-i l = ScanTo l.initial.buf l.initial.holdback l.buf l.holdback l.i

abbrev pub decreases-loop-i : goal.decreases-loop-i
decreases-loop-i l = byte l.holdback 0 - l.i

abbrev pub invariant-again : goal.invariant-again
invariant-again l = SearchTo l.initial.buf l.initial.holdback l.buf l.holdback

abbrev pub decreases-again : goal.decreases-again
decreases-again l = byte l.holdback 0
