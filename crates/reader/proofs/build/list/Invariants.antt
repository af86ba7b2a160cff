use mathlib.Core.Path.{◌≡◌}
use mathlib.Core.List.{[]}
use Prim.Native.Nat.{◌≤◌, ◌<◌}
use lib.ListN.{length, get_or, take, drop}
use Rattle.machine.specs.Calls.{store}
use Rattle.reader.specs.Reading.{pairs_by}
use Rattle.reader.specs.Held.{most_words}
use Rattle.reader.specs.Builds.{code_cons, Leaves}
use Rattle.reader.proofs.build.list.Given as goal

abbrev pub invariant-loop-i : goal.invariant-loop-i
invariant-loop-i l =
    (l.start ≤ l.i) × (l.i ≤ l.end) × (l.end < most_words) × (length l.table ≡ length l.initial.table)
    × Leaves (pairs_by code_cons (store l.initial.table l.initial.rest []) (drop l.i (take l.end l.words)) (get_or l.words l.end 0)) l.word l.table l.rest
