-- A list of calls made on some machine, as links: each call is lent the table, queue and scratch that the last one left.
use Rattle.std.specs.Prelude.{List, [], ◌∷◌}
use Rattle.machine.specs.Calls.{Call, Store}
use Rattle.machine.specs.Step.{Outcome}
use Rattle.soundness.specs.Demand3.{Link}

unfoldable pub links_of : (Store → Call → Outcome) → Store → List Call → List Link
links_of m s [] = []
links_of m s (call ∷ calls) = record { call = call; scratch = s.scratch; reply = (m s call).reply; after = (m s call).after } ∷ links_of m (m s call).after calls
