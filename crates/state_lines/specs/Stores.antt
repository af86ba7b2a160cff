-- What of the arrays is the store.
use Rattle.std.specs.Prelude.{take}
use Rattle.machine.specs.Calls as machine
use Rattle.machine.specs.Calls.{store}
use Rattle.state_lines.specs.declared.lines.Store.{Store}

abbrev pub stored : Store → machine.Store
stored s = store (take s.table_words s.table) s.queue (take s.scratch_words s.scratch)
