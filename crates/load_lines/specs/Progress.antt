-- How far a load has come: what is still to be written follows from its state.
use Rattle.std.specs.Prelude.{◌≡◌, Bool, Option, Some, None, List, [], ◌∷◌, ◌++◌, ℕ, zero, suc, ◌+◌, ◌-◌, ◌≤◌, ◌<◌, leb, length, take}
use Rattle.machine.specs.declared.Queue.{Queue}
use Rattle.machine.specs.Queue.{empty_queue}
use Rattle.machine.specs.Calls.{store}
use Rattle.line_text.specs.declared.Request.{Request}
use Rattle.line_text.specs.Texts.{room}
use Rattle.call_text.specs.CallText.{line_room}
use Rattle.serving.specs.Serving.{Good}
use Rattle.traffic.specs.declared.Workload.{Workload}
use Rattle.traffic.specs.declared.Drawn.{Drawn}
use Rattle.traffic.specs.Traffic.{drawn, call_drawn, calls_drawn}
use Rattle.load_lines.specs.declared.Load.{Load}
use Rattle.load_lines.specs.Listing.{told, bad_line}

-- the most bytes of a call's line and its reply line
abbrev pub both_room : ℕ
both_room = line_room + room

-- a load is told by its four parts
abbrev pub load_of : Option Workload → ℕ → ℕ → Queue → Load
load_of asked state done queue = record { asked = asked; state = state; done = done; queue = queue }

-- before the first line
abbrev pub started : Option Workload → Load
started (Some w) = load_of (Some w) w.seed 0 empty_queue
started None = load_of None 0 0 empty_queue

-- the call after so many: fresh is the first
abbrev pub turn : ℕ → ℕ → ℕ → Drawn
turn c s zero = drawn (Request.Fresh c) s
turn c s (suc done) = call_drawn c s

-- the calls after so many, of which fresh was the first
unfoldable pub upcoming : ℕ → ℕ → ℕ → ℕ → List Request
upcoming c s calls zero = Request.Fresh c ∷ calls_drawn c s calls
upcoming c s calls (suc done) = calls_drawn c s (calls - done)

-- the one line of an input that is no workload, until it is written
abbrev pub bad_ahead : ℕ → List ℕ
bad_ahead zero = bad_line
bad_ahead (suc done) = []

-- the output still to come, of a workload and of an input that is none
abbrev pub lines_ahead : Option Workload → Load → List ℕ → List ℕ → List ℕ
lines_ahead (Some w) l t scratch = told l.done (store t l.queue scratch) (upcoming w.cells l.state w.calls l.done)
lines_ahead None l t scratch = bad_ahead l.done

unfoldable pub ahead : Load → List ℕ → List ℕ → List ℕ
ahead l t scratch = lines_ahead l.asked l t scratch

-- what is no workload has one line to write, as a load of no calls has
abbrev pub calls_of : Option Workload → ℕ
calls_of (Some w) = w.calls
calls_of None = 0

-- nothing is left to write once more lines are done than there are calls
abbrev pub is_more : Load → Bool
is_more l = leb l.done (calls_of l.asked)

-- The buffer's front is the next of the output; with room for a call's two lines there is some, unless all is written.
pub record Writes (l : Load) (t scratch : List ℕ) (l' : Load) (written : ℕ) (t' scratch' out : List ℕ) : Type 0 where
  pub within : written ≤ length out
  pub asked : l'.asked ≡ l.asked
  pub some : l.done ≤ calls_of l.asked → both_room ≤ length out → l.done < l'.done
  pub good : Good t l.queue → Good t' l'.queue
  pub listing : Good t l.queue → ahead l t scratch ≡ take written out ++ ahead l' t' scratch'
