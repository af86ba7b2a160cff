-- How far a session has come: what is still to be written follows from its state and the input to come.
use Rattle.std.specs.Prelude.{◌≡◌, Option, IsSome, MatchOption, List, [], ◌∷◌, ◌++◌, ℕ, ◌+◌, ◌^◌, ◌≤◌, ◌<◌, length, take, replicate}
use Rattle.base_ten.specs.Bytes.{line_feed, lines_of}
use Rattle.base_ten.specs.Lines.{onto}
use Rattle.machine.specs.declared.Queue.{Queue}
use Rattle.machine.specs.Queue.{empty_queue}
use Rattle.machine.specs.Calls.{Store, store}
use Rattle.line_text.specs.Kept.{kept_bytes}
use Rattle.line_text.specs.Texts.{room}
use Rattle.session_lines.specs.declared.Session.{Session}
use Rattle.session_lines.specs.Listing.{listed}
use Rattle.serving.specs.Serving.{Good}

-- before any input
abbrev pub started : Session
started = record { line = replicate kept_bytes 0; held = 0; lines = 0; queue = empty_queue }

-- a session is told by its four parts
abbrev pub session_of : List ℕ → ℕ → ℕ → Queue → Session
session_of line held lines queue = record { line = line; held = held; lines = lines; queue = queue }

abbrev pub begun_line : Session → List ℕ
begun_line s = take s.held s.line

-- the output still to come when this is the rest of the input
unfoldable pub ahead : Session → List ℕ → List ℕ → List ℕ → List ℕ
ahead s t scratch rest = listed s.lines (store t s.queue scratch) (onto (begun_line s) (lines_of rest))

-- A whole line after `lines` others gives the text, and the store afterwards is good; line numbers are below 2^64.
pub record TellsLine (line : List ℕ) (lines : ℕ) (s : Store) (text : List ℕ) (lines' : ℕ) (s' : Store) : Type 0 where
  pub good : Good s.table s.queue → Good s'.table s'.queue
  pub counted : lines' ≤ lines + 1
  pub listing : Good s.table s.queue → lines + 1 < 2 ^ 64 → (rest : List (List ℕ)) → listed lines s (line ∷ rest) ≡ text ++ listed lines' s' rest

-- With the store t and scratch, the input x takes the session s to s' and gives the output y.
pub record Tells (s : Session) (t scratch x y : List ℕ) (s' : Session) (t' scratch' : List ℕ) : Type 0 where
  pub good : Good t s.queue → Good t' s'.queue
  pub counted : s'.lines ≤ s.lines + length x
  pub listing : Good t s.queue → s.lines + length x < 2 ^ 64 → (rest : List ℕ) → ahead s t scratch (x ++ rest) ≡ y ++ ahead s' t' scratch' rest

-- Of an input some is taken, and all of it if the buffer has room; the buffer's front is the output for what was taken.
pub record Feeds (s : Session) (t scratch input : List ℕ) (s' : Session) (taken written : ℕ) (t' scratch' out : List ℕ) : Type 0 where
  pub most : taken ≤ length input
  pub within : written ≤ length out
  pub some : 0 < length input → room ≤ length out → 0 < taken
  pub all : written + room ≤ length out → taken ≡ length input
  pub tells : Tells s t scratch (take taken input) (take written out) s' t' scratch'

-- Besides, a line feed alone ends the line that has begun.
pub record FeedsLines (s : Session) (t scratch input : List ℕ) (s' : Session) (taken written : ℕ) (t' scratch' out : List ℕ) : Type 0 where
  pub feeds : Feeds s t scratch input s' taken written t' scratch' out
  pub closed : input ≡ line_feed ∷ [] → room ≤ length out → begun_line s' ≡ []

-- At the end of the input the buffer's front is all that was ahead.
pub record Finishes (s : Session) (t scratch : List ℕ) (written : ℕ) (out : List ℕ) : Type 0 where
  pub within : written ≤ length out
  pub listing : Good t s.queue → s.lines + 1 < 2 ^ 64 → ahead s t scratch [] ≡ take written out

-- Any buffer may be lent for that: with room for an output line all is written, and how much is told. Without room nothing may be told, and then nothing has
-- changed.
pub record FinishesWithRoom (s : Session) (t scratch out : List ℕ) (written : Option ℕ) (t' scratch' out' : List ℕ) : Type 0 where
  pub over : room ≤ length out → IsSome written
  pub finishes : MatchOption written ((t' ≡ t) × (scratch' ≡ scratch) × (out' ≡ out)) (λ n. Finishes s t scratch n out')
