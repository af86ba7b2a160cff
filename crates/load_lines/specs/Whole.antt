-- The whole load: the outputs of the parts joined are the listing of the inputs joined, however the input is parted and whatever buffers are lent. The
-- proof is `whole` in proofs/Theorem.
use Rattle.std.specs.Prelude.{◌≡◌, Option, false, List, ℕ, length, take, replicate}
use Rattle.machine.specs.Words.{most_cells}
use Rattle.machine.specs.Table.{table_length, scratch_words}
use Rattle.line_text.specs.Kept.{kept_bytes, Keeps}
use Rattle.serving.specs.Chain.{Linked, last_of, joined}
use Rattle.traffic.specs.declared.Workload.{Workload}
use Rattle.traffic.specs.Workload.{workload_of}
use Rattle.load_lines.specs.declared.Load.{Load}
use Rattle.load_lines.specs.Listing.{listing}
use Rattle.load_lines.specs.Progress.{started, is_more, Writes}

-- what is kept of the input: the first bytes of a line's buffer
pub record Kept : Type 0 where
  pub line : List ℕ
  pub held : ℕ

abbrev pub kept_input : Kept → List ℕ
kept_input k = take k.held k.line

-- one call of line_text's `keep`: a part of the input, and what is kept then
pub record Read : Type 0 where
  pub part : List ℕ
  pub after : Kept

abbrev pub kept : Read → Kept
kept r = r.after

abbrev pub part : Read → List ℕ
part r = r.part

-- each call is handed what the last one kept
abbrev pub KeptPart : Kept → Read → Type 0
KeptPart k r = Keeps k.line k.held r.part r.after.line r.after.held

abbrev pub Reads : Kept → List Read → Type 0
Reads k rs = Linked KeptPart kept k rs

abbrev pub last_kept : Kept → List Read → Kept
last_kept k rs = last_of kept k rs

abbrev pub inputs : List Read → List ℕ
inputs rs = joined part rs

-- a load beside the table and scratch lent to it
pub record State : Type 0 where
  pub load : Load
  pub table : List ℕ
  pub scratch : List ℕ

-- one call of `next`: the buffer lent, of which it wrote so much, and the state it left
pub record Part : Type 0 where
  pub buffer : List ℕ
  pub written : ℕ
  pub after : State

abbrev pub left : Part → State
left p = p.after

abbrev pub written : Part → List ℕ
written p = take p.written p.buffer

-- each call is handed the state that the last one left, and keeps the promise of `next`
abbrev pub WrotePart : State → Part → Type 0
WrotePart s p =
    Writes s.load s.table s.scratch p.after.load p.written p.after.table p.after.scratch p.buffer

abbrev pub Wrote : State → List Part → Type 0
Wrote s ps = Linked WrotePart left s ps

abbrev pub last_state : State → List Part → State
last_state s ps = last_of left s ps

abbrev pub outputs : List Part → List ℕ
outputs ps = joined written ps

-- nothing kept yet, in a buffer that may hold anything
abbrev pub nothing : List ℕ → Kept
nothing line = record { line = line; held = 0 }

-- a table for 4,096 cells, zero before a fresh
abbrev pub begin : Option Workload → State
begin w = record { load = started w; table = replicate (table_length most_cells) 0; scratch = replicate (scratch_words most_cells) 0 }

-- any input, in parts of any size, and buffers of any size, until there is no more to write
abbrev pub Whole : Type 0
Whole = (line : List ℕ) (reads : List Read) (parts : List Part)
    → length line ≡ kept_bytes
    → Reads (nothing line) reads
    → Wrote (begin (workload_of (kept_input (last_kept (nothing line) reads)))) parts
    → is_more (last_state (begin (workload_of (kept_input (last_kept (nothing line) reads)))) parts).load ≡ false
    → outputs parts ≡ listing (inputs reads)
