-- A call's packet, what the code reads of it, and the cells of a table: no question is asked here.
use mathlib.Core.Path.{◌≡◌, refl, sym, ap, ◌∙◌}
use mathlib.Core.Bool.{true, false}
use mathlib.Core.List.{List}
use Prim.Native.Nat.{ℕ, suc, ◌-◌, ◌≤◌}
use native.Mathlib.Omega.{arith}
use lib.ListN.{length}
use Rattle.machine.specs.Words.{is_cell}
use Rattle.machine.specs.Table.{left, right, capacity, table_length, word_at}
use Rattle.machine.specs.Packets.{kind_of}
use Rattle.machine.specs.Facts.{TableShape}
use Rattle.machine.specs.Calls.{RowCall, car, cdr, cons, set_left, set_right, up, down, field, packet_of, reads_nil, value_of}
use Rattle.machine.specs.declared.RowCall as declared
use Rattle.machine.specs.Answers.{call_of}
use Rattle.machine.proofs.Words.{cell_index, cell_number_lem}
use Rattle.machine.proofs.NilReads.{word_read_lem}
use Rattle.calls.specs.Packets.{Operands, value_by}
use Rattle.calls.specs.Writes.{InTable}

-- a cell is one of the table's, as the code finds it
pub cell_inside : (t : List ℕ) (x : ℕ) → TableShape t → is_cell (capacity t) x ≡ true → InTable t x
cell_inside t x shape c = record {
  some = omega (arith, cell_number_lem (capacity t) x c);
  room = omega (arith, cell_index (capacity t) x c, cell_number_lem (capacity t) x c);
}

pub inside_field : {t : List ℕ} {x : ℕ} → InTable t x → table_length (suc (x - 1)) ≤ length t
inside_field h = omega arith

-- the field as the code reads it
pub read_back : (t : List ℕ) (x k w : ℕ) → w ≡ word_at t (x - 1) k → w ≡ field t x k
unfolding field
read_back t x k w e = e ∙ ap (λ (i : ℕ). word_at t i k) (omega arith)

-- the operands of a call that is known
pub operand : (t : List ℕ) (call r : declared.RowCall) → call ≡ r → Operands t (packet_of t (call_of call)) → Operands t (packet_of t (call_of r))
operand t call r e h = rw e at h

-- the value replied, by the packet
pub packet_value : (t : List ℕ) (r : RowCall) → reads_nil r ≡ false → let p = packet_of t r in value_by (kind_of p.kind) p.b p.c ≡ value_of t r
unfolding packet_of kind_of reads_nil value_of
packet_value t (car x) e = sym (word_read_lem t x e left)
packet_value t (cdr x) e = sym (word_read_lem t x e right)
packet_value t (cons x y) e = refl
packet_value t (set_left x y) e = refl
packet_value t (set_right x y) e = refl
packet_value t (up x n) e = refl
packet_value t (down x n) e = refl
