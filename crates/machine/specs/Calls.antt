-- The calls, their replies, and what an accepted fresh or row call does (source 001's P1 to P5, figure 7, as document 01 amends them).
use Rattle.std.specs.Prelude.{Bool, false, cond, List, [], ◌∷◌, ℕ, zero, suc, pred, eqb, set}
use Rattle.machine.specs.declared.Queue.{Queue}
use Rattle.machine.specs.Words.{is_nil}
use Rattle.machine.specs.Table.{left, right, first_free, last_free, word_at, put_word, new_cell, free_cell, put_ends, put_cell}
use Rattle.machine.specs.Queue.{Packet, packet}

pub data RowCall : Type 0 where
  car : ℕ → RowCall
  cdr : ℕ → RowCall
  cons : ℕ → ℕ → RowCall
  set_left : ℕ → ℕ → RowCall
  set_right : ℕ → ℕ → RowCall
  up : ℕ → ℕ → RowCall
  down : ℕ → ℕ → RowCall

pub data Call : Type 0 where
  fresh : ℕ → Call
  row : RowCall → Call
  step : Call
  audit : Call
  -- rule text (document 02, A4): the text's bytes; the word, and the room in the buffer lent for its text
  read : List ℕ → Call
  write : ℕ → ℕ → Call

-- a reply with the paper's numbers
pub data Reply : Type 0 where
  value : ℕ → Reply
  refused : ℕ → Reply
  idle : Reply
  applied : ℕ → ℕ → Reply
  sound : Reply
  broken : ℕ → Reply
  -- the text written, the front of the buffer
  text : List ℕ → Reply

-- what is lent to a call; a row call and fresh are lent no scratch
pub record Store : Type 0 where
  pub table : List ℕ
  pub queue : Queue
  pub scratch : List ℕ

abbrev pub store : List ℕ → Queue → List ℕ → Store
store t q s = record { table = t; queue = q; scratch = s }

-- the field of the cell whose number is x
unfoldable pub field : List ℕ → ℕ → ℕ → ℕ
field t x k = word_at t (pred x) k

-- the table of kinds, read by calls: the packet of a row call
unfoldable pub packet_of : List ℕ → RowCall → Packet
packet_of t (car x) = packet 1 x (field t x left) 0
packet_of t (cdr x) = packet 1 x (field t x right) 0
packet_of t (cons x y) = packet 2 x y (first_free t)
packet_of t (set_left x y) = packet 3 y (field t x left) x
packet_of t (set_right x y) = packet 6 y (field t x right) x
packet_of t (up x n) = packet 4 x n 0
packet_of t (down x n) = packet 5 x n 0

-- a read of nil, the end of a list (document 02, A1)
unfoldable pub reads_nil : RowCall → Bool
reads_nil (car x) = is_nil x
reads_nil (cdr x) = is_nil x
reads_nil (cons x y) = false
reads_nil (set_left x y) = false
reads_nil (set_right x y) = false
reads_nil (up x n) = false
reads_nil (down x n) = false

-- the packets that an accepted row call queues: its one, or none if it reads nil
abbrev pub packets_of : List ℕ → RowCall → List Packet
packets_of t r = cond (reads_nil r) [] (packet_of t r ∷ [])

-- remove_cell: the first free cell leaves the chain; the last one leaves both ends 0
unfoldable pub without_first : List ℕ → List ℕ
without_first t =
    let next = field t (first_free t) left in
    put_ends t next (cond (eqb next 0) 0 (last_free t))

-- fields are written during the call; a new cell gets both operands
unfoldable pub written : List ℕ → RowCall → List ℕ
written t (car x) = t
written t (cdr x) = t
written t (cons x y) = put_cell (without_first t) (pred (first_free t)) (new_cell x y)
written t (set_left x y) = put_word t (pred x) left y
written t (set_right x y) = put_word t (pred x) right y
written t (up x n) = t
written t (down x n) = t

-- the word that a read of x gives: its field k; nil of nil
unfoldable pub word_read : List ℕ → ℕ → ℕ → ℕ
word_read t x k = cond (is_nil x) 0 (field t x k)

-- the new cell, the word read, the word detached, else 0
unfoldable pub value_of : List ℕ → RowCall → ℕ
value_of t (car x) = word_read t x left
value_of t (cdr x) = word_read t x right
value_of t (cons x y) = first_free t
value_of t (set_left x y) = field t x left
value_of t (set_right x y) = field t x right
value_of t (up x n) = 0
value_of t (down x n) = 0

-- the first n cells as a chain, of c in all
unfoldable pub chained : ℕ → ℕ → List ℕ → List ℕ
chained c zero t = t
chained c (suc i) t = put_cell (chained c i t) i (free_cell (cond (eqb (suc i) c) 0 (suc (suc i))))

-- fresh: C in the header, the chain 1 to C; words past the cells stand
unfoldable pub fresh_table : ℕ → List ℕ → List ℕ
fresh_table c t = chained c c (put_ends (set t 0 c) 1 c)
