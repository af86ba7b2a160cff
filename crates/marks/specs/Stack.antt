-- The pending cells as a stack threaded through the marks: a cell's word is 0 while it is not met, 1 once its fields are followed,
-- else 2 plus the number of the next pending cell, or 2 at the last one.
use Rattle.std.specs.Prelude.{◌≡◌, Bool, true, false, cond, ◌&&◌, List, [], ◌∷◌, ℕ, zero, suc, pred, ◌+◌, ◌-◌, ◌<◌, ◌≤◌, eqb, length, get_or, set, drop}
use Rattle.machine.specs.Words.{is_cell, most_cells}
use Rattle.machine.specs.Table.{left, right, table_length, scratch_words, word_at}
use Rattle.machine.specs.Packets.{contains}
use Rattle.machine.specs.Reached.{is_root, points_to, reached_by}
use Rattle.marks.specs.Marks.{is_marked}

-- the scratch, and the first pending cell or 0
pub record Stack : Type 0 where
  pub words : List ℕ
  pub top : ℕ

abbrev pub stack : List ℕ → ℕ → Stack
stack s top = record { words = s; top = top }

unfoldable pub unmet : ℕ → ℕ → List ℕ → Bool
unmet c w s = is_cell c w && eqb (get_or s (pred w) 0) 0

-- the word w met: a cell not met before is pending
unfoldable pub pushed : ℕ → ℕ → Stack → Stack
pushed c w st = cond (unmet c w st.words) (stack (set st.words (pred w) (st.top + 2)) w) st

-- the cell at index i, if it is a root; the first n cells
unfoldable pub pushed_if_rooted : List ℕ → ℕ → ℕ → Stack → Stack
pushed_if_rooted t c i st = cond (is_root t i) (pushed c (suc i) st) st

unfoldable pub pushed_rooted : List ℕ → ℕ → ℕ → Stack → Stack
pushed_rooted t c zero st = st
pushed_rooted t c (suc n) st = pushed_if_rooted t c n (pushed_rooted t c n st)

-- the first pending cell taken off and its fields followed
unfoldable pub visited : List ℕ → ℕ → Stack → Stack
visited t c st =
    pushed c (word_at t (pred st.top) right)
    (pushed c (word_at t (pred st.top) left)
    (stack (set st.words (pred st.top) 1) (get_or st.words (pred st.top) 0 - 2)))

-- what the code leaves is the stack st, whose first pending cell is a cell of c or 0
pub record Pushes (c : ℕ) (left st : Stack) : Type 0 where
  pub same : left ≡ st
  pub below : left.top ≤ c

-- the pending cells' indices, from the number w on: each word links to the next cell, and no cell is met twice
abbrev pub Chained : ℕ → List ℕ → ℕ → List ℕ → Type 0
Chained c s w [] = w ≡ 0
Chained c s w (i ∷ is) = (w ≡ suc i) × (i < c) × (2 ≤ get_or s i 0) × (contains is i ≡ false) × Chained c s (get_or s i 0 - 2) is

-- of c cells all those with a link are pending
pub record Threaded (c : ℕ) (st : Stack) : Type 0 where
  pub enough : scratch_words c ≤ length st.words
  pub pending : List ℕ
  pub chained : Chained c st.words st.top pending
  pub all : ((i : ℕ) → i < c → 2 ≤ get_or st.words i 0 → contains pending i ≡ true)

-- a table of c cells, and the first pending cell with its link
pub record Visitable (c : ℕ) (t : List ℕ) (st : Stack) : Type 0 where
  pub room : table_length c ≤ length t
  pub enough : scratch_words c ≤ length st.words
  pub most : c ≤ most_cells
  pub some : 1 ≤ st.top
  pub below : st.top ≤ c
  pub linked : 2 ≤ get_or st.words (st.top - 1) 0
  pub onward : get_or st.words (st.top - 1) 0 ≤ c + 2

-- no cell's fields are followed yet
pub record Followable (c : ℕ) (t : List ℕ) (st : Stack) : Type 0 where
  pub room : table_length c ≤ length t
  pub most : c ≤ most_cells
  pub threaded : Threaded c st
  pub none : ((i : ℕ) → i < c → get_or st.words i 0 ≡ 1 → ⊥)

-- the scratch s' marks what the cells marked in s lead to
pub record Follows (c : ℕ) (t s s' : List ℕ) : Type 0 where
  pub marks : ((i : ℕ) → i < c → is_marked s' i ≡ reached_by c (is_marked s) (points_to t) i)
  pub past : drop (scratch_words c) s' ≡ drop (scratch_words c) s
