-- What fresh makes of any table that is long enough.
use mathlib.Core.Path.{◌≡◌, refl, sym, ap, ◌∙◌}
use mathlib.Core.Logic.{⊎_elim}
use mathlib.Core.Bool.{cond}
use mathlib.Core.List.{List}
use Prim.Native.Nat.{ℕ, zero, suc, ◌+◌, ◌*◌, ◌≤◌, ◌<◌}
use native.Mathlib.Omega.{arith}
use native.Mathlib.Nat.{not-suc-le-zero}
use lib.Dec.{eqb}
use lib.ListN.{length, get_or, set, drop, length-set}
use lib.Seq.{get_or-set_same, drop-set-lt}
use borrow.Author.Tests.{eq-eqb, ne_eqb}
use Rattle.machine.specs.Table.{header, stride, left, free_cell, capacity, first_free, last_free, table_length, word_at, put_ends, put_cell}
use Rattle.machine.specs.Calls.{chained, fresh_table}
use Rattle.machine.specs.Facts.{FreshTable}
use Rattle.machine.proofs.Range.{below_suc}
use Rattle.machine.proofs.Table.{Inside, room, cell_word, free_word, cell_other, length_put_cell, capacity_put_cell, first_free_put_cell, last_free_put_cell, past_put_cell, length_put_ends, capacity_put_ends, first_free_put_ends, last_free_put_ends, past_put_ends}

-- the left word of the cell at index i in a chain of c
abbrev next_of : ℕ → ℕ → ℕ
next_of c i = cond (eqb (suc i) c) 0 (suc (suc i))

record Chained (c n : ℕ) (t t' : List ℕ) : Type 0 where
  same_length : length t' ≡ length t
  same_capacity : capacity t' ≡ capacity t
  same_first : first_free t' ≡ first_free t
  same_last : last_free t' ≡ last_free t
  past_cells : drop (table_length c) t' ≡ drop (table_length c) t
  words : (i k : ℕ) → i < n → k < stride → word_at t' i k ≡ get_or (free_cell (next_of c i)) k 0

module _ (c : ℕ) (t : List ℕ) (f : table_length c ≤ length t) where
  chained_is : (n : ℕ) → n ≤ c → Chained c n t (chained c n t)
  unfolding chained
  chained_is zero h = record { same_length = refl; same_capacity = refl; same_first = refl; same_last = refl; past_cells = refl; words = λ i k l. absurd (not-suc-le-zero l) }
  chained_is (suc n) h = further (chained_is n (omega arith))
    where
      u : List ℕ
      u = chained c n t

      v : List ℕ
      v = put_cell u n (free_cell (next_of c n))

      further : Chained c n t u → Chained c (suc n) t v
      further ih = record {
        same_length = length_put_cell u n (free_cell (next_of c n)) ∙ ih.same_length;
        same_capacity = capacity_put_cell u n (free_cell (next_of c n)) refl ∙ ih.same_capacity;
        same_first = first_free_put_cell u n (free_cell (next_of c n)) refl ∙ ih.same_first;
        same_last = last_free_put_cell u n (free_cell (next_of c n)) refl ∙ ih.same_last;
        past_cells = past_put_cell u c n (free_cell (next_of c n)) refl h ∙ ih.past_cells;
        words = λ i k l m. ⊎_elim (λ b. cell_other u n (free_cell (next_of c n)) refl i k m (omega arith) ∙ ih.words i k b m) (λ e. here i k e m) (below_suc l);
      }
        where
          inside : Inside u n
          inside = room u c n (rw ih.same_length f) h

          here : (i k : ℕ) → i ≡ n → k < stride → word_at v i k ≡ get_or (free_cell (next_of c i)) k 0
          here i k e m =
              ap (λ (j : ℕ). word_at v j k) e
              ∙ cell_word u n (free_cell (next_of c n)) refl inside k m
              ∙ ap (λ (j : ℕ). get_or (free_cell (next_of c j)) k 0) (sym e)

  -- the header, before the chain is written
  abbrev headed : List ℕ
  headed = put_ends (set t 0 c) 1 c

  headed_length : length headed ≡ length t
  headed_length = length_put_ends (set t 0 c) 1 c ∙ length-set t 0 c

next_is : (c i : ℕ) → suc i < c → next_of c i ≡ suc (suc i)
next_is c i l = rw (ne_eqb (suc i) c (omega arith))

end_is : (c i : ℕ) → suc i ≡ c → next_of c i ≡ 0
end_is c i e = rw (eq-eqb (suc i) c e)

three : (c : ℕ) (t : List ℕ) → table_length c ≤ length t → 2 < length t
three c t f = omega arith

capacity_set : (c : ℕ) (t : List ℕ) → 2 < length t → capacity (set t 0 c) ≡ c
unfolding capacity
capacity_set c t l = get_or-set_same t 0 c 0 (omega arith)

past_set : (c : ℕ) (t : List ℕ) → drop (table_length c) (set t 0 c) ≡ drop (table_length c) t
past_set c t = drop-set-lt (header + stride * c) t 0 c (omega arith)

pub fresh_is : (c : ℕ) (t : List ℕ) → table_length c ≤ length t → FreshTable c t (fresh_table c t)
unfolding fresh_table
fresh_is c t f =
    let k = chained_is c (put_ends (set t 0 c) 1 c) (rw (headed_length c t f) f) c (omega arith) in
    let long : 2 < length (set t 0 c) = rw length-set (three c t f) in
    record {
      same_length = k.same_length ∙ headed_length c t f;
      new_capacity = k.same_capacity ∙ capacity_put_ends (set t 0 c) 1 c ∙ capacity_set c t (three c t f);
      new_first = k.same_first ∙ first_free_put_ends (set t 0 c) 1 c long;
      new_last = k.same_last ∙ last_free_put_ends (set t 0 c) 1 c long;
      past_cells = k.past_cells ∙ past_put_ends (set t 0 c) c 1 c ∙ past_set c t;
      next = λ i l. k.words i left (omega arith) (omega arith) ∙ next_is c i l;
      end = λ i e. k.words i left (omega arith) (omega arith) ∙ end_is c i e;
      zeros = λ i m l low high. k.words i m l (omega arith) ∙ free_word (next_of c i) m low high;
    }
