-- What a line does to the store, from the store's promise alone: every call here is any that keeps it. The proof is `promised` in proofs/Promised.
use Rattle.std.specs.Prelude.{◌≡◌, true, false, List, [], ℕ, ◌-◌, ◌≤◌}
use Rattle.machine.specs.declared.Queue.{Queue}
use Rattle.machine.specs.Words.{is_cell}
use Rattle.machine.specs.Calls.{fresh, row, step, down, read, write, Reply, text, Store, store}
use Rattle.machine.specs.Promise.{Promise}
use Rattle.rule_lines.specs.Answers.{store_cells, answer_of, most_answer}
use Rattle.rule_lines.specs.Stores.{Clean, Holding, ReadBack, Reads, Freshens}

pub record Promised : Type 0 where
  -- a fresh of 64 cells makes a table clean
  pub freshens : (t : List ℕ) (q : Queue) (r : Reply) (t' : List ℕ) (q' : Queue) → Promise (store t q []) (fresh store_cells) r (store t' q' []) → Freshens t t' q'
  -- on a clean store reading a line is answered by the line alone: 11, 12, 14 or 7, and nothing changes; or its word is held, and nothing else
  pub reads : (t : List ℕ) (q : Queue) (scratch line : List ℕ) (r : Reply) (t' : List ℕ) (q' : Queue)
      → Clean t q scratch → Promise (store t q []) (read line) r (store t' q' []) → Reads line t q scratch r t' q'
  -- writing that word replies the line's answer, into any room that is enough for 64 pairs
  pub writes : (line : List ℕ) (w : ℕ) (t : List ℕ) (q : Queue) (scratch : List ℕ) (room : ℕ) (r : Reply) (after : Store)
      → ReadBack line w t q scratch → most_answer ≤ room → Promise (store t q []) (write w room) r after → r ≡ text (answer_of line)
  -- a step takes one packet, if any waits, and moves no hold
  pub steps : (w : ℕ) (t : List ℕ) (q : Queue) (scratch : List ℕ) (r : Reply) (t' : List ℕ) (q' : Queue) (scratch' : List ℕ)
      → Holding w t q scratch → Promise (store t q scratch) step r (store t' q' scratch') → Holding w t' q' scratch' × (q'.count ≡ q.count - 1)
  -- with none waiting a cell's hold can be given up; a word that is no cell has none
  pub downs : (w : ℕ) (t : List ℕ) (q : Queue) (scratch : List ℕ) (r : Reply) (q' : Queue)
      → Holding w t q scratch → is_cell store_cells w ≡ true → q.count ≡ 0 → Promise (store t q []) (row (down w 1)) r (store t q' []) → Holding 0 t q' scratch
  pub none : (w : ℕ) (t : List ℕ) (q : Queue) (scratch : List ℕ) → Holding w t q scratch → is_cell store_cells w ≡ false → Holding 0 t q scratch
  -- and with nothing held and nothing waiting the store is clean
  pub cleans : (t : List ℕ) (q : Queue) (scratch : List ℕ) → Holding 0 t q scratch → q.count ≡ 0 → Clean t q scratch
