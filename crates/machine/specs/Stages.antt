-- The stages of a packet: the tables on its way through the changes, one by one in figure 8's order (document 02, A3); worked cases, by computation.
use Rattle.std.specs.Prelude.{◌≡◌, true, List, [], ◌∷◌, map, ℕ, suc, length, take}
use Rattle.machine.specs.Range.{select}
use Rattle.machine.specs.Queue.{Packet, packet, empty_queue, appended}
use Rattle.machine.specs.Packets.{Change, root_down, cell_up, cell_down, changes}
use Rattle.machine.specs.Step.{apply_changes}
use Rattle.machine.specs.Audit.{Sound}
use Rattle.machine.specs.Worked.{table_of, cell_of}

-- the table when the first n changes of the packet are made
unfoldable pub stage : List ℕ → Packet → ℕ → List ℕ
stage t p n = apply_changes t (take n (changes p))

-- every stage, from before the first change to after the last
abbrev stages : List ℕ → Packet → List (List ℕ)
stages t p = map (stage t p) (select (suc (length (changes p))) (λ n. true))

-- two cells with these root and cell counts, the second's left field pointing to the first; one packet names the first twice and the second once
abbrev counted : ℕ → ℕ → ℕ → ℕ → List ℕ
counted r c s d = table_of 0 0 (cell_of 0 0 r c 2 ∷ cell_of 1 0 s d 1 ∷ []) []

-- a packet taken from a table, and the tables that it passes through
pub record Way : Type 0 where
  pub table : List ℕ
  pub taken : Packet
  pub passes : List (List ℕ)

abbrev way : List ℕ → Packet → List (List ℕ) → Way
way t p ts = record { table = t; taken = p; passes = t ∷ ts }

abbrev pub Goes : Way → Type 0
Goes w = stages w.table w.taken ≡ w.passes

abbrev pub AllGo : List Way → Type 0
AllGo [] = Unit {0}
AllGo (w ∷ ws) = Goes w × AllGo ws

-- root counts 5 and 6, cell counts 7 and 8
abbrev busy : List ℕ
busy = counted 5 7 6 8

abbrev pub figure_8 : List Way
figure_8 =
    -- a read of cell 1 that gives cell 2
    way busy (packet 1 1 2 0) (counted 4 7 6 8 ∷ counted 4 7 7 8 ∷ [])
    -- cons of 1 and 2, of 2 and 1, of 1 and 1, of an atom and 2
    ∷ way busy (packet 2 1 2 2) (counted 4 7 6 8 ∷ counted 4 8 6 8 ∷ counted 4 8 5 8 ∷ counted 4 8 5 9 ∷ [])
    ∷ way busy (packet 2 2 1 2) (counted 5 7 5 8 ∷ counted 5 7 5 9 ∷ counted 4 7 5 9 ∷ counted 4 8 5 9 ∷ [])
    ∷ way busy (packet 2 1 1 2) (counted 4 7 6 8 ∷ counted 4 8 6 8 ∷ counted 3 8 6 8 ∷ counted 3 9 6 8 ∷ [])
    ∷ way busy (packet 2 32768 2 2) (busy ∷ busy ∷ counted 5 7 5 8 ∷ counted 5 7 5 9 ∷ [])
    -- a replace, left and right, that puts in 1 and detaches 2
    ∷ way busy (packet 3 1 2 2) (counted 4 7 6 8 ∷ counted 4 8 6 8 ∷ counted 4 8 6 7 ∷ [])
    ∷ way busy (packet 6 1 2 2) (counted 4 7 6 8 ∷ counted 4 8 6 8 ∷ counted 4 8 6 7 ∷ [])
    -- up and down by 3
    ∷ way busy (packet 4 1 3 0) (counted 8 7 6 8 ∷ [])
    ∷ way busy (packet 5 1 3 0) (counted 2 7 6 8 ∷ [])
    ∷ []

-- replaces of cell 1 by itself: its cell count rises before it falls, and so stands at 4,096 in passing
abbrev itself : Packet
itself = packet 3 1 1 2

abbrev pub by_itself : List Way
by_itself =
    way busy itself (counted 4 7 6 8 ∷ counted 4 8 6 8 ∷ counted 4 7 6 8 ∷ [])
    ∷ way (counted 5 4095 6 8) itself (counted 4 4095 6 8 ∷ counted 4 4096 6 8 ∷ counted 4 4095 6 8 ∷ [])
    ∷ []

-- the wrong order: the detached cell falls before the word put in rises
abbrev detached_first : ℕ → ℕ → List Change
detached_first a b = root_down a 1 ∷ cell_down b 1 ∷ cell_up a 1 ∷ []

-- a sound store whose cell 1 has one hold and one pointer, which is replaced by itself
abbrev once : List ℕ
once = counted 1 1 1 0

pub record StageCases : Type 0 where
  pub figure_8 : AllGo figure_8
  pub by_itself : AllGo by_itself
  -- on this sound store cell 1 keeps a count at every stage; in the wrong order it has none in passing, though cell 2 points to it
  pub once_sound : Sound once (appended empty_queue itself)
  pub once_passes : Goes (way once itself (counted 0 1 1 0 ∷ counted 0 2 1 0 ∷ counted 0 1 1 0 ∷ []))
  pub detached_passes : apply_changes once (take 2 (detached_first 1 1)) ≡ counted 0 0 1 0
  -- and where the count is 0 the wrong order lowers it no further, and leaves another table
  pub detached_trims : apply_changes (counted 1 0 1 0) (detached_first 1 1) ≡ apply_changes (counted 1 0 1 0) (changes itself) → ⊥
