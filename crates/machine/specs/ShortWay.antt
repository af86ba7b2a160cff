-- The short way of a step, no part of the machine's definition: one word of the taken packet tells whether anything can be freed.
-- Where that word is no cell or still a root, all that the packet names is still reached, on a sound store (soundness/proofs/WhatWasReached):
-- b of kind 1 and a of kind 4 have their root counts raised; c of kinds 3 and 6 is held besides a, and only a's hold is given up; a of kinds 3 and 6,
-- and a and b of kind 2, are in fields of c, unless a waiting packet detached them and names them.
use Rattle.std.specs.Prelude.{Bool, not, ◌||◌, List, ℕ, pred}
use Rattle.machine.specs.Words.{is_cell}
use Rattle.machine.specs.Table.{capacity}
use Rattle.machine.specs.Queue.{Packet}
use Rattle.machine.specs.Packets.{Kind, reads, makes, replaces, raises, lowers, unknown, kind_of}
use Rattle.machine.specs.Reached.{is_root}

-- nil for none
unfoldable pub watched_of : Kind → ℕ → ℕ → ℕ → ℕ
watched_of reads a b c = a
watched_of makes a b c = c
watched_of (replaces field) a b c = b
watched_of raises a b c = 0
watched_of lowers a b c = a
watched_of unknown a b c = 0

unfoldable pub watched : Packet → ℕ
watched p = watched_of (kind_of p.kind) p.a p.b p.c

-- the word w is no cell, or a root
unfoldable pub stays_root : List ℕ → ℕ → Bool
stays_root t w = not (is_cell (capacity t) w) || is_root t (pred w)
