-- The walk through a text: what is left to write at a stop, and what a step does.
use Rattle.std.specs.Prelude.{◌≡◌, false, cond, List, [], ◌∷◌, ◌++◌, ℕ, zero, suc, ◌+◌, ◌-◌, ◌≤◌, length, take, get_or}
use Rattle.notation.specs.Grammar.{open_byte}
use Rattle.notation.specs.Brackets.{most_open, open_after, too_deep, first_met}
use Rattle.notation.specs.Parts.{Part, element, rest, shown}
use Rattle.machine.specs.Words.{is_cell, is_atom, first_atom}
use Rattle.machine.specs.Table.{left, right, capacity}
use Rattle.machine.specs.Calls.{field}
use Rattle.machine.specs.Texts.{opened, text_for}
use Rattle.printer.specs.declared.walk.Kind.{Kind}
use Rattle.printer.specs.declared.walk.Piece.{Piece}
use Rattle.printer.specs.declared.walk.Walk.{Walk}
use Rattle.printer.specs.declared.walk.Step.{Step}
use Rattle.printer.specs.Pieces.{bytes_of}

-- before the whole text of a word
abbrev pub first_stop : ℕ → Walk
first_stop w = record { word = w; depth = 0; behind = false }

-- what a word opens out into, one pair far
unfoldable pub kind_of : List ℕ → ℕ → Kind
kind_of t w =
    cond (is_cell (capacity t) w) (Kind.Pair (field t w left) (field t w right))
    (cond (is_atom w) (Kind.Atom (w - first_atom))
    Kind.Nil)

-- a word left to write, as an element or as the rest of an open list
pub record Item : Type 0 where
  pub part : Part
  pub word : ℕ

abbrev pub item : Part → ℕ → Item
item p w = record { part = p; word = w }

-- the rests of so many open lists, the innermost first
unfoldable pub rests_of : ℕ → List ℕ → List Item
rests_of zero rests = []
rests_of (suc n) rests = item rest (get_or rests n 0) ∷ rests_of n rests

-- what is left at a stop
unfoldable pub items_of : Walk → List ℕ → List Item
items_of w rests = cond w.behind (rests_of w.depth rests) (item element w.word ∷ rests_of w.depth rests)

-- their text, each opened n pairs far, and the first n bytes of it, which more pairs would not change
unfoldable pub text_of : ℕ → List ℕ → List Item → List ℕ
text_of n t [] = []
text_of n t (i ∷ is) = shown i.part (opened n t i.word) ++ text_of n t is

unfoldable pub ahead : ℕ → List ℕ → List Item → List ℕ
ahead n t is = take n (text_of n t is)

-- the brackets open behind some bytes
unfoldable pub open_behind : ℕ → List ℕ → ℕ
open_behind n [] = n
open_behind n (b ∷ bs) = open_behind (open_after n b) bs

-- a step over a piece, from what is left before it, with n brackets open, to the stop behind it
pub record Moved (t : List ℕ) (n : ℕ) (is : List Item) (p : Piece) (w : Walk) (rests : List ℕ) : Type 0 where
  pub text : (k : ℕ) → ahead k t is ≡ take k (bytes_of p ++ ahead k t (items_of w rests))
  pub within : too_deep n (bytes_of p) ≡ false
  pub depth : w.depth ≡ open_behind n (bytes_of p)
  pub most : w.depth ≤ most_open

-- no step, since the next byte is a bracket too many
pub record Refused (t : List ℕ) (n : ℕ) (is : List Item) : Type 0 where
  pub full : n ≡ most_open
  pub bracket : (k : ℕ) → take 1 (ahead (suc k) t is) ≡ open_byte ∷ []

abbrev pub Stepped : List ℕ → ℕ → List Item → Step → List ℕ → Type 0
Stepped t n is Step.Ended rests = is ≡ []
Stepped t n is Step.TooDeep rests = Refused t n is
Stepped t n is (Step.Next p w) rests = Moved t n is p w rests

-- Of the text of w for so much room the bytes `done` are written, n brackets are open and these items are left. More bytes than one past the room are
-- never looked at.
pub record Written (room : ℕ) (t : List ℕ) (w : ℕ) (done : List ℕ) (n : ℕ) (is : List Item) : Type 0 where
  pub fits : length done ≤ room
  pub text : done ++ ahead (suc (room - length done)) t is ≡ take (suc room) (text_for room t w)
  pub met : first_met (room - length done) n (ahead (suc (room - length done)) t is) ≡ first_met room 0 (text_for room t w)

-- Measuring, at a stop: some bytes are counted, so much room is left.
pub record Measuring (room : ℕ) (t : List ℕ) (w left : ℕ) (stop : Walk) (rests : List ℕ) : Type 0 where
  pub done : List ℕ
  pub count : length done + left ≡ room
  pub most : stop.depth ≤ most_open
  pub stack : length rests ≡ most_open
  pub written : Written room t w done stop.depth (items_of stop rests)

-- Filling a part of n bytes, at a stop: the bytes before `at` are written.
pub record Filling (n : ℕ) (t : List ℕ) (w : ℕ) (part : List ℕ) (at : ℕ) (stop : Walk) (rests : List ℕ) : Type 0 where
  pub size : length part ≡ n
  pub within : at ≤ n
  pub most : stop.depth ≤ most_open
  pub stack : length rests ≡ most_open
  pub written : Written n t w (take at part) stop.depth (items_of stop rests)
