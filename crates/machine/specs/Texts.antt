-- Rule text in and out (document 02, A4): the cells that a tree takes, and the tree that a word opens out into.
use Rattle.std.specs.Prelude.{◌≡◌, Bool, true, false, cond, ◌&&◌, List, ℕ, zero, suc, ◌+◌, ◌-◌}
use Rattle.notation.specs.Trees.{Tree, nil, atom, pair}
use Rattle.notation.specs.Print.{print}
use Rattle.machine.specs.Words.{is_cell, is_atom, first_atom, may_be_stored}
use Rattle.machine.specs.Table.{left, right, capacity}
use Rattle.machine.specs.Calls.{Reply, value, refused, idle, applied, sound, broken, text, Store, field}
use Rattle.machine.specs.Step.{Outcome}

-- what is built of a tree: its word, and the store afterwards
pub record Built : Type 0 where
  pub word : ℕ
  pub after : Store

abbrev pub built : ℕ → Store → Built
built w s = record { word = w; after = s }

-- the new cell that a cons replies; on a sound store none of those here is refused
abbrev pub new_word : Reply → ℕ
new_word (value w) = w
new_word (refused n) = 0
new_word idle = 0
new_word (applied k n) = 0
new_word sound = 0
new_word (broken n) = 0
new_word (text bs) = 0

abbrev pub built_pair : Outcome → Built
built_pair o = built (new_word o.reply) o.after

-- Building by a cons: what the left part needs, what the right part needs, then the pair. So a list's elements come left to right, then the list's own
-- pairs, last to first.
unfoldable pub build_by : (Store → ℕ → ℕ → Outcome) → Store → Tree → Built
build_by cons s nil = built 0 s
build_by cons s (atom v) = built (first_atom + v) s
build_by cons s (pair a d) =
    let x = build_by cons s a in
    let y = build_by cons x.after d in
    built_pair (cons y.after x.word y.word)

-- the words of all atoms in a tree may be stored
unfoldable pub atoms_storable : Tree → Bool
atoms_storable nil = true
atoms_storable (atom v) = may_be_stored (first_atom + v)
atoms_storable (pair a d) = atoms_storable a && atoms_storable d

-- what a word that is no cell opens out into
unfoldable pub leaf : ℕ → Tree
leaf w = cond (is_atom w) (atom (w - first_atom)) nil

-- the tree that a word opens out into: a cell is a pair of what its fields open out into, so a shared cell comes in copies, and a ring in none
pub data OpensOut (t : List ℕ) : ℕ → Tree → Type 0 where
  ends : (w : ℕ) → is_cell (capacity t) w ≡ false → OpensOut t w (leaf w)
  opens : (w : ℕ) {a d : Tree} → is_cell (capacity t) w ≡ true → OpensOut t (field t w left) a → OpensOut t (field t w right) d → OpensOut t w (pair a d)

-- as far as n pairs below one another, and nil below them
unfoldable pub opened : ℕ → List ℕ → ℕ → Tree
opened zero t w = leaf w
opened (suc n) t w = cond (is_cell (capacity t) w) (pair (opened n t (field t w left)) (opened n t (field t w right))) (leaf w)

-- The text of a word as far as so much room can tell: each pair has a byte before those of its parts, so all bytes that fit, and the first that does not,
-- are those of the tree opened one pair further than there is room.
unfoldable pub text_for : ℕ → List ℕ → ℕ → List ℕ
text_for room t w = print (opened (suc room) t w)
