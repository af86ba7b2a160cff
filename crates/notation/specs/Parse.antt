-- Parsing: from bytes to tokens, and from tokens to a tree with the open lists as a stack. `Recognises` says that this is the grammar.
use Rattle.std.specs.Prelude.{Bool, true, false, cond, List, [], ◌∷◌, ◌++◌, ℕ, eqb, Option, Some, None}
use Rattle.base_ten.specs.Bytes.{space}
use Rattle.base_ten.specs.Numbers.{is_digit, number_of}
use Rattle.notation.specs.Trees.{Tree, nil, atom, pair, largest_value}
use Rattle.notation.specs.Grammar.{open_byte, close_byte, dot_byte, Token, opening, closing, dot, number}

-- a token, or what is none: another byte, or digits that are no value of an atom
pub data Mark : Type 0 where
  token : Token → Mark
  foreign : Mark

abbrev pub number_mark : Option ℕ → Mark
number_mark (Some v) = token (number v)
number_mark None = foreign

-- the digits before a mark, if there are any, are a number
abbrev pub with_digits : List ℕ → List Mark → List Mark
with_digits [] ms = ms
with_digits (d ∷ ds) ms = number_mark (number_of largest_value (d ∷ ds)) ∷ ms

-- a byte that is no digit before the marks of the rest
unfoldable pub with_byte : ℕ → List Mark → List Mark
with_byte b ms =
    cond (eqb b space) ms
    (cond (eqb b open_byte) (token opening ∷ ms)
    (cond (eqb b close_byte) (token closing ∷ ms)
    (cond (eqb b dot_byte) (token dot ∷ ms)
    (foreign ∷ ms))))

-- the marks of a text before which the digits ds stand
unfoldable pub marks_after : List ℕ → List ℕ → List Mark
marks_after ds [] = with_digits ds []
marks_after ds (b ∷ bs) = cond (is_digit b) (marks_after (ds ++ (b ∷ [])) bs) (with_digits ds (with_byte b (marks_after [] bs)))

abbrev pub marks_of : List ℕ → List Mark
marks_of text = marks_after [] text

-- an open list: its elements so far, the last one first, before a dot, behind it, and with the part that stands behind it
pub data Frame : Type 0 where
  plain : List Tree → Frame
  dotted : List Tree → Frame
  full : List Tree → Tree → Frame

-- the open lists, the innermost first, or a text that is outside the notation
pub data State : Type 0 where
  within : List Frame → State
  outside : State

-- one datum more in the innermost list
abbrev pub deliver : Tree → List Frame → State
deliver t [] = outside
deliver t (plain es ∷ fs) = within (plain (t ∷ es) ∷ fs)
deliver t (dotted es ∷ fs) = within (full es t ∷ fs)
deliver t (full es l ∷ fs) = outside

-- the list's pairs, last to first
unfoldable pub list_of : List Tree → Tree → Tree
list_of [] l = l
list_of (e ∷ es) l = list_of es (pair e l)

-- the innermost list ends; the text itself, below all lists, ends by no bracket
abbrev pub close_list : List Frame → State
close_list [] = outside
close_list (f ∷ []) = outside
close_list (plain es ∷ f ∷ fs) = deliver (list_of es nil) (f ∷ fs)
close_list (dotted es ∷ f ∷ fs) = outside
close_list (full es l ∷ f ∷ fs) = deliver (list_of es l) (f ∷ fs)

-- a dot behind one element or more
abbrev pub dot_list : List Frame → State
dot_list [] = outside
dot_list (plain [] ∷ fs) = outside
dot_list (plain (e ∷ es) ∷ fs) = within (dotted (e ∷ es) ∷ fs)
dot_list (dotted es ∷ fs) = outside
dot_list (full es l ∷ fs) = outside

abbrev pub on_token : Token → List Frame → State
on_token opening fs = within (plain [] ∷ fs)
on_token closing fs = close_list fs
on_token dot fs = dot_list fs
on_token (number v) fs = deliver (atom v) fs

abbrev pub next : Mark → State → State
next m outside = outside
next foreign (within fs) = outside
next (token k) (within fs) = on_token k fs

unfoldable pub parsed_from : State → List Mark → State
parsed_from s [] = s
parsed_from s (m ∷ ms) = parsed_from (next m s) ms

-- a text is one datum, as the part behind a dot is
abbrev pub start : List Frame
start = dotted [] ∷ []

-- the tree of a text in the notation
pub data Parsed : Type 0 where
  tree : Tree → Parsed
  none : Parsed

abbrev pub tree_of : State → Parsed
tree_of outside = none
tree_of (within []) = none
tree_of (within (plain es ∷ fs)) = none
tree_of (within (dotted es ∷ fs)) = none
tree_of (within (full es t ∷ [])) = tree t
tree_of (within (full es t ∷ f ∷ fs)) = none

unfoldable pub parse : List ℕ → Parsed
parse text = tree_of (parsed_from (within start) (marks_of text))

-- whether a text is in the notation
abbrev pub is_tree : Parsed → Bool
is_tree (tree t) = true
is_tree none = false

-- the tree that a text means; a text outside the notation has none, and nil stands in for it
abbrev pub meaning : Parsed → Tree
meaning (tree t) = t
meaning none = nil
