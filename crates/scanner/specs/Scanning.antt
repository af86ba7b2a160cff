-- How far a scan has come: its locals are what matters of the open lists that the definition of parsing has at that place.
use Rattle.std.specs.Prelude.{◌≡◌, Bool, ◌||◌, List, [], ◌∷◌, ◌++◌, map, ℕ, suc, pred, ◌+◌, ◌≤◌, max, eqb, length, drop, Option, Some, None}
use Rattle.notation.specs.Trees.{Tree, pairs}
use Rattle.notation.specs.Grammar.{Token, opening, closing, dot, number}
use Rattle.notation.specs.Parse.{Mark, token, foreign, Frame, plain, dotted, full, State, within, deliver, on_token, marks_of, parsed_from, tree_of, parse, none}
use Rattle.notation.specs.Brackets.{most_open, too_deep}
use Rattle.scanner.specs.declared.lists.Scan.{Scan}
use Rattle.scanner.specs.declared.modes.Mode.{Mode}
use Rattle.scanner.specs.Modes.{digit, most_modes, unstacked, Stacked}
use Rattle.notation.specs.Grammar.{most_text}

-- an open list without elements, with elements, behind its dot, and with the part that stands behind it, as its mode's digit
abbrev pub mode_of : Frame → ℕ
mode_of (plain []) = digit Mode.Empty
mode_of (plain (e ∷ es)) = digit Mode.Started
mode_of (dotted es) = digit Mode.Dotted
mode_of (full es l) = digit Mode.Full

-- elements take a pair each, and those that they have
unfoldable pub element_pairs : List Tree → ℕ
element_pairs [] = 0
element_pairs (e ∷ es) = suc (pairs e + element_pairs es)

abbrev pub frame_pairs : Frame → ℕ
frame_pairs (plain es) = element_pairs es
frame_pairs (dotted es) = element_pairs es
frame_pairs (full es l) = element_pairs es + pairs l

-- the pairs of all that the open lists have so far
abbrev pub open_pairs : List Frame → ℕ
open_pairs [] = 0
open_pairs (f ∷ fs) = frame_pairs f + open_pairs fs

-- the largest value of an atom among marks, 0 where there is none
abbrev pub largest_mark : List Mark → ℕ
largest_mark [] = 0
largest_mark (token opening ∷ ms) = largest_mark ms
largest_mark (token closing ∷ ms) = largest_mark ms
largest_mark (token dot ∷ ms) = largest_mark ms
largest_mark (token (number v) ∷ ms) = max v (largest_mark ms)
largest_mark (foreign ∷ ms) = largest_mark ms

-- below all lists is the text itself, which has no elements
abbrev pub Based : List Frame → Type 0
Based [] = ⊥
Based (plain es ∷ []) = ⊥
Based (dotted es ∷ []) = es ≡ []
Based (full es l ∷ []) = es ≡ []
Based (f ∷ g ∷ fs) = Based (g ∷ fs)

-- the innermost list in another mode, and so many pairs more
abbrev pub grown_by : Scan → Mode → ℕ → Scan
grown_by s mode more = record { at = s.at; mode = mode; brackets = s.brackets; deep = s.deep; pairs = s.pairs + more; largest = s.largest }

-- what has been read but not yet taken: nothing, a token, or a datum that a token completed
pub data Pending : Type 0 where
  nothing : Pending
  mark : Token → Pending
  datum : Tree → Pending

abbrev pub taken : Pending → List Frame → State
taken nothing fs = within fs
taken (mark k) fs = on_token k fs
taken (datum t) fs = deliver t fs

abbrev pub pending_pairs : Pending → ℕ
pending_pairs nothing = 0
pending_pairs (mark k) = 0
pending_pairs (datum t) = pairs t

-- a pending token as a mark; the values of a datum have been taken with its tokens
abbrev pub pending_marks : Pending → List Mark
pending_marks nothing = []
pending_marks (mark k) = token k ∷ []
pending_marks (datum t) = []

-- a token, and so a datum that it completed, has a byte
abbrev pub pending_bytes : Pending → ℕ
pending_bytes nothing = 0
pending_bytes (mark k) = 1
pending_bytes (datum t) = 1

-- somewhere from what is pending on a bracket is one too many, where so many are open
abbrev pub deep_from : Pending → ℕ → List ℕ → Bool
deep_from (mark opening) n text = eqb n most_open || too_deep (suc n) text
deep_from (mark closing) n text = too_deep (pred n) text
deep_from (mark dot) n text = too_deep n text
deep_from (mark (number v)) n text = too_deep n text
deep_from nothing n text = too_deep n text
deep_from (datum t) n text = too_deep n text

-- what the locals are, whatever the text
pub record Locals (words : List ℕ) (s : Scan) : Type 0 where
  pub stacked : Stacked s.brackets words
  pub room : s.brackets ≤ most_modes
  pub few : s.pairs ≤ most_text

-- The tokens before the place, but what is pending of the last one, have led to these open lists.
pub record Scanning (text words : List ℕ) (s : Scan) (p : Pending) : Type 0 where
  pub frames : List Frame
  pub locals : Locals words s
  pub modes : map mode_of frames ≡ digit s.mode ∷ unstacked s.brackets words
  pub based : Based frames
  pub parsed : parse text ≡ tree_of (parsed_from (taken p frames) (marks_of (drop s.at text)))
  pub deep : too_deep 0 text ≡ (s.deep || deep_from p s.brackets (drop s.at text))
  pub counted : s.pairs ≡ open_pairs frames + pending_pairs p
  pub values : largest_mark (marks_of text) ≡ max s.largest (largest_mark (pending_marks p ++ marks_of (drop s.at text)))
  -- each pair and each open bracket has a byte of its own
  pub short : length text ≤ most_text
  pub inside : s.at ≤ length text
  pub enough : s.pairs + pending_bytes p ≤ s.at
  pub opened : s.brackets + pending_bytes p ≤ s.at

-- what a token leads to, from a place on
abbrev pub TakenOf : List ℕ → List ℕ → ℕ → Option Scan → Type 0
TakenOf text words from (Some s) = Scanning text words s nothing × (from ≤ s.at)
TakenOf text words from None = parse text ≡ none
