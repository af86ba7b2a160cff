-- Reading a text token by token as the parser does, with the words of what is built in the place of trees.
use Rattle.std.specs.Prelude.{◌≡◌, Bool, true, false, List, [], ◌∷◌, ◌++◌, ℕ, pred, ◌+◌, length, get_or, take, drop}
use Rattle.notation.specs.Trees.{Tree}
use Rattle.notation.specs.Grammar.{Token, opening, closing, dot, number}
use Rattle.notation.specs.Parse.{Mark, token, foreign, marks_of, parse, tree}
use Rattle.machine.specs.Words.{first_atom}
use Rattle.machine.specs.Calls.{Store}
use Rattle.machine.specs.Step.{Outcome}
use Rattle.machine.specs.Texts.{Built, built, built_pair, build_by}

-- an open list: how many words stand before those of its elements, and whether its dot has come
pub record OpenList : Type 0 where
  pub before : ℕ
  pub dotted : Bool

abbrev pub open_list : ℕ → Bool → OpenList
open_list n d = record { before = n; dotted = d }

-- The words of the elements of all open lists, the outermost list's first, and at the end that of a part behind a dot; the open lists, the innermost
-- first; and the store.
pub record Reading : Type 0 where
  pub words : List ℕ
  pub lists : List OpenList
  pub store : Store

abbrev pub reading : List ℕ → List OpenList → Store → Reading
reading ws ls s = record { words = ws; lists = ls; store = s }

-- a list's own pairs, last to first: ws are the words of its elements, l that of the part behind them
unfoldable pub pairs_by : (Store → ℕ → ℕ → Outcome) → Store → List ℕ → ℕ → Built
pairs_by cons s [] l = built l s
pairs_by cons s (w ∷ ws) l =
    let y = pairs_by cons s ws l in
    built_pair (cons y.after w y.word)

-- a list without a dot ends in nil
abbrev pub ended : Bool → List ℕ → List ℕ
ended true ws = ws
ended false ws = ws ++ (0 ∷ [])

-- the words from `before` on, of which the last one is the part behind the elements, give way to the word of their list
unfoldable pub closed_from : (Store → ℕ → ℕ → Outcome) → Store → ℕ → List ℕ → List OpenList → Reading
closed_from cons s before ws ls =
    let last = pred (length ws) in
    let y = pairs_by cons s (drop before (take last ws)) (get_or ws last 0) in
    reading (take before ws ++ (y.word ∷ [])) ls y.after

-- the innermost list ends
abbrev pub closed : (Store → ℕ → ℕ → Outcome) → List ℕ → Store → List OpenList → Reading
closed cons ws s [] = reading ws [] s
closed cons ws s (l ∷ ls) = closed_from cons s l.before (ended l.dotted ws) ls

-- its dot comes
abbrev pub with_dot : List OpenList → List OpenList
with_dot [] = []
with_dot (l ∷ ls) = open_list l.before true ∷ ls

unfoldable pub read_token : (Store → ℕ → ℕ → Outcome) → Token → Reading → Reading
read_token cons opening r = reading r.words (open_list (length r.words) false ∷ r.lists) r.store
read_token cons closing r = closed cons r.words r.store r.lists
read_token cons dot r = reading r.words (with_dot r.lists) r.store
read_token cons (number v) r = reading (r.words ++ ((first_atom + v) ∷ [])) r.lists r.store

-- the parser tells what is outside the notation
abbrev pub read_mark : (Store → ℕ → ℕ → Outcome) → Mark → Reading → Reading
read_mark cons (token k) r = read_token cons k r
read_mark cons foreign r = r

unfoldable pub read_all : (Store → ℕ → ℕ → Outcome) → Reading → List Mark → Reading
read_all cons r [] = r
read_all cons r (m ∷ ms) = read_all cons (read_mark cons m r) ms

-- Reading a text in the notation builds its tree: the tree's word is left, and the store that building leaves. The proof is in proofs/ReadLaws.
abbrev pub ReadsTree : Type 0
ReadsTree =
    (cons : Store → ℕ → ℕ → Outcome) (s : Store) (text : List ℕ) (t : Tree) → parse text ≡ tree t
    → let b = build_by cons s t in read_all cons (reading [] [] s) (marks_of text) ≡ reading (b.word ∷ []) [] b.after
