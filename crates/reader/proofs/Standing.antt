-- What stands between two tokens of a text in the notation: for the trees in the parser's open lists their words.
use mathlib.Core.Path.{◌≡◌}
use mathlib.Core.Bool.{Bool, true, false}
use mathlib.Core.List.{List, [], ◌∷◌, ◌++◌}
use Prim.Native.Nat.{ℕ}
use lib.ListN.{length}
use Rattle.notation.specs.Trees.{Tree}
use Rattle.notation.specs.Parse.{Mark, Frame, plain, dotted, full, within, parsed_from, tree_of, tree}
use Rattle.scanner.specs.Scanning.{Based}
use Rattle.scanner.proofs.DepthLaws.{deep_marks}
use Rattle.machine.specs.Calls.{Store}
use Rattle.machine.specs.Step.{Outcome}
use Rattle.machine.specs.Texts.{build_by}
use Rattle.reader.specs.Reading.{OpenList, open_list, Reading, reading}

-- trees built one after the other: their words, and the store afterwards
pub record BuiltAll : Type 0 where
  pub words : List ℕ
  pub after : Store

abbrev pub built_all : List ℕ → Store → BuiltAll
built_all ws s = record { words = ws; after = s }

unfoldable pub build_all : (Store → ℕ → ℕ → Outcome) → Store → List Tree → BuiltAll
build_all cons s [] = built_all [] s
build_all cons s (t ∷ ts) =
    let x = build_by cons s t in
    let y = build_all cons x.after ts in
    built_all (x.word ∷ y.words) y.after

-- the elements of an open list, first to last
unfoldable pub in_order : List Tree → List Tree
in_order [] = []
in_order (e ∷ es) = in_order es ++ (e ∷ [])

abbrev pub trees_in : Frame → List Tree
trees_in (plain es) = in_order es
trees_in (dotted es) = in_order es
trees_in (full es l) = in_order es ++ (l ∷ [])

-- all trees in the open lists, the outermost list's first
unfoldable pub standing : List Frame → List Tree
standing [] = []
standing (f ∷ fs) = standing fs ++ trees_in f

abbrev pub has_dot : Frame → Bool
has_dot (plain es) = false
has_dot (dotted es) = true
has_dot (full es l) = true

-- the text itself, below all lists, is no list
unfoldable pub lists_of : List Frame → List OpenList
lists_of [] = []
lists_of (f ∷ []) = []
lists_of (f ∷ g ∷ fs) = open_list (length (standing (g ∷ fs))) (has_dot f) ∷ lists_of (g ∷ fs)

-- what stands for the parser's open lists, where the text's reading began with the store s
abbrev pub reading_of : (Store → ℕ → ℕ → Outcome) → Store → List Frame → Reading
reading_of cons s fs = reading (build_all cons s (standing fs)).words (lists_of fs) (build_all cons s (standing fs)).after

-- before the marks ms of a text, no bracket too many is opened any more
abbrev pub Shallow : List Mark → Reading → Type 0
Shallow ms r = deep_marks (length r.lists) ms ≡ false

-- Before the marks ms of a text that means the tree t: the parser has come to some open lists, and r stands for these.
pub record Stands (cons : Store → ℕ → ℕ → Outcome) (s : Store) (t : Tree) (ms : List Mark) (r : Reading) : Type 0 where
  pub frames : List Frame
  pub based : Based frames
  pub stands : r ≡ reading_of cons s frames
  pub parsed : tree_of (parsed_from (within frames) ms) ≡ tree t
