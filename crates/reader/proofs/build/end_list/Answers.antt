use native.Mathlib.Omega.{arith}
use mathlib.Core.Path.{◌≡◌}
use mathlib.Core.List.{List, [], ◌∷◌, ◌++◌}
use Prim.Native.Nat.{ℕ, ◌<◌, ◌≤◌}
use lib.ListN.{length, take, length-append, length-take, length-set}
use Rattle.reader.specs.Held.{most_words}
use Rattle.reader.proofs.HeldLaws.{word_more}
use Rattle.reader.proofs.build.end_list.Goals as goal

-- there is room for one more
room : (ws : List ℕ) (count : ℕ) → length ws ≡ most_words → count ≤ most_words → length (take count ws ++ (0 ∷ [])) ≤ most_words → count < most_words
room ws count l m p = omega (arith, l, m, simp (length-append, length-take) at p)

pub returns-then-dotted : goal.returns-then-dotted
returns-then-dotted c =
    (c.requires.0, c.requires.1, rw c.if-dotted.true)

pub bounds-words-count : goal.bounds-words-count
bounds-words-count c = room c.args.words.now c.args.count c.requires.0 c.requires.1 (rw c.if-dotted.false at c.requires.2)

pub returns : goal.returns
returns c =
    (simp length-set c.requires.0, omega (arith, room c.args.words.now c.args.count c.requires.0 c.requires.1 (rw c.if-dotted.false at c.requires.2)), rw c.if-dotted.false (word_more c.args.words.now c.args.count 0 (omega (arith, room c.args.words.now c.args.count c.requires.0 c.requires.1 (rw c.if-dotted.false at c.requires.2), c.requires.0))))
