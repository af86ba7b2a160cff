-- A text in the notation whose tree has at most 64 pairs leaves room for each of its tokens.
use mathlib.Core.Path.{◌≡◌, refl, ap, ◌∙◌}
use mathlib.Core.Bool.{Bool, true, false, ◌||◌}
use mathlib.Core.List.{List, [], ◌∷◌, ◌++◌}
use Prim.Native.Nat.{ℕ, suc, ◌+◌, ◌≤◌, ◌<◌}
use native.Mathlib.Omega.{arith}
use lib.Dec.{eqb}
use lib.ListN.{length, length-append}
use borrow.Author.Tests.{eqb-false}
use Rattle.notation.specs.Trees.{Tree, nil, atom, pairs}
use Rattle.notation.specs.Grammar.{opening, closing, dot, number}
use Rattle.notation.specs.Parse.{Mark, token, Frame, plain, dotted, full, within, on_token, parsed_from, tree_of, tree}
use Rattle.notation.specs.Brackets.{most_open}
use Rattle.scanner.specs.declared.tokens.Token.{Token}
use Rattle.scanner.specs.Tokens.{marks_of_token, ValueOfToken}
use Rattle.scanner.specs.Scanning.{Based}
use Rattle.scanner.proofs.DepthLaws.{deep_marks}
use Rattle.machine.specs.Calls.{Store}
use Rattle.machine.specs.Step.{Outcome}
use Rattle.machine.specs.Queue.{slots}
use Rattle.reader.specs.Reading.{Reading}
use Rattle.reader.specs.Held.{Closable, Room}
use Rattle.reader.proofs.Standing.{build_all, in_order, standing, lists_of, Shallow, Stands}
use Rattle.reader.proofs.FrameLaws.{never_within, onward, delivered, few_words}
use Rattle.reader.proofs.ReadLaws.{build_length}

module _ (cons : Store → ℕ → ℕ → Outcome) (s : Store) (t : Tree) (few : pairs t ≤ slots) (ms : List Mark) where
  close_room : (fs gs : List Frame) → Based fs → tree_of (parsed_from (within fs) (token closing ∷ ms)) ≡ tree t → on_token closing fs ≡ within gs
      → Closable (build_all cons s (standing fs)).words (lists_of fs)
  unfolding lists_of standing parsed_from
  close_room [] gs b h e = never_within e
  close_room (f ∷ []) gs b h e = never_within e
  close_room (plain es ∷ f ∷ fs) gs b h e =
      let w = few_words t (token closing ∷ ms) (full es nil ∷ f ∷ fs) b h in
      let n = build_length cons s (standing (plain es ∷ f ∷ fs)) in
      (simp length-append (omega (arith, simp length-append at n)), simp length-append (omega (arith, simp length-append at n, simp length-append at w)))
  close_room (dotted es ∷ f ∷ fs) gs b h e = never_within e
  close_room (full es l ∷ f ∷ fs) gs b h e =
      let w = few_words t (token closing ∷ ms) (full es l ∷ f ∷ fs) b h in
      let n = build_length cons s (standing (full es l ∷ f ∷ fs)) in
      let before : length (standing (f ∷ fs)) < length (build_all cons s (standing (full es l ∷ f ∷ fs))).words =
      omega (arith, n, length-append (standing (f ∷ fs)) (in_order es ++ (l ∷ [])), length-append (in_order es) (l ∷ [])) in
      (before, omega (arith, n, w))

  dot_room : (fs gs : List Frame) → Based fs → on_token dot fs ≡ within gs → 1 ≤ length (lists_of fs)
  unfolding lists_of
  dot_room [] gs b e = never_within e
  dot_room (plain [] ∷ fs) gs b e = never_within e
  dot_room (plain (y ∷ es) ∷ []) gs b e = absurd b
  dot_room (plain (y ∷ es) ∷ f ∷ fs) gs b e = omega arith
  dot_room (dotted es ∷ fs) gs b e = never_within e
  dot_room (full es l ∷ fs) gs b e = never_within e

  -- one bracket more can be opened
  open_room : (n : ℕ) → deep_marks n (token opening ∷ ms) ≡ false → n ≤ most_open → n < most_open
  open_room n h k = go (eqb n most_open) refl h
    where
      go : (a : Bool) → eqb n most_open ≡ a → (a || deep_marks (suc n) ms) ≡ false → n < most_open
      go true e d = let z : ◌≡◌ {A = ℕ} 0 1 = cc in absurd (omega arith)
      go false e d = omega (arith, eqb-false)

  pub room : (k : Token) (r : Reading) → Stands cons s t (marks_of_token k ++ ms) r → Shallow (marks_of_token k ++ ms) r → length r.lists ≤ most_open → ValueOfToken k
      → Room k r
  room Token.Blank r h d n v = tt
  room Token.Opening r h d n v = open_room (length r.lists) d n
  room Token.Closing r h d n v =
      let o = onward (token closing) h.frames ms t h.parsed in
      rw h.stands (close_room h.frames o.frames h.based h.parsed o.next)
  room Token.Dot r h d n v =
      let o = onward (token dot) h.frames ms t h.parsed in
      rw h.stands (dot_room h.frames o.frames h.based o.next)
  room (Token.Number x) r h d n v =
      let o = onward (token (number x)) h.frames ms t h.parsed in
      let more = delivered (atom x) h.frames o.frames o.next in
      let w = few_words t ms o.frames (more.based h.based) o.parsed in
      let l : length (standing o.frames) ≡ length (standing h.frames) + 1 = ap length more.standing ∙ simp length-append in
      (rw h.stands (omega (arith, build_length cons s (standing h.frames))), v)
  room Token.Foreign r h d n v = tt
