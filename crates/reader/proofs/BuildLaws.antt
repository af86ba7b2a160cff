-- How far the building of a text has come.
use mathlib.Core.Path.{◌≡◌, refl, sym, ap, subst, ◌∙◌}
use mathlib.Core.Bool.{Bool, false}
use mathlib.Core.List.{List, [], ◌∷◌, ◌++◌}
use Prim.Native.Nat.{ℕ, ◌≤◌, ◌<◌}
use native.Mathlib.Omega.{arith}
use lib.ListN.{length, get_or, take, drop, replicate, length-take, drop_of_length-le}
use lib.Seq.{get_or-take}
use Rattle.notation.specs.Trees.{Tree}
use Rattle.notation.specs.Parse.{marks_after, marks_of, parse, tree}
use Rattle.scanner.specs.declared.tokens.TokenRead.{TokenRead}
use Rattle.scanner.specs.Tokens.{marks_of_token, TokenAt}
use Rattle.scanner.proofs.DepthLaws.{deep_marks_lem}
use Rattle.machine.specs.declared.Queue.{Queue}
use Rattle.machine.specs.Calls.{store}
use Rattle.machine.specs.Texts.{build_by}
use Rattle.reader.specs.Reading.{Reading, read_all}
use Rattle.reader.specs.Held.{lists_in, reading_in, Fits, Room}
use Rattle.reader.specs.Builds.{code_cons, Readable, Builds}
use Rattle.reader.proofs.Standing.{Shallow, Stands}
use Rattle.reader.proofs.ReadLaws.{shallow_all, stands_first, stands_all, stands_last}
use Rattle.reader.proofs.HeldLaws.{length_lists}
use Rattle.reader.proofs.RoomLaws.{room}

-- the tokens before a place of the text are read, with the table t and the queue q at first
pub record Going (t : List ℕ) (q : Queue) (text words : List ℕ) (count : ℕ) (starts : List ℕ) (dots : List Bool) (opened : ℕ) (t' : List ℕ) (q' : Queue) (at : ℕ) : Type 0 where
  pub inside : at ≤ length text
  pub fits : Fits words count starts dots opened
  pub same : length t' ≡ length t
  pub shallow : Shallow (marks_of (drop at text)) (reading_in words count starts dots opened t' q')
  pub stands : (u : Tree) → parse text ≡ tree u → Stands code_cons (store t q []) u (marks_of (drop at text)) (reading_in words count starts dots opened t' q')

pub going_first : (t : List ℕ) (q : Queue) (text : List ℕ) → Readable text → Going t q text (replicate 65 0) 0 (replicate 32 0) (replicate 32 false) 0 t q 0
unfolding lists_in
going_first t q text r =
    record {
      inside = omega arith;
      fits = record { words = refl; starts = refl; dots = refl; count = omega arith; opened = omega arith };
      same = refl;
      shallow = deep_marks_lem 0 text ∙ r.shallow;
      stands = λ u e. stands_first code_cons (store t q []) u text e;
    }

module _ (t : List ℕ) (q : Queue) (text words : List ℕ) (count : ℕ) (starts : List ℕ) (dots : List Bool) (opened : ℕ) (t' : List ℕ) (q' : Queue) (at : ℕ)
    (going : Going t q text words count starts dots opened t' q' at) where
  -- the token's marks before those of the rest
  marked : (r : TokenRead) → TokenAt text at r → (u : Tree) → parse text ≡ tree u
      → Stands code_cons (store t q []) u (marks_of_token r.token ++ marks_of (drop r.next text)) (reading_in words count starts dots opened t' q')
  marked r a u e = rw a.marks at (going.stands u e)

  marked_shallow : (r : TokenRead) → TokenAt text at r → Shallow (marks_of_token r.token ++ marks_of (drop r.next text)) (reading_in words count starts dots opened t' q')
  marked_shallow r a = rw a.marks at going.shallow

  pub going_room : (r : TokenRead) → TokenAt text at r → Readable text → Room r.token (reading_in words count starts dots opened t' q')
  going_room r a x =
      room code_cons (store t q []) x.means x.few (marks_of (drop r.next text)) r.token (reading_in words count starts dots opened t' q')
      (marked r a x.means x.parsed) (marked_shallow r a) (rw (length_lists opened starts dots) going.fits.opened) a.value

  pub going_next : (r : TokenRead) → TokenAt text at r → (words' : List ℕ) (count' : ℕ) (starts' : List ℕ) (dots' : List Bool) (opened' : ℕ) (t'' : List ℕ) (q'' : Queue)
      → Fits words' count' starts' dots' opened' → length t'' ≡ length t'
      → reading_in words' count' starts' dots' opened' t'' q'' ≡ read_all code_cons (reading_in words count starts dots opened t' q') (marks_of_token r.token)
      → Going t q text words' count' starts' dots' opened' t'' q'' r.next
  going_next r a words' count' starts' dots' opened' t'' q'' f l e =
      record {
        inside = a.inside;
        fits = f;
        same = l ∙ going.same;
        shallow =
            subst (Shallow (marks_of (drop r.next text))) (sym e)
            (shallow_all code_cons (marks_of_token r.token) (marks_of (drop r.next text)) (reading_in words count starts dots opened t' q') (marked_shallow r a));
        stands = λ u p. rw e (stands_all code_cons (store t q []) u (marks_of_token r.token) (marks_of (drop r.next text)) _ (marked r a u p));
      }

  pub going_last : length text ≤ at → Builds t q text (get_or words 0 0) t' q'
  unfolding marks_after
  going_last end u e =
      let b = build_by code_cons (store t q []) u in
      let s : Stands code_cons (store t q []) u [] (reading_in words count starts dots opened t' q') = rw (drop_of_length-le text end) at (going.stands u e) in
      let l = stands_last code_cons (store t q []) u _ s in
      let ws : take count words ≡ b.word ∷ [] = ap (λ (r : Reading). r.words) l in
      let st : store t' q' [] ≡ b.after = ap (λ (r : Reading). r.store) l in
      let n : 0 < count = omega (arith, simp length-take at (ap length ws)) in
      let w : get_or words 0 0 ≡ b.word = sym (get_or-take count words 0 0 n) ∙ ap (λ (z : List ℕ). get_or z 0 0) ws in
      rw (w, st)
