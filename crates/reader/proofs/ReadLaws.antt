-- Reading token by token builds what the text's tree builds: at every token the words are those of the trees in the parser's open lists, built one after
-- the other.
use mathlib.Core.Path.{◌≡◌, refl, sym, ap, ◌∙◌}
use mathlib.Core.Bool.{Bool, true, false, ◌||◌}
use mathlib.Core.List.{List, [], ◌∷◌, ◌++◌, append_assoc, append-nil}
use Prim.Native.Nat.{ℕ, suc, pred, ◌+◌}
use native.Mathlib.Omega.{arith}
use native.Mathlib.Numerals.{add-one}
use lib.Dec.{eqb}
use lib.ListN.{length, length-append}
use lib.Seq.{take_at, drop_at, get_or_at}
use Rattle.notation.specs.Trees.{Tree, nil, atom, pair}
use Rattle.notation.specs.Brackets.{most_open}
use Rattle.notation.specs.Grammar.{Token, opening, closing, dot, number}
use Rattle.notation.specs.Parse.{Mark, token, foreign, Frame, plain, dotted, full, within, deliver, list_of, on_token, start, marks_of, parsed_from, parse, tree}
use Rattle.scanner.specs.Scanning.{Based}
use Rattle.scanner.proofs.DepthLaws.{deep_marks}
use Rattle.machine.specs.Words.{first_atom}
use Rattle.machine.specs.Calls.{Store}
use Rattle.machine.specs.Step.{Outcome}
use Rattle.machine.specs.Texts.{build_by}
use Rattle.reader.specs.Reading.{OpenList, Reading, reading, pairs_by, closed_from, closed, with_dot, read_token, read_mark, read_all, ReadsTree}
use Rattle.reader.proofs.Standing.{BuiltAll, built_all, build_all, in_order, standing, lists_of, reading_of, Shallow, Stands}
use Rattle.reader.proofs.FrameLaws.{within_same, never_within, onward, delivered, based_next, alone}

-- the list of some elements, first to last, and the part behind them
chain : List Tree → Tree → Tree
chain [] l = l
chain (e ∷ es) l = pair e (chain es l)

chain_more : (es : List Tree) (e l : Tree) → chain (es ++ (e ∷ [])) l ≡ chain es (pair e l)
unfolding chain
chain_more [] e l = refl
chain_more (x ∷ es) e l = ap (pair x) (chain_more es e l)

chain_list : (es : List Tree) (l : Tree) → chain (in_order es) l ≡ list_of es l
unfolding chain in_order list_of
chain_list [] l = refl
chain_list (e ∷ es) l = chain_more (in_order es) e l ∙ chain_list es (pair e l)

last_place : (ws : List ℕ) (w : ℕ) → pred (length (ws ++ (w ∷ []))) ≡ length ws
last_place ws w = rw (length-append, add-one)

module _ (cons : Store → ℕ → ℕ → Outcome) where
  build_append : (s : Store) (ts us : List Tree) →
      build_all cons s (ts ++ us)
      ≡ built_all ((build_all cons s ts).words ++ (build_all cons (build_all cons s ts).after us).words) (build_all cons (build_all cons s ts).after us).after
  unfolding build_all
  build_append s [] us = refl
  build_append s (t ∷ ts) us = let x = build_by cons s t in rw (build_append x.after ts us)

  pub build_length : (s : Store) (ts : List Tree) → length (build_all cons s ts).words ≡ length ts
  unfolding build_all
  build_length s [] = refl
  build_length s (t ∷ ts) = let x = build_by cons s t in ap suc (build_length x.after ts)

  -- one tree more
  build_more : (s : Store) (ts : List Tree) (x : Tree) →
      build_all cons s (ts ++ (x ∷ []))
      ≡ built_all ((build_all cons s ts).words ++ ((build_by cons (build_all cons s ts).after x).word ∷ [])) (build_by cons (build_all cons s ts).after x).after
  unfolding build_all
  build_more s ts x = build_append s ts (x ∷ [])

  build_nil : (s : Store) (ts : List Tree) → build_all cons s (ts ++ (nil ∷ [])) ≡ built_all ((build_all cons s ts).words ++ (0 ∷ [])) (build_all cons s ts).after
  unfolding build_by
  build_nil s ts = build_more s ts nil

  build_atom : (s : Store) (ts : List Tree) (v : ℕ) →
      build_all cons s (ts ++ (atom v ∷ [])) ≡ built_all ((build_all cons s ts).words ++ ((first_atom + v) ∷ [])) (build_all cons s ts).after
  unfolding build_by
  build_atom s ts v = build_more s ts (atom v)

  -- elements built left to right, then the part behind them, then the list's own pairs, last to first: that is the list
  pairs_build : (s : Store) (es : List Tree) (l : Tree) →
      pairs_by cons (build_by cons (build_all cons s es).after l).after (build_all cons s es).words (build_by cons (build_all cons s es).after l).word
      ≡ build_by cons s (chain es l)
  unfolding build_all pairs_by chain build_by
  pairs_build s [] l = refl
  pairs_build s (e ∷ es) l = let x = build_by cons s e in rw (pairs_build x.after es l)

  -- the words of a list's elements and of the part behind them give way to the list's
  closed_list : (s : Store) (ts us : List Tree) (l : Tree) (ls : List OpenList) (n : ℕ) → n ≡ length ts →
      closed_from cons (build_all cons s (ts ++ us ++ (l ∷ []))).after n (build_all cons s (ts ++ us ++ (l ∷ []))).words ls
      ≡ reading (build_all cons s (ts ++ (chain us l ∷ []))).words ls (build_all cons s (ts ++ (chain us l ∷ []))).after
  unfolding closed_from
  closed_list s ts us l ls n e = rw (build_more s (ts ++ us) l, build_append s ts us, build_more s ts (chain us l)) (go (build_all cons s ts) refl)
    where
      go : (a : BuiltAll) → build_all cons s ts ≡ a →
          closed_from cons (build_by cons (build_all cons a.after us).after l).after n
          (a.words ++ (build_all cons a.after us).words ++ ((build_by cons (build_all cons a.after us).after l).word ∷ [])) ls
          ≡ reading (a.words ++ ((build_by cons a.after (chain us l)).word ∷ [])) ls (build_by cons a.after (chain us l)).after
      go a h =
          let b = build_all cons a.after us in
          let y = build_by cons b.after l in
          let ws = a.words ++ b.words in
          let front : length a.words ≡ n = ap (λ (z : BuiltAll). length z.words) (sym h) ∙ build_length s ts ∙ sym e in
          rw (
            last_place ws y.word,
            take_at ws (y.word ∷ []) (length ws) refl,
            get_or_at ws y.word [] 0 (length ws) refl,
            drop_at a.words b.words n front,
            append_assoc a.words b.words (y.word ∷ []),
            take_at a.words (b.words ++ (y.word ∷ [])) n front,
            pairs_build a.after us l,
          )

  -- a tree delivered: its word stands behind the others
  read_delivered : (s : Store) (x : Tree) (fs gs : List Frame) → deliver x fs ≡ within gs →
      reading (build_all cons s (standing fs ++ (x ∷ []))).words (lists_of fs) (build_all cons s (standing fs ++ (x ∷ []))).after ≡ reading_of cons s gs
  read_delivered s x fs gs e = let d = delivered x fs gs e in rw (d.standing, d.lists)

  read_next : (s : Store) (k : Token) (fs gs : List Frame) → Based fs → on_token k fs ≡ within gs → read_token cons k (reading_of cons s fs) ≡ reading_of cons s gs
  unfolding read_token standing lists_of in_order
  read_next s opening [] gs b e = absurd b
  read_next s opening (f ∷ fs) gs b e = rw (sym (within_same e), append-nil, build_length)
  read_next s closing [] gs b e = never_within e
  read_next s closing (f ∷ []) gs b e = never_within e
  read_next s closing (plain es ∷ f ∷ fs) gs b e =
      let ts = standing (f ∷ fs) in
      let us = in_order es in
      (rw (build_nil s (ts ++ us), chain_list es nil) at (closed_list s ts us nil (lists_of (f ∷ fs)) (length ts) refl))
      ∙ read_delivered s (list_of es nil) (f ∷ fs) gs e
  read_next s closing (dotted es ∷ f ∷ fs) gs b e = never_within e
  read_next s closing (full es l ∷ f ∷ fs) gs b e =
      let ts = standing (f ∷ fs) in
      let us = in_order es in
      (rw (append_assoc ts us (l ∷ []), chain_list es l) at (closed_list s ts us l (lists_of (f ∷ fs)) (length ts) refl))
      ∙ read_delivered s (list_of es l) (f ∷ fs) gs e
  read_next s dot [] gs b e = never_within e
  read_next s dot (plain [] ∷ fs) gs b e = never_within e
  read_next s dot (plain (y ∷ es) ∷ []) gs b e = absurd b
  read_next s dot (plain (y ∷ es) ∷ f ∷ fs) gs b e = rw (sym (within_same e))
  read_next s dot (dotted es ∷ fs) gs b e = never_within e
  read_next s dot (full es l ∷ fs) gs b e = never_within e
  read_next s (number v) fs gs b e = rw (build_atom s (standing fs) v) at (read_delivered s (atom v) fs gs e)

  -- one bracket more is open, one less, or as many
  shallow_next : (m : Mark) (ms : List Mark) (r : Reading) → Shallow (m ∷ ms) r → Shallow ms (read_mark cons m r)
  unfolding read_token closed_from
  shallow_next foreign ms r h = h
  shallow_next (token opening) ms r h = second (eqb (length r.lists) most_open) _ h
    where
      second : (a b : Bool) → (a || b) ≡ false → b ≡ false
      second true b e = let z : ◌≡◌ {A = ℕ} 0 1 = cc in absurd (omega arith)
      second false b e = e
  shallow_next (token closing) ms r h = go r.lists h
    where
      go : (ls : List OpenList) → deep_marks (pred (length ls)) ms ≡ false → Shallow ms (closed cons r.words r.store ls)
      go [] k = k
      go (l ∷ ls) k = k
  shallow_next (token dot) ms r h = go r.lists h
    where
      go : (ls : List OpenList) → deep_marks (length ls) ms ≡ false → deep_marks (length (with_dot ls)) ms ≡ false
      go [] k = k
      go (l ∷ ls) k = k
  shallow_next (token (number v)) ms r h = h

  pub shallow_all : (ms ns : List Mark) (r : Reading) → Shallow (ms ++ ns) r → Shallow ns (read_all cons r ms)
  unfolding read_all
  shallow_all [] ns r h = h
  shallow_all (m ∷ ms) ns r h = shallow_all ms ns (read_mark cons m r) (shallow_next m (ms ++ ns) r h)

  -- a token of a text in the notation is read
  stands_next : (s : Store) (t : Tree) (m : Mark) (ms : List Mark) (r : Reading) → Stands cons s t (m ∷ ms) r → Stands cons s t ms (read_mark cons m r)
  stands_next s t foreign ms r h = never_within (onward foreign h.frames ms t h.parsed).next
  stands_next s t (token k) ms r h =
      let fs = h.frames in
      let o = onward (token k) fs ms t h.parsed in
      record {
        frames = o.frames;
        based = based_next k fs o.frames h.based o.next;
        stands = ap (read_token cons k) h.stands ∙ read_next s k fs o.frames h.based o.next;
        parsed = o.parsed;
      }

  pub stands_all : (s : Store) (t : Tree) (ms ns : List Mark) (r : Reading) → Stands cons s t (ms ++ ns) r → Stands cons s t ns (read_all cons r ms)
  unfolding read_all
  stands_all s t [] ns r h = h
  stands_all s t (m ∷ ms) ns r h = stands_all s t ms ns (read_mark cons m r) (stands_next s t m (ms ++ ns) r h)

  -- before the first token
  pub stands_first : (s : Store) (t : Tree) (text : List ℕ) → parse text ≡ tree t → Stands cons s t (marks_of text) (reading [] [] s)
  unfolding parse standing in_order lists_of build_all
  stands_first s t text h = record { frames = start; based = refl; stands = refl; parsed = h }

  -- behind the last one the text's word stands alone, in the store that the tree is built into
  pub stands_last : (s : Store) (t : Tree) (r : Reading) → Stands cons s t [] r → r ≡ reading ((build_by cons s t).word ∷ []) [] (build_by cons s t).after
  unfolding parsed_from standing in_order lists_of build_all
  stands_last s t r h = h.stands ∙ rw (alone t h.frames h.based h.parsed)

pub reads_tree : ReadsTree
reads_tree cons s text t h =
    stands_last cons s t _ (stands_all cons s t (marks_of text) [] _ (rw (append-nil (marks_of text)) (stands_first cons s t text h)))
