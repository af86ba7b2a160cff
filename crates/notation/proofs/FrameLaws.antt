-- The stack of open lists is the grammar: tokens that are a datum deliver it, and tokens that lead to a tree are what the open lists want.
use mathlib.Core.Path.{◌≡◌, refl, ap, ◌∙◌}
use mathlib.Core.List.{List, [], ◌∷◌, ◌++◌, map, append-nil, append_assoc}
use Rattle.notation.specs.Trees.{Tree, nil}
use Rattle.notation.specs.Grammar.{Token, opening, closing, dot, number, Datum, valued, empty, listed, Rest, closed, dotted as behind_dot, further}
use Rattle.notation.specs.Parse.{Mark, token, foreign}
use Rattle.notation.specs.Parse.{Frame, plain, dotted, full, State, within, outside, deliver, list_of, close_list, on_token, next, parsed_from, start, tree, tree_of}
use Rattle.notation.proofs.Tall.{stays_outside}
use Rattle.notation.proofs.MarkLaws.{clash}

abbrev pub run : State → List Token → State
run s ts = parsed_from s (map token ts)

run_append : (s : State) (ts us : List Token) → run s (ts ++ us) ≡ run (run s ts) us
unfolding parsed_from
run_append s [] us = refl
run_append s (t ∷ ts) us = run_append (next (token t) s) ts us

-- a list's end, where the list it stands in may be none
closes_plain : (es : List Tree) (fs : List Frame) → close_list (plain es ∷ fs) ≡ deliver (list_of es nil) fs
closes_plain es [] = refl
closes_plain es (f ∷ fs) = refl

closes_full : (es : List Tree) (l : Tree) (fs : List Frame) → close_list (full es l ∷ fs) ≡ deliver (list_of es l) fs
closes_full es l [] = refl
closes_full es l (f ∷ fs) = refl

-- a datum's tokens deliver it
abbrev Delivers : List Token → Tree → Type 0
Delivers ts a = (fs : List Frame) → run (within fs) ts ≡ deliver a fs

-- what follows an element ends its list
abbrev Finishes : List Token → Tree → Type 0
Finishes us d = (e : Tree) (es : List Tree) (fs : List Frame) → run (within (plain (e ∷ es) ∷ fs)) us ≡ deliver (list_of (e ∷ es) d) fs

-- one datum first, then other tokens
run_datum : (ts : List Token) (a : Tree) → Delivers ts a → (us : List Token) (fs : List Frame) → run (within fs) (ts ++ us) ≡ run (deliver a fs) us
run_datum ts a p us fs = run_append (within fs) ts us ∙ ap (λ (s : State). run s us) (p fs)

pub datum_parsed : {ts : List Token} {a : Tree} → Datum ts a → Delivers ts a
unfolding parsed_from list_of
datum_parsed x = elim x as (λ ts a y. Delivers ts a) (λ us d y. Finishes us d) [
  | valued v ↦ λ fs. refl
  | empty ↦ λ fs. closes_plain [] fs
  | listed {ts} {us} {a} (y → p) (r → q) ↦ λ fs. run_datum ts a p us (plain [] ∷ fs) ∙ q a [] fs
  | closed ↦ λ e es fs. closes_plain (e ∷ es) fs
  | behind_dot {ts} {d} (y → p) ↦ λ e es fs. run_datum ts d p (closing ∷ []) (dotted (e ∷ es) ∷ fs) ∙ closes_full (e ∷ es) d fs
  | further {ts} {us} {a} (y → p) (r → q) ↦ λ e es fs. run_datum ts a p us (plain (e ∷ es) ∷ fs) ∙ q a (e ∷ es) fs
]

-- What the open lists want so that a tree comes out: the innermost list its rest, and what is left the lists around it.
data Wants : State → List Token → Tree → Type 0 where
  -- the text itself: its one datum, or no more; its other states are never met
  whole : {es : List Tree} {ts : List Token} {t : Tree} → Datum ts t → Wants (within (dotted es ∷ [])) ts t
  nothing : {es : List Tree} {t : Tree} → Wants (within (full es t ∷ [])) [] t
  anything : {es : List Tree} {ts : List Token} {t : Tree} → Wants (within (plain es ∷ [])) ts t
  unused : {ts : List Token} {t : Tree} → Wants (within []) ts t
  -- a list
  begun : {us ts : List Token} {a t : Tree} {f : Frame} {fs : List Frame}
      → Datum (opening ∷ us) a → Wants (deliver a (f ∷ fs)) ts t → Wants (within (plain [] ∷ f ∷ fs)) (us ++ ts) t
  onward : {us ts : List Token} {e d t : Tree} {es : List Tree} {f : Frame} {fs : List Frame}
      → Rest us d → Wants (deliver (list_of (e ∷ es) d) (f ∷ fs)) ts t → Wants (within (plain (e ∷ es) ∷ f ∷ fs)) (us ++ ts) t
  part : {us ts : List Token} {l t : Tree} {es : List Tree} {f : Frame} {fs : List Frame}
      → Datum us l → Wants (deliver (list_of es l) (f ∷ fs)) ts t → Wants (within (dotted es ∷ f ∷ fs)) (us ++ (closing ∷ ts)) t
  end : {ts : List Token} {l t : Tree} {es : List Tree} {f : Frame} {fs : List Frame}
      → Wants (deliver (list_of es l) (f ∷ fs)) ts t → Wants (within (full es l ∷ f ∷ fs)) (closing ∷ ts) t

-- a datum before what is wanted behind it
wants_datum : {us ts : List Token} {a t : Tree} (fs : List Frame) → Datum us a → Wants (deliver a fs) ts t → Wants (within fs) (us ++ ts) t
unfolding list_of
wants_datum [] x w = unused
wants_datum {us} (dotted es ∷ []) x nothing = rw append-nil (whole x)
wants_datum (plain es ∷ []) x w = anything
wants_datum {us} (plain [] ∷ f ∷ fs) x (onward {us = vs} {ts} r w) = rw (← append_assoc us vs ts) (begun (listed x r) w)
wants_datum {us} (plain (e ∷ es) ∷ f ∷ fs) x (onward {us = vs} {ts} r w) = rw (← append_assoc us vs ts) (onward (further x r) w)
wants_datum (dotted es ∷ f ∷ fs) x (end w) = part x w
wants_datum (full es l ∷ fs) x w = elim w [ ]

wants_outside : {ts : List Token} {t : Tree} {A : Type 0} → Wants outside ts t → A
wants_outside w = elim w [ ]

-- a token before what is wanted behind it
wants_token : {ts : List Token} {t : Tree} (k : Token) (fs : List Frame) → Wants (on_token k fs) ts t → Wants (within fs) (k ∷ ts) t
unfolding list_of
wants_token (number v) fs w = wants_datum fs (valued v) w
wants_token opening [] w = unused
wants_token opening (f ∷ fs) (begun x w) = wants_datum (f ∷ fs) x w
wants_token closing [] w = wants_outside w
wants_token closing (f ∷ []) w = wants_outside w
wants_token closing (plain [] ∷ f ∷ fs) w = begun empty w
wants_token closing (plain (e ∷ es) ∷ f ∷ fs) w = onward closed w
wants_token closing (full es l ∷ f ∷ fs) w = end w
wants_token closing (dotted es ∷ f ∷ fs) w = wants_outside w
wants_token dot [] w = unused
wants_token dot (plain es ∷ []) w = anything
wants_token dot (plain (e ∷ es) ∷ f ∷ fs) (part {us} {ts} x w) = rw (← append_assoc us (closing ∷ []) ts) (onward (behind_dot x) w)
wants_token dot (plain [] ∷ f ∷ fs) w = elim w [ ]
wants_token dot (dotted es ∷ fs) w = elim w [ ]
wants_token dot (full es l ∷ fs) w = elim w [ ]

wants : (ts : List Token) (s : State) (t : Tree) → tree_of (run s ts) ≡ tree t → Wants s ts t
unfolding parsed_from
wants [] outside t e = clash (cc)
wants [] (within []) t e = unused
wants [] (within (plain es ∷ [])) t e = anything
wants [] (within (plain es ∷ f ∷ fs)) t e = clash (cc)
wants [] (within (dotted es ∷ fs)) t e = clash (cc)
wants [] (within (full es u ∷ [])) t e = let same : u ≡ t = cc in rw same nothing
wants [] (within (full es u ∷ f ∷ fs)) t e = clash (cc)
wants (k ∷ ts) (within fs) t e = wants_token k fs (wants ts (on_token k fs) t e)
wants (k ∷ ts) outside t e = clash (cc (stays_outside (map token ts)))

-- tokens that lead from the text's beginning to a tree are a datum
pub parsed_datum : (ts : List Token) (t : Tree) → tree_of (run (within start) ts) ≡ tree t → Datum ts t
parsed_datum ts t e = go (wants ts (within start) t e)
  where
    go : Wants (within start) ts t → Datum ts t
    go (whole x) = x

-- marks that lead to a tree are tokens
abbrev pub tokens_of : List Mark → List Token
tokens_of [] = []
tokens_of (token k ∷ ms) = k ∷ tokens_of ms
tokens_of (foreign ∷ ms) = tokens_of ms

pub parsed_tokens : (s : State) (ms : List Mark) (t : Tree) → tree_of (parsed_from s ms) ≡ tree t → ms ≡ map token (tokens_of ms)
unfolding parsed_from
parsed_tokens s [] t e = refl
parsed_tokens s (token k ∷ ms) t e = ap {B = List Mark} (λ x. token k ∷ x) (parsed_tokens (next (token k) s) ms t e)
parsed_tokens outside (foreign ∷ ms) t e = clash (cc (stays_outside ms))
parsed_tokens (within fs) (foreign ∷ ms) t e = clash (cc (stays_outside ms))
