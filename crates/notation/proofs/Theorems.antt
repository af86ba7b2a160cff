-- Parsing is the grammar, and it undoes printing.
use mathlib.Core.Path.{◌≡◌, refl, sym, ap, ◌∙◌}
use mathlib.Core.Bool.{false}
use mathlib.Core.List.{List, [], ◌++◌, append-nil}
use Prim.Native.Nat.{ℕ, zero-le}
use Rattle.notation.specs.Trees.{Tree, Values}
use Rattle.notation.specs.Grammar.{Spells, ends, InNotation}
use Rattle.notation.specs.Parse.{within, marks_of, start, parse, tree}
use Rattle.notation.specs.Print.{print}
use Rattle.notation.specs.Recognises.{Recognises, ParsesPrinted, ValuesRead, OneMeaning, PrintsShallow}
use Rattle.notation.proofs.MarkLaws.{spelled, spells}
use Rattle.notation.proofs.FrameLaws.{tokens_of, datum_parsed, parsed_datum, parsed_tokens}
use Rattle.notation.proofs.PrintLaws.{printed, printed_datum, print_spells}
use Rattle.notation.proofs.ValueLaws.{spelled_values, datum_values}
use Rattle.notation.proofs.DepthLaws.{tokens_too_deep, spelled_deep, datum_fits, printed_fits}

in_notation_lem : (text : List ℕ) (t : Tree) → parse text ≡ tree t → InNotation text t
unfolding parse
in_notation_lem text t e =
    let marks = parsed_tokens (within start) (marks_of text) t e in
    record {
      tokens = tokens_of (marks_of text);
      spells = spells text (tokens_of (marks_of text)) marks;
      datum = parsed_datum (tokens_of (marks_of text)) t (rw marks at e);
    }

parses : (text : List ℕ) (t : Tree) → InNotation text t → parse text ≡ tree t
unfolding parse
parses text t n = rw (spelled n.spells, datum_parsed n.datum start)

pub recognises : Recognises
recognises text t = (in_notation_lem text t, parses text t)

-- so a text has one meaning
pub one_meaning : OneMeaning
one_meaning text t u m n = cc (parses text t m, parses text u n)

print_is : (t : Tree) → Values t → Spells (print t) (printed t)
print_is t h = rw (append-nil (print t), append-nil (printed t)) at (print_spells t h tt ends)

pub parses_printed : ParsesPrinted
parses_printed t h = parses (print t) t (record {
  tokens = printed t;
  spells = print_is t h;
  datum = printed_datum t;
})

pub values_read : ValuesRead
values_read text t e = let n = in_notation_lem text t e in datum_values n.datum (spelled_values n.spells)

-- printing needs no more brackets open together than any other text of the tree
pub print_shallow : PrintsShallow
print_shallow text t e h =
    let n = in_notation_lem text t e in
    let tokens : tokens_too_deep 0 (n.tokens ++ []) ≡ false = rw (append-nil n.tokens) (sym (spelled_deep n.spells 0) ∙ h) in
    let room = datum_fits n.datum 0 [] zero-le tokens in
    spelled_deep (print_is t (values_read text t e)) 0
    ∙ ap (tokens_too_deep 0) (sym (append-nil (printed t)))
    ∙ printed_fits t 0 [] room.enough refl
