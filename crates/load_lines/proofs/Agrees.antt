-- The call lines are read back as the calls, so that the session program serves the same ones.
use mathlib.Core.Path.{◌≡◌, refl, ap, ◌∙◌}
use mathlib.Core.Bool.{Bool, true, false, cond}
use mathlib.Core.List.{List, [], ◌∷◌, ◌++◌, append_assoc}
use Prim.Native.Nat.{ℕ, zero, suc, ◌+◌, ◌%◌, ◌≤◌}
use native.Mathlib.Omega.{arith}
use lib.Dec.{eqb}
use borrow.Author.Tests.{eqb-false}
use Rattle.std.specs.Prelude.{Some}
use Rattle.base_ten.specs.Bytes.{ascii, line_feed, space, before, split, lines_of}
use Rattle.base_ten.specs.Decimal.{most_digits, decimal}
use Rattle.machine.specs.declared.RowCall.{RowCall}
use Rattle.machine.specs.Words.{most_cells, first_atom}
use Rattle.machine.specs.Calls.{Store}
use Rattle.line_text.specs.declared.Request.{Request}
use Rattle.line_text.specs.Requests.{most_operand}
use Rattle.call_text.specs.CallText.{one_text, two_text, row_text, call_text, call_line}
use Rattle.call_text.specs.ReadsBack.{Words}
use Rattle.call_text.proofs.TextLaws.{Free, free_append, digits_free, split_word}
use Rattle.call_text.proofs.ReadsBack.{reads_back}
use Rattle.serving.specs.Serving.{unmade}
use Rattle.session_lines.specs.Listing.{listed, listing_with, listing}
use Rattle.traffic.specs.declared.Drawn.{Drawn}
use Rattle.traffic.specs.Traffic.{moved, draw, operand_drawn, number_drawn, drawn, call_drawn, calls_drawn, traffic}
use Rattle.traffic.proofs.DrawLaws.{operand_below}
use Rattle.load_lines.specs.Agrees.{call_lines, reply_lines, Agrees}

-- a call's text has no line feed
one_free : (word : List ℕ) (x : ℕ) → Free line_feed word → Free line_feed (one_text word x)
one_free word x f = free_append line_feed word (decimal x) f (digits_free line_feed most_digits x (omega arith))

two_free : (word : List ℕ) (x y : ℕ) → Free line_feed word → Free line_feed (two_text word x y)
unfolding before
two_free word x y f = free_append line_feed (one_text word x) (one_text (space ∷ []) y) (one_free word x f) (one_free (space ∷ []) y refl)

row_free : (call : RowCall) → Free line_feed (row_text call)
unfolding before row_text
row_free (RowCall.Car x) = one_free (ascii "car ") x refl
row_free (RowCall.Cdr x) = one_free (ascii "cdr ") x refl
row_free (RowCall.Cons x y) = two_free (ascii "cons ") x y refl
row_free (RowCall.SetLeft x y) = two_free (ascii "setl ") x y refl
row_free (RowCall.SetRight x y) = two_free (ascii "setr ") x y refl
row_free (RowCall.Up x n) = two_free (ascii "up ") x n refl
row_free (RowCall.Down x n) = two_free (ascii "down ") x n refl

call_free : (request : Request) → Free line_feed (call_text request)
unfolding before call_text
call_free (Request.Fresh c) = one_free (ascii "fresh ") c refl
call_free (Request.Row call) = row_free call
call_free Request.Step = refl

-- the lines of the call lines are the calls' texts
next_line : (request : Request) (rest : List ℕ) → lines_of (call_line request ++ rest) ≡ call_text request ∷ lines_of rest
unfolding call_line
next_line request rest =
    ap lines_of (append_assoc (call_text request) (line_feed ∷ []) rest) ∙ split_word line_feed [] (call_text request) rest (call_free request)

-- calls whose operands are words of 16 bits
abbrev AllWords : List Request → Type 0
AllWords [] = Unit {0}
AllWords (request ∷ rest) = Words request × AllWords rest

same_replies : (n : ℕ) (s : Store) (requests : List Request) → AllWords requests → listed n s (lines_of (call_lines requests)) ≡ reply_lines n s requests
unfolding split listed call_lines reply_lines
same_replies n s [] h = refl
same_replies n s (request ∷ rest) h =
    rw (next_line request (call_lines rest), reads_back (Some request) h.0)
    (rw (same_replies (suc n) _ rest h.1))

-- what is drawn has 16 bits
operand_word : (c d : ℕ) → c ≤ most_operand → operand_drawn c d ≤ most_operand
unfolding operand_drawn
operand_word c d h = go (eqb (d % (c + 2)) (c + 1)) refl
  where
    go : (t : Bool) → eqb (d % (c + 2)) (c + 1) ≡ t → cond t first_atom (d % (c + 2)) ≤ most_operand
    go true e = omega arith
    go false e = omega (arith, operand_below c d (eqb-false (d % (c + 2)) (c + 1) e))

number_word : (d : ℕ) → number_drawn d ≤ most_operand
unfolding number_drawn
number_word d = omega arith

either_words : (t : Bool) (a b : Drawn) → Words a.request → Words b.request → Words (cond t a b).request
either_words true a b h g = h
either_words false a b h g = g

call_words : (c s : ℕ) → c ≤ most_operand → Words (call_drawn c s).request
unfolding call_drawn
call_words c s h =
    let kind = draw s % 8 in
    let s₂ = moved (moved s) in
    let s₃ = moved s₂ in
    let first = operand_drawn c (draw (moved s)) in
    let second = operand_drawn c (draw s₂) in
    let number = number_drawn (draw s₂) in
    let x : first ≤ most_operand = operand_word c (draw (moved s)) h in
    let y : second ≤ most_operand = operand_word c (draw s₂) h in
    let n : number ≤ most_operand = number_word (draw s₂) in
    let car = drawn (Request.Row (RowCall.Car first)) s₂ in
    let cdr = drawn (Request.Row (RowCall.Cdr first)) s₂ in
    let cons = drawn (Request.Row (RowCall.Cons first second)) s₃ in
    let setl = drawn (Request.Row (RowCall.SetLeft first second)) s₃ in
    let setr = drawn (Request.Row (RowCall.SetRight first second)) s₃ in
    let up = drawn (Request.Row (RowCall.Up first number)) s₃ in
    let down = drawn (Request.Row (RowCall.Down first number)) s₃ in
    let from6 = cond (eqb kind 6) down (drawn Request.Step (moved s)) in
    let from5 = cond (eqb kind 5) up from6 in
    let from4 = cond (eqb kind 4) setr from5 in
    let from3 = cond (eqb kind 3) setl from4 in
    let from2 = cond (eqb kind 2) cons from3 in
    let from1 = cond (eqb kind 1) cdr from2 in
    either_words (eqb kind 0) car from1 x
    (either_words (eqb kind 1) cdr from2 x
    (either_words (eqb kind 2) cons from3 (x, y)
    (either_words (eqb kind 3) setl from4 (x, y)
    (either_words (eqb kind 4) setr from5 (x, y)
    (either_words (eqb kind 5) up from6 (x, n) (either_words (eqb kind 6) down (drawn Request.Step (moved s)) (x, n) tt))))))

calls_words : (c s n : ℕ) → c ≤ most_operand → AllWords (calls_drawn c s n)
unfolding calls_drawn
calls_words c s zero h = tt
calls_words c s (suc n) h = (call_words c s h, calls_words c (call_drawn c s).state n h)

pub agrees : Agrees
unfolding traffic listing listing_with
agrees seed c n h = same_replies 0 (unmade most_cells) (traffic seed c n) (h, calls_words c seed n h)
