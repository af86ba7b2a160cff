-- A call's line is read as that call.
use mathlib.Core.Path.{◌≡◌, refl, sym, ◌∙◌}
use mathlib.Core.List.{List, [], ◌∷◌, ◌++◌}
use Prim.Native.Nat.{ℕ, ◌≤◌}
use native.Mathlib.Omega.{arith}
use Rattle.std.specs.Prelude.{Some, None}
use Rattle.base_ten.specs.Bytes.{ascii, space, split, words_of}
use Rattle.base_ten.specs.Numbers.{number_of}
use Rattle.base_ten.specs.Decimal.{most_digits, decimal}
use Rattle.base_ten.proofs.WordLaws.{split_all}
use Rattle.base_ten.proofs.DecimalRead.{decimal_read}
use Rattle.machine.specs.declared.RowCall.{RowCall}
use Rattle.line_text.specs.declared.Request.{Request}
use Rattle.line_text.specs.Requests.{most_operand, with_none, with_one, with_two, by_words, request_of}
use Rattle.line_text.proofs.RequestLaws.{line_short}
use Rattle.call_text.specs.CallText.{row_text, call_text}
use Rattle.call_text.specs.ReadsBack.{RowWords, Words, ReadsBack}
use Rattle.call_text.proofs.TextLaws.{call_length, digits_free, split_word}

-- an operand is a word by itself
decimal_alone : (n : ℕ) → words_of (decimal n) ≡ decimal n ∷ []
decimal_alone n = split_all space (decimal n) (digits_free space most_digits n (omega arith))

operand_read : (n : ℕ) → n ≤ most_operand → number_of most_operand (decimal n) ≡ Some n
operand_read n h = decimal_read most_operand n h (omega arith)

reads_one : (k : List ℕ) (x : ℕ) → x ≤ most_operand → by_words (k ∷ words_of (decimal x)) ≡ with_one k x
unfolding by_words
reads_one k x h = rw (decimal_alone x, operand_read x h)

reads_two : (k : List ℕ) (x y : ℕ) → x ≤ most_operand → y ≤ most_operand → by_words (k ∷ words_of (decimal x ++ (space ∷ decimal y))) ≡ with_two k x y
unfolding by_words
reads_two k x y h g =
    rw (split_word space ([] ∷ []) (decimal x) (decimal y) (digits_free space most_digits x (omega arith)), decimal_alone y, operand_read x h, operand_read y g)

-- keyword by keyword
row_back : (call : RowCall) → RowWords call → by_words (words_of (row_text call)) ≡ Some (Request.Row call)
unfolding row_text split with_one with_two
row_back (RowCall.Car x) h = reads_one (ascii "car") x h
row_back (RowCall.Cdr x) h = reads_one (ascii "cdr") x h
row_back (RowCall.Cons x y) h = reads_two (ascii "cons") x y h.0 h.1
row_back (RowCall.SetLeft x y) h = reads_two (ascii "setl") x y h.0 h.1
row_back (RowCall.SetRight x y) h = reads_two (ascii "setr") x y h.0 h.1
row_back (RowCall.Up x n) h = reads_two (ascii "up") x n h.0 h.1
row_back (RowCall.Down x n) h = reads_two (ascii "down") x n h.0 h.1

words_back : (request : Request) → Words request → by_words (words_of (call_text request)) ≡ Some request
unfolding call_text split with_none with_one by_words
words_back (Request.Fresh c) h = reads_one (ascii "fresh") c h
words_back (Request.Row call) h = row_back call h
words_back Request.Step h = refl

pub reads_back : ReadsBack
unfolding split with_none by_words request_of
reads_back (Some request) h = sym (line_short (call_text request) (omega (arith, call_length request))) ∙ words_back request h
reads_back None h = refl
