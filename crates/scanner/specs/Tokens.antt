-- What reading one token of a text gives.
use Rattle.std.specs.Prelude.{◌≡◌, List, [], ◌∷◌, ◌++◌, ℕ, ◌-◌, ◌≤◌, ◌<◌, length, get_or, take, drop}
use Rattle.base_ten.specs.Bytes.{digit_zero, digit_nine}
use Rattle.notation.specs.Trees.{largest_value}
use Rattle.notation.specs.Grammar.{opening, closing, dot, number}
use Rattle.base_ten.specs.Numbers.{number_of}
use Rattle.notation.specs.Parse.{Mark, token, foreign, number_mark, with_digits, with_byte, marks_of}
use Rattle.scanner.specs.declared.tokens.Token.{Token}
use Rattle.scanner.specs.declared.tokens.TokenRead.{TokenRead}

-- what a token is in the definition of parsing; a space is nothing
abbrev pub marks_of_token : Token → List Mark
marks_of_token Token.Blank = []
marks_of_token Token.Opening = token opening ∷ []
marks_of_token Token.Closing = token closing ∷ []
marks_of_token Token.Dot = token dot ∷ []
marks_of_token (Token.Number v) = token (number v) ∷ []
marks_of_token Token.Foreign = foreign ∷ []

abbrev pub ValueOfToken : Token → Type 0
ValueOfToken Token.Blank = Unit {0}
ValueOfToken Token.Opening = Unit {0}
ValueOfToken Token.Closing = Unit {0}
ValueOfToken Token.Dot = Unit {0}
ValueOfToken (Token.Number v) = v ≤ largest_value
ValueOfToken Token.Foreign = Unit {0}

-- what digits that stand together are, by the number that they say
pub record IsNumber (digits : List ℕ) (t : Token) : Type 0 where
  pub marks : marks_of_token t ≡ number_mark (number_of largest_value digits) ∷ []
  pub value : ValueOfToken t

-- what a byte that is no digit is
pub record IsByte (b : ℕ) (t : Token) : Type 0 where
  pub marks : (ms : List Mark) → with_byte b ms ≡ marks_of_token t ++ ms
  pub value : ValueOfToken t

-- the token that stands at a place, and the place past it
pub record TokenAt (text : List ℕ) (at : ℕ) (r : TokenRead) : Type 0 where
  pub further : at < r.next
  pub inside : r.next ≤ length text
  pub marks : marks_of (drop at text) ≡ marks_of_token r.token ++ marks_of (drop r.next text)
  pub value : ValueOfToken r.token

pub record DigitAt (text : List ℕ) (at : ℕ) : Type 0 where
  pub inside : at < length text
  pub low : digit_zero ≤ get_or text at 0
  pub high : get_or text at 0 ≤ digit_nine

-- the digits from a place on end before another
pub record DigitsEnd (text : List ℕ) (at end : ℕ) : Type 0 where
  pub further : at < end
  pub inside : end ≤ length text
  pub marks : marks_of (drop at text) ≡ with_digits (take (end - at) (drop at text)) (marks_of (drop end text))
