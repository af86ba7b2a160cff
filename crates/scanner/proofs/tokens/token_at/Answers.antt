use Rattle.std.proofs.Common.{sym, ◌∙◌, arith}
use Rattle.scanner.proofs.TokenLaws.{byte_token, number_token}
use Rattle.scanner.proofs.tokens.token_at.Goals as goal

pub digits_end-next-requires : goal.digits_end-next-requires
digits_end-next-requires c =
    let range = c.if-is_ascii_digit.ensures.cases in
    record { inside = c.requires; low = omega (arith, range); high = omega (arith, range) }

pub returns-then-is_ascii_digit : goal.returns-then-is_ascii_digit
returns-then-is_ascii_digit c = number_token _ _ _ _ c.digits_end-next.ensures c.number_of.ensures

pub returns : goal.returns
returns c = byte_token _ _ _ c.requires (sym c.is_ascii_digit.ensures.value ∙ c.if-is_ascii_digit.false) c.token_of.ensures
