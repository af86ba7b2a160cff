use mathlib.Core.Path.{◌∙◌}
use native.Mathlib.Omega.{arith}
use Rattle.base_ten.specs.Decimal.{most_digits}
use Rattle.base_ten.proofs.PutLaws.{put_both_lem, put_within, digits_length}
use Rattle.line_text.specs.Texts.{verdict_room, output_line}
use Rattle.line_text.proofs.PutLaws.{verdict_length}
use Rattle.line_text.proofs.texts.put_line.Goals as goal

pub put_word-spaced-requires : goal.put_word-spaced-requires
put_word-spaced-requires c =
    omega (arith, digits_length most_digits c.args.count.now)

pub put_verdict-told-requires : goal.put_verdict-told-requires
put_verdict-told-requires c =
    let numbered = put_within most_digits c.put-numbered.ensures (digits_length most_digits c.args.count.now) in
    let spaced = c.put_word-spaced.ensures.ends in
    omega (arith, numbered, spaced, c.put-numbered.auto.out, c.put_word-spaced.auto.out, c.requires)

pub put_word-requires : goal.put_word-requires
put_word-requires c =
    let numbered = put_within most_digits c.put-numbered.ensures (digits_length most_digits c.args.count.now) in
    let spaced = c.put_word-spaced.ensures.ends in
    let told = put_within verdict_room c.put_verdict-told.ensures (verdict_length c.args.verdict) in
    let same = c.put_verdict-told.auto.out ∙ c.put_word-spaced.auto.out ∙ c.put-numbered.auto.out in
    omega (arith, numbered, spaced, told, same, c.requires)

pub returns : goal.returns
unfolding output_line
returns c =
    let numbered = c.put-numbered.ensures in
    let spaced = put_both_lem numbered c.put_word-spaced.ensures in
    let told = put_both_lem spaced c.put_verdict-told.ensures in
    put_both_lem told c.put_word.ensures
