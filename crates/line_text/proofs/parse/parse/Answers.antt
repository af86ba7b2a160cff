use Rattle.std.proofs.Common.{◌∙◌, arith, rules, ◌≡◌, false, true}
use Rattle.std.specs.Str.{bytes_eq}
use Rattle.base_ten.specs.Bytes.{ascii}
use Rattle.line_text.proofs.RequestLaws.{alone_step, alone_bad, line_long, with_words}
use Rattle.line_text.proofs.parse.parse.Goals as goal

pub returns-then-line-gt-MOST_BYTES : goal.returns-then-line-gt-MOST_BYTES
returns-then-line-gt-MOST_BYTES c = line_long _ (omega arith)

pub returns-then-same : goal.returns-then-same
returns-then-same c = let same : bytes_eq c.args.line.now (ascii "step") ≡ true = search rules in alone_step _ same

pub returns-in-None : goal.returns-in-None
returns-in-None c = let other : bytes_eq c.args.line.now (ascii "step") ≡ false = search rules in alone_bad _ c.in-None.ensures (omega arith) other

pub returns-in-Some : goal.returns-in-Some
returns-in-Some c = c.operands.ensures ∙ with_words c.in-Some.ensures (omega arith)
