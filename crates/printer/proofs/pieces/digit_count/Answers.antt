use borrow.Author.Rules.{rules}
use Rattle.printer.proofs.PieceLaws.{digits_count}
use Rattle.printer.proofs.pieces.digit_count.Goals as goal

pub returns-then-v-lt10 : goal.returns-then-v-lt10
returns-then-v-lt10 c = digits_count 0 20 _ (search rules) (search rules) (λ z. search rules)

pub returns-then-v-lt100 : goal.returns-then-v-lt100
returns-then-v-lt100 c = digits_count 1 20 _ (search rules) (search rules) (λ z. search rules)

pub returns-then-v-lt1000 : goal.returns-then-v-lt1000
returns-then-v-lt1000 c = digits_count 2 20 _ (search rules) (search rules) (λ z. search rules)

pub returns-then-v-lt10000 : goal.returns-then-v-lt10000
returns-then-v-lt10000 c = digits_count 3 20 _ (search rules) (search rules) (λ z. search rules)

pub returns : goal.returns
returns c = digits_count 4 20 _ (search rules) (search rules) (λ z. search rules)
