use mathlib.Core.Path.{refl}
use mathlib.Core.List.{[]}
use native.Mathlib.Omega.{arith}
use lib.ListN.{take, length-set}
use Rattle.machine.specs.Calls.{store}
use Rattle.reader.specs.Reading.{ended}
use Rattle.reader.proofs.HeldLaws.{some_words, words_number_lem, list_closed}
use Rattle.reader.proofs.build.close.Goals as goal

pub overflow_sub-end : goal.overflow_sub-end
overflow_sub-end c =
    some_words _ _ c.end_list-end.ensures.2 c.requires.2

pub list-made-requires : goal.list-made-requires
list-made-requires c =
    let n = words_number_lem _ _ _ c.end_list-end.ensures.2 c.end_list-end.ensures.1 c.end_list-end.ensures.0 in
    (c.end_list-end.ensures.0, omega (arith, n, c.requires.2), omega (arith, c.end_list-end.ensures.1, n, c.requires.2))

pub returns : goal.returns
returns c = (
  simp length-set c.end_list-end.ensures.0,
  λ ls.
      list_closed (store c.args.table.now c.args.queue []) (ended c.args.dotted (take c.args.count c.args.words.now))
      c.end_list-end.new.words _ c.args.start c.end_list-end.result _ _ _ ls
      c.end_list-end.ensures.2 c.requires.2 (omega (arith, c.end_list-end.ensures.1, c.end_list-end.ensures.0)) c.list-made.ensures refl,
)
