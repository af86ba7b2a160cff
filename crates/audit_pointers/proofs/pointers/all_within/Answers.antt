use Rattle.std.proofs.Common.{◌∙◌, ℕ, take, rules, tests}
use Rattle.std.proofs.lemmas.Iterator.{YieldsList-from_slice}
use Rattle.std.proofs.lemmas.Iterator.Search.{all_from_yields_List}
use lib.Dec.{leb}
use Rattle.machine.specs.Table.{scratch_words}
use Rattle.machine.specs.Words.{ceiling}
use Rattle.machine.proofs.Below.{front_all}
use Rattle.audit_pointers.specs.PointerCounts.{count_within}
use Rattle.audit_pointers.proofs.pointers.all_within.Goals as goal

pub returns : goal.returns
unfolding count_within scratch_words
returns c =
    let within = λ (n : ℕ). leb n ceiling in
    let s = c.args.scratch.now in
    all_from_yields_List within _ _ _ c.all.ensures.ran (YieldsList-from_slice (take c.args.c s) (cc)) (λ x b q k. search (rules, tests))
    ∙ front_all c.args.c s within c.requires
