use native.Mathlib.Omega.{arith}
use borrow.Author.Rules.{rules}
use mathlib.Core.Path.{◌≡◌}
use Rattle.std.specs.Prelude.{Err}
use Rattle.machine.proofs.Questions.{says_yes, says_no, asked_lent}
use Rattle.scratch_counts.proofs.Counts.{scratch_of}
use Rattle.audit.proofs.Verdict.{audited_refused, audited_judged}
use Rattle.audit.proofs.audit_store.Goals as goal

pub returns-in_err-lent : goal.returns-in_err-lent
returns-in_err-lent c =
    let i = c.args in
    let r = c.in_err-lent.field-0.0 in
    let same : c.from_residual.result ≡ Err r = search rules in
    rw same (audited_refused i.table.now i.queue i.scratch.now r (says_no i.table.now i.queue i.scratch.now _ r c.lent.ensures c.in_err-lent.was))

pub judge-finding-requires : goal.judge-finding-requires
judge-finding-requires c =
    let i = c.args in
    let yes = says_yes i.table.now i.queue i.scratch.now _ c.lent.ensures c.in_ok-lent.was in
    asked_lent i.table.now i.queue i.scratch.now yes

pub capacity_of-requires : goal.capacity_of-requires
capacity_of-requires c =
    let i = c.args in
    let yes = says_yes i.table.now i.queue i.scratch.now _ c.lent.ensures c.in_ok-lent.was in
    let shape = (asked_lent i.table.now i.queue i.scratch.now yes).shape.table in
    omega (arith, shape.room)

pub clear-requires : goal.clear-requires
clear-requires c =
    let i = c.args in
    let yes = says_yes i.table.now i.queue i.scratch.now _ c.lent.ensures c.in_ok-lent.was in
    let lent = asked_lent i.table.now i.queue i.scratch.now yes in
    let enough = scratch_of _ _ i.table.now c.capacity_of.ensures lent.scratch in
    omega (arith, c.judge-finding.auto.scratch)

pub returns : goal.returns
returns c =
    let i = c.args in
    let yes = says_yes i.table.now i.queue i.scratch.now _ c.lent.ensures c.in_ok-lent.was in
    audited_judged i.table.now i.queue i.scratch.now yes _ _ _ _ c.judge-finding.ensures c.capacity_of.ensures
    c.clear.ensures
