use mathlib.Core.Path.{ap, ◌∙◌, ◌≡◌}
use native.Mathlib.Omega.{arith}
use Rattle.machine.specs.Queue.{Packet}
use Rattle.audit_pointers.specs.EarlierFields.{field_before}
use Rattle.audit_pointers.proofs.EarlierFields.{stage_none, stage_less}
use Rattle.audit_pointers.proofs.earlier.stage_field.Goals as goal

pub loop-j-init : goal.loop-j-init
loop-j-init c =
    let i = c.args in
    record { from = omega arith; count = omega arith; field = c.field-w.ensures ∙ stage_none i.table.now i.queue.now i.index i.k }

pub loop-j-preserved : goal.loop-j-preserved
loop-j-preserved c =
    let i = c.args in
    let l = c.loop-j in record {
      from = omega arith;
      count = omega arith;
      field = c.field_before-w.ensures ∙ ap (λ (p : Packet). field_before p i.index i.k l.w) c.packet_on.ensures
          ∙ stage_less i.table.now i.queue.now i.index i.k l.w l.j (omega arith) l.invariant.count l.invariant.field;
    }

pub returns : goal.returns
returns c =
    let e : c.loop-j.j ≡ c.args.from = omega arith in
    rw e at c.loop-j.invariant.field
