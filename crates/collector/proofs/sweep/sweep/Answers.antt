use native.Mathlib.Omega.{arith}
use Rattle.collector.proofs.SweepPass.{pass_none, at_cell, few_freed, pass_more, sweeps_all}
use Rattle.collector.proofs.sweep.sweep.Goals as goal

pub loop-i-init : goal.loop-i-init
loop-i-init c = pass_none c.args.table.now c.args.scratch.now c.requires.0 _ c.capacity_of-i.ensures

pub sweep_cell-freed-requires : goal.sweep_cell-freed-requires
sweep_cell-freed-requires c =
    let l = c.loop-i in
    at_cell c.args.table.now c.args.scratch.now l.i _ (omega arith) (omega arith) l.table l.freed l.invariant c.requires.1

pub overflow_add-freed : goal.overflow_add-freed
overflow_add-freed c =
    let l = c.loop-i in
    omega (arith, c.requires.0.most, few_freed c.args.table.now c.args.scratch.now l.i _ (omega arith) (omega arith) l.table l.freed l.invariant _ _ c.sweep_cell-freed.ensures)

pub loop-i-preserved : goal.loop-i-preserved
loop-i-preserved c =
    let l = c.loop-i in
    pass_more c.args.table.now c.args.scratch.now l.i _ (omega arith) (omega arith) l.table l.freed l.invariant _ _ c.sweep_cell-freed.ensures

pub returns : goal.returns
returns c =
    let l = c.loop-i in
    let i = c.args in
    sweeps_all i.table.now i.scratch.now l.i l.table l.freed l.invariant (omega arith)
