use Rattle.calls.proofs.EarlyLaws.{stored_behind}
use Rattle.calls.proofs.CallLaws.{early_of}
use Rattle.calls.proofs.early.early_asked.Goals as goal

pub returns-in-Car : goal.returns-in-Car
returns-in-Car c =
    let i = c.args in
    early_of i.table.now i.queue.now c.cell_asked.result i.call _ c.requires c.in-Car.is c.cell_asked.ensures

pub returns-in-Cdr : goal.returns-in-Cdr
returns-in-Cdr c =
    let i = c.args in
    early_of i.table.now i.queue.now c.cell_asked-in-Cdr.result i.call _ c.requires c.in-Cdr.is c.cell_asked-in-Cdr.ensures

pub returns-in-Cons : goal.returns-in-Cons
returns-in-Cons c =
    let i = c.args in
    early_of i.table.now i.queue.now c.stored_asked.result i.call _ c.requires c.in-Cons.is
    (stored_behind _ _ _ _ c.stored_asked.ensures c.words_asked.ensures)

pub returns-in-SetLeft : goal.returns-in-SetLeft
returns-in-SetLeft c =
    let i = c.args in
    early_of i.table.now i.queue.now c.stored_asked-in-SetLeft.result i.call _ c.requires c.in-SetLeft.is
    (stored_behind _ _ _ _ c.stored_asked-in-SetLeft.ensures c.cell_asked-in-SetLeft.ensures)

pub returns-in-SetRight : goal.returns-in-SetRight
returns-in-SetRight c =
    let i = c.args in
    early_of i.table.now i.queue.now c.stored_asked-in-SetRight.result i.call _ c.requires c.in-SetRight.is
    (stored_behind _ _ _ _ c.stored_asked-in-SetRight.ensures c.cell_asked-in-SetRight.ensures)

pub returns-in-Up : goal.returns-in-Up
returns-in-Up c =
    let i = c.args in
    early_of i.table.now i.queue.now c.cell_asked-in-Up.result i.call _ c.requires c.in-Up.is c.cell_asked-in-Up.ensures

pub returns-in-Down : goal.returns-in-Down
returns-in-Down c =
    let i = c.args in
    early_of i.table.now i.queue.now c.cell_asked-in-Down.result i.call _ c.requires c.in-Down.is c.cell_asked-in-Down.ensures
