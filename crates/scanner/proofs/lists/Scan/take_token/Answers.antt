use Rattle.std.proofs.Common.{arith}
use Rattle.notation.specs.Grammar.{opening, closing, dot, number}
use Rattle.scanner.proofs.ScanLaws.{blank_read, token_read, foreign_read, number_read, taken_from}
use Rattle.scanner.proofs.lists.Scan.take_token.Goals as goal

pub returns-in-Blank : goal.returns-in-Blank
returns-in-Blank c =
    let read = c.token_at-read.ensures in
    let asked = c.requires in
    let same = rw c.in-Blank.is at read.marks in
    (blank_read _ _ _ _ asked.0 read.further read.inside same, omega (arith, read.further))

pub returns-in-Opening : goal.returns-in-Opening
returns-in-Opening c =
    let read = c.token_at-read.ensures in
    let asked = c.requires in
    let same = rw c.in-Opening.is at read.marks in
    taken_from _ _ c.open_list.result read.further (c.open_list.ensures _ (token_read _ _ _ _ asked.0 read.further read.inside opening same))

pub returns-in-Closing : goal.returns-in-Closing
returns-in-Closing c =
    let read = c.token_at-read.ensures in
    let asked = c.requires in
    let same = rw c.in-Closing.is at read.marks in
    taken_from _ _ c.close_list.result read.further (c.close_list.ensures _ (token_read _ _ _ _ asked.0 read.further read.inside closing same))

pub returns-in-Dot : goal.returns-in-Dot
returns-in-Dot c =
    let read = c.token_at-read.ensures in
    let asked = c.requires in
    let same = rw c.in-Dot.is at read.marks in
    taken_from _ _ c.put_dot.result read.further (c.put_dot.ensures _ _ (token_read _ _ _ _ asked.0 read.further read.inside dot same))

pub returns-in-Number : goal.returns-in-Number
returns-in-Number c =
    let read = c.token_at-read.ensures in
    let asked = c.requires in
    let same = rw c.in-Number.is at read.marks in
    let x = token_read _ _ _ _ asked.0 read.further read.inside (number _) same in
    taken_from _ _ c.deliver.result read.further (c.deliver.ensures _ _ _ (number_read _ _ _ _ _ c.max-largest.ensures x))

pub returns-in-Foreign : goal.returns-in-Foreign
returns-in-Foreign c =
    let read = c.token_at-read.ensures in
    let asked = c.requires in
    foreign_read _ _ _ c.token_at-read.result.next asked.0 (rw c.in-Foreign.is at read.marks)
