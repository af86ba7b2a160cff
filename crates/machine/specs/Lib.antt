-- The machine of document 01, in its order. What a reader must believe stands in these modules.
pub mod Range
pub mod Words
pub mod Table
pub mod Queue
pub mod Packets
pub mod Counts
pub mod Reached
pub mod Calls
pub mod Step
pub mod Texts
pub mod TextFacts
pub mod Questions
pub mod Audit
pub mod Facts
pub mod Machine
pub mod Answers
pub mod Promise
pub mod AuditedSound
pub mod RootsByCell
pub mod Counters
pub mod Worked
pub mod Cases
pub mod Stages
-- what a step's code does instead of marking: no promise speaks of it
pub mod ShortWay
pub mod Suspects
pub mod WrongAnswers
