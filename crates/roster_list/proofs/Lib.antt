-- Why the walks give what is there, and what changes make of the list.
pub mod Asking
pub mod Held
pub mod Turning
pub mod Walking
pub mod SeatLaws
pub mod EntryLaws
pub mod NodeLaws
pub mod CellLaws
