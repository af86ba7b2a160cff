pub mod Early
pub mod Packets
pub mod Writes
pub mod Tests
pub mod Tally
pub mod Called
