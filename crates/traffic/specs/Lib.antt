-- The traffic of the load bench.
pub mod Workload
pub mod Traffic
pub mod WrongMoves
