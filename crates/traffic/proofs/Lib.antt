pub mod DrawLaws
pub mod InputLaws
pub mod CapLaws
pub mod WrongMoves
