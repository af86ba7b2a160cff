pub mod Known
pub mod LineLaws
pub mod TellsLaws
pub mod FeedLaws
pub mod Theorem
