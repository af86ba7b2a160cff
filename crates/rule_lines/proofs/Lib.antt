-- Why a line's answer depends on the line alone.
pub mod TextSize
pub mod StoreLaws
pub mod HoldLaws
pub mod TextLaws
pub mod Promised
pub mod AnswerLaws
pub mod TellsLaws
pub mod FeedLaws
pub mod Theorem
pub mod Known
