-- The line of a call.
pub mod CallText
pub mod ReadsBack
