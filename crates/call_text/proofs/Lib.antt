pub mod TextLaws
pub mod ReadsBack
