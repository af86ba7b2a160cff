-- What is proved of the machine over lists of calls.
pub mod Demand3
pub mod Reliable
pub mod Untrimmed
pub mod Links
pub mod Whole
pub mod TextRead
pub mod RootsWhenTaken
pub mod Variants
pub mod Shortcuts
pub mod EitherOrder
