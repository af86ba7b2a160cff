pub mod QueueLaws
pub mod Faithful
pub mod Cases
