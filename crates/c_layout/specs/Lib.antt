pub mod Queues
pub mod Replies
pub mod Faithful
pub mod Cases
