pub mod Live
pub mod Contract
