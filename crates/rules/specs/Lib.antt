-- What the rules program hands on from call to call.
pub mod Threading
