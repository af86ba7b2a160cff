-- What the load program hands on from call to call.
pub mod Threading
