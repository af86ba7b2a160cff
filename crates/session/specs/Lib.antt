-- What the session program hands on from call to call.
pub mod Threading
