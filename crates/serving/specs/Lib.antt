-- Requests served by the store.
pub mod Serving
pub mod Chain
pub mod Threads
