-- Reading rule text into a store.
pub mod Reading
pub mod Held
pub mod Builds
pub mod Called
