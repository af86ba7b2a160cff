-- What reading standard input gives, and how a program goes through it.
pub mod Reading
pub mod Service
