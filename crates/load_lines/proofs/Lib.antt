pub mod WriteLaws
pub mod Theorem
pub mod Agrees
pub mod Known
