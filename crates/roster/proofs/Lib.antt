-- Why a roster behaves as a plain list.
pub mod Finding
pub mod PastLaws
pub mod PromiseLaws
pub mod Theorem
