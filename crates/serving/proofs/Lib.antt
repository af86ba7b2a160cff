pub mod ServeLaws
pub mod ChainLaws
pub mod ThreadsLaws
