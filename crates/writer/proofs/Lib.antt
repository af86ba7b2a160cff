pub mod FrontLaws
pub mod WriteLaws
