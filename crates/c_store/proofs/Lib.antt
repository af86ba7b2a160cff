pub mod ToldLaws
pub mod FromC
