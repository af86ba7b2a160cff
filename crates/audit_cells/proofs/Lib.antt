-- Laws that join what the code tests to the rules S1 and S2.
pub mod Tests
pub mod Cells
pub mod FreeChain
