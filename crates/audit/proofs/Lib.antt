-- Laws that join what the code tests to rule S5 and to the machine's audit.
pub mod Reached
pub mod Verdict
