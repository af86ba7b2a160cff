-- Laws that join what the code tests to the rule S3.
pub mod LegalPackets
pub mod NamesInScratch
pub mod ReplayedCounts
