-- That the worked lists hold.
pub mod Cases
