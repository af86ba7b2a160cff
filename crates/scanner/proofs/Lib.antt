-- Laws of scanning.
pub mod TokenLaws
pub mod ModeLaws
pub mod DepthLaws
pub mod LargestLaws
pub mod ScanLaws
