-- Laws of reading.
pub mod Standing
pub mod FrameLaws
pub mod ReadLaws
pub mod HeldLaws
pub mod RoomLaws
pub mod BuildLaws
pub mod StorableLaws
pub mod CalledLaws
