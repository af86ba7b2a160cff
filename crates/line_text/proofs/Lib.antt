pub mod PutLaws
pub mod RequestLaws
pub mod KeepLaws
