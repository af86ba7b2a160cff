pub mod ByteLaws
pub mod WordLaws
pub mod NumberLaws
pub mod PutLaws
pub mod DecimalRead
pub mod LineLaws
pub mod KeepLaws
