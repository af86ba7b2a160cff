mod ByteLaws
pub mod ServiceLaws
