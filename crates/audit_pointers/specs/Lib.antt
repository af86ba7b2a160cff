pub mod EarlierFields
pub mod PointerCounts
pub mod UndoStages
