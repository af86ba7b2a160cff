-- Laws that join what the code tests to the rule S4.
pub mod EarlierFields
pub mod FieldPointers
pub mod PointerCounts
pub mod PacketUndo
pub mod QueueUndo
