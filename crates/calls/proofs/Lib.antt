pub mod TallyLaws
pub mod LateLaws
pub mod EarlyLaws
pub mod PacketLaws
pub mod CallLaws
pub mod WriteLaws
pub mod RowLaws
pub mod FreshLaws
