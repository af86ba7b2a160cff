-- The roster as a list of cells: what its walks give. No promise of the roster says which cells a seat takes.
pub mod Asking
pub mod Nodes
pub mod Walks
