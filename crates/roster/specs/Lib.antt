-- The seat roster (document 02, A7). What a reader must believe is the plain list (specs/ of `readings`) and, of the calls from a fresh on, Rosters.
pub mod Promise
pub mod Rosters
