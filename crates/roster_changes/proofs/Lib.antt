-- Why the changes make of the list what they say.
pub mod Changing
pub mod Adding
