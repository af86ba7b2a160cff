-- Rule text, Lisp's list notation (document 02, A4).
pub mod Trees
pub mod Grammar
pub mod Parse
pub mod Print
pub mod Parts
pub mod Brackets
pub mod Recognises
pub mod Cases
