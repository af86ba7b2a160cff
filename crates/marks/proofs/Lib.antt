-- Laws of marks and roots.
pub mod Scratch
pub mod RootTests
pub mod Stack
pub mod RootMarks
pub mod Closure
pub mod Loops
