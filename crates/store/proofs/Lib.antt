-- From what calls, collector and audit prove to the promise, by soundness.
pub mod RowTests
pub mod NamesFit
pub mod RowPromise
pub mod StepPromise
pub mod TextPromise
pub mod ReadPromise
