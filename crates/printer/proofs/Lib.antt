-- The laws of the walk, without code: what is left at a stop, the steps, and the text as it grows.
pub mod AheadLaws
pub mod StepLaws
pub mod PieceLaws
pub mod WrittenLaws
pub mod PassLaws
pub mod FrontLaws
