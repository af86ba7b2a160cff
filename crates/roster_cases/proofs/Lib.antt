-- Laws of the figures.
pub mod FigureLaws
