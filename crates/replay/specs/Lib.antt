pub mod CellLaws
pub mod Cells
pub mod Exact
pub mod LineLaws
pub mod Lines
pub mod Passing
pub mod Vector
pub mod VectorLaws
