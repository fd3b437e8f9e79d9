-- The definitions stand in crate model.
pub mod Cells
