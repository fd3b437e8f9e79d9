pub mod View
pub mod Inside
pub mod Laws
pub mod Back
pub mod Cells
