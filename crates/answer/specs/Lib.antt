pub mod Answered
pub mod Backing
pub mod Cells
pub mod Solving
