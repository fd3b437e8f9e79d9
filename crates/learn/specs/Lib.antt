pub mod Reducing
pub mod Learned
pub mod Backtracking
pub mod Adding
