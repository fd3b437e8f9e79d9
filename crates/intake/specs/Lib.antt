pub mod Adding
pub mod Formed
pub mod Simplifying
pub mod Sorting
pub mod Storing
pub mod Taking
