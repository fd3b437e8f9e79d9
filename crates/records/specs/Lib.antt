pub mod Accepting
pub mod Recording
