pub mod Notes
pub mod Tracing
pub mod Pushing
pub mod Redundant
pub mod Dropping
pub mod Minimised
