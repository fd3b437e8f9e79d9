pub mod Held
pub mod Looping
pub mod Turning
