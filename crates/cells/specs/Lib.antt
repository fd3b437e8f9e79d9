pub mod Number
pub mod Paste
