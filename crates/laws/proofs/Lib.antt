-- What is proved of every run, restated in one place.
pub mod Run
pub mod Reach
pub mod Theorems
