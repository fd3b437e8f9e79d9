pub mod Still
pub mod Reasons
pub mod Fresh
pub mod Walk
pub mod Start
pub mod Back
pub mod Begin
pub mod Shown
