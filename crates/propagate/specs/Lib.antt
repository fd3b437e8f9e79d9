pub mod Visit
pub mod View
pub mod Laws
pub mod Walking
pub mod Outcome
pub mod Loops
