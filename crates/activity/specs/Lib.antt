pub mod Leading
pub mod Activities
pub mod Pick
