-- What the answers of a run say is so: taking a clause, what the state says of the clauses taken, the steps that keep it, a solve, and the run.
pub mod Intake
pub mod Mono
pub mod Sound
pub mod Taking
pub mod Added
pub mod Rows
pub mod Satisfied
pub mod Answers
pub mod Steps
pub mod Opened
pub mod Learning
pub mod Deciding
pub mod Conflicts
pub mod Turns
pub mod Searches
pub mod Solve
pub mod Run
