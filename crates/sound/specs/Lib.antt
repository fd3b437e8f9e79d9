-- What the answers of a run say is so: taking a clause, what the state says of the clauses taken, the steps that keep it, a solve, and the run.
pub mod Intake
pub mod Mono
pub mod Sound
pub mod Rows
pub mod Answers
pub mod Deciding
pub mod Verdict
pub mod Searches
pub mod Solve
pub mod Run
