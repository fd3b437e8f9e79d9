-- The plain book of demand 3: what it takes to show the demand, a check of it that computes, and examples of both.
pub mod Booleans
pub mod Demand
pub mod Check
pub mod Examples
