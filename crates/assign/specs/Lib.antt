-- The steps of the definition keep the assignment: reading, putting a literal on the trail, opening a level, going back, deciding.
pub mod Lists
pub mod Reading
pub mod Clauses
pub mod Look
pub mod Back
pub mod Levels
pub mod Assumed
pub mod Searching
pub mod Pick
pub mod Decide
pub mod Learn
