-- Rule 6 and the final clause, as the code goes about them.
pub mod Marking
pub mod Blaming
pub mod Final
pub mod Deciding
