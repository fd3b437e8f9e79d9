-- What the laws of the definition stand on: membership and literals, closed sets of literals, and what is well-formed.
pub mod Basics
pub mod Range
pub mod Sem
pub mod WellFormed
