-- The mask of levels in rule 4: it changes no learnt clause, and what minimising keeps.
pub mod Unmasked
pub mod Traceable
pub mod Bits
pub mod Back
pub mod Left
