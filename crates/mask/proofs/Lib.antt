-- The mask of levels in rule 4: it changes no learnt clause, and what minimising keeps.
pub mod Bits
pub mod OwnMask
pub mod Full
pub mod Back
pub mod Left
pub mod Levels
pub mod OwnLevels
pub mod Learnt
pub mod Examples
