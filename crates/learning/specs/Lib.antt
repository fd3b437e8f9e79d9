-- Conflict analysis over the definition: the first UIP as published, minimising, the clause learnt, the final clause.
pub mod Marks
pub mod FirstUip
pub mod Count
pub mod Join
pub mod Turn
pub mod Walk
pub mod Uip
pub mod Highest
pub mod Trace
pub mod Turns
pub mod Minimise
pub mod Analyzed
pub mod Parts
pub mod Final
