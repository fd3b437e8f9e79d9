-- Every solve ends: what falls with each turn, how many turns and conflicts there are, and how long an answer is.
pub mod Fixed
pub mod Credit
pub mod Learns
pub mod Comes
pub mod Turns
pub mod Last
pub mod Restart
pub mod Rounds
pub mod Bounds
pub mod Answer
pub mod Storage
pub mod Spends
