-- The bench program. A reader has to believe Bench and Responses, and what they name.
pub mod Bench
pub mod Example
pub mod Laws
pub mod Responses
