pub mod Places
pub mod Resolving
pub mod Joining
pub mod Walking
pub mod Uip
pub mod Second
pub mod Unmarking
pub mod After
