pub mod Live
pub mod SizedLive
pub mod Steps
