pub mod Answering
pub mod Numbers
pub mod Runs
pub mod AtMost
