mod Reading
mod Outputs
