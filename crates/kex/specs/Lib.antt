pub mod Opened
pub mod Passing
