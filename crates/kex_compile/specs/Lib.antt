pub mod Stages
pub mod Compiled
