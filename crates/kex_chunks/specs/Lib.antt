pub mod Stretches
pub mod Parts
