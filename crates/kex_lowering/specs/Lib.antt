pub mod Refusals
pub mod Stages
pub mod Shapes
pub mod Existence
pub mod Best
