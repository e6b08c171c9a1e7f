pub mod Edges
pub mod Runs
pub mod Known
pub mod Along
pub mod Drafts
pub mod Trails
pub mod Speech
