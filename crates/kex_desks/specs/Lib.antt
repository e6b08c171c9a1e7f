pub mod Drafts
pub mod Chunks
pub mod PartCuts
