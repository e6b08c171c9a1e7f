pub mod Frontiers
pub mod Edges
pub mod Going
pub mod Views
pub mod Tasks
pub mod Matchers
pub mod Rows
pub mod Caches
