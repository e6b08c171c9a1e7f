pub mod Pairs
pub mod Searches
pub mod Optimal
pub mod Keeping
