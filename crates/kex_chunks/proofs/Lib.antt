pub mod PartShares
pub mod MovedLists
pub mod Alongs
pub mod Sums
pub mod Feeds
