mod Partitions
pub mod Flags
pub mod Words
