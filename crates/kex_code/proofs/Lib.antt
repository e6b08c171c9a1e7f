pub mod Texts
pub mod CodeReaders
pub mod Prefixes
