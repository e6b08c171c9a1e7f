pub mod Leaps
pub mod Scanned
