pub mod Codings
pub mod PathCodes
pub mod TableCodes
pub mod Testers
pub mod Players
