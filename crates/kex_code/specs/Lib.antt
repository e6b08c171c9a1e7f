pub mod Begun
pub mod Codes
pub mod Prefixes
pub mod Readers
pub mod Registers
pub mod Shared
pub mod Texts
