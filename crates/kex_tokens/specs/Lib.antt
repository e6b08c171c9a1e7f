pub mod Bytes
pub mod Lexemes
pub mod Scanning
pub mod Texts
pub mod Values
