pub mod Olds
pub mod Pages
pub mod ScriptReads
pub mod Segments
pub mod ClassNumbers
