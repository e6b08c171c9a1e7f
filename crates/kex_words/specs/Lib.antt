pub mod Words
pub mod Known
pub mod Subcommands
pub mod Gains
pub mod Lines
pub mod Parts
