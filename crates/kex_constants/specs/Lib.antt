pub mod Known
pub mod Clearing
pub mod Alike
pub mod States
pub mod Copies
