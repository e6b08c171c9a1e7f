pub mod Numbers
pub mod ClapAnswers
pub mod Subcommands
pub mod Writes
