pub mod Rules
pub mod Graphs
pub mod Searches
pub mod Tables
pub mod Tails
pub mod Within
