pub mod TextLists
pub mod LineLists
pub mod ChainAnswers
pub mod DeskLists
pub mod KeptLines
pub mod Shares
