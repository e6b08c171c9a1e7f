pub mod PlaceImages
pub mod AlikeTests
pub mod OrderedSets
pub mod StageMachines
