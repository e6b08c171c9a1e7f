pub mod TableWorkers
pub mod PlaceLaws
