pub mod Schedules
pub mod StageRounds
pub mod StageOrder
pub mod RingRounds
pub mod PipeAnswers
pub mod BlockFronts
