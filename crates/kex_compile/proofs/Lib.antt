pub mod FirstStages
mod ItemNumbers
pub mod NodePairs
pub mod WordOffsets
pub mod BodyPairs
pub mod Terms
pub mod Alike
pub mod SameRules
pub mod Mates
pub mod PlacePairs
pub mod StagePairs
pub mod OneCause
pub mod SameMeanings
pub mod PlaceCounts
pub mod SurvivorPairs
pub mod States
pub mod PairCounts
pub mod ProgramAnswers
pub mod FewStages
pub mod StageTables
mod StageRefusals
mod StageRoots
