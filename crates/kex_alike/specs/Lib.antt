pub mod StageTests
