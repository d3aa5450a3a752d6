pub mod Blocks
pub mod Bounds
pub mod Greatest
pub mod DayRuns
pub mod Summaries
pub mod Reached
pub mod Values
