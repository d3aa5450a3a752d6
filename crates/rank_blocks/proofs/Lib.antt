mod Cited
pub mod WordRuns
pub mod ValueSteps
pub mod Members
pub mod DaysInBlocks
pub mod Totals
pub mod PossibleBlocks
pub mod ReachedDays
pub mod LongestRuns
pub mod HotBlocks
pub mod RangeRuns
pub mod BlockDays
pub mod Above
pub mod BlockSteps
pub mod Computed
pub mod ReadBlocks
pub mod BoundsMet
pub mod Examples
