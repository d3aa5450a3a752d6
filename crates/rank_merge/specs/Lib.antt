pub mod Merged
pub mod Merging
pub mod Found
pub mod Laws
pub mod FaultTexts
