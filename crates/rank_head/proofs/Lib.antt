pub mod Examples
pub mod FirstPlaces
pub mod Decided
pub mod Scanned
pub mod RightHeads
pub mod CountSums
pub mod Tallies
