pub mod HeadTests
pub mod RightHead
pub mod FirstPlaces
pub mod Tallies
