pub mod Tests
pub mod Survey
pub mod Marks
pub mod FoundFaults
pub mod Pieces
pub mod Reach
pub mod Texts
pub mod Laws
