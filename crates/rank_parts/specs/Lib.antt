pub mod InPieces
pub mod Parts
pub mod Seen
pub mod Texts
pub mod Laws
