pub mod Texts
pub mod Lines
pub mod Described
pub mod Steps
pub mod Describing
pub mod Laws
