pub mod First
pub mod Pools
pub mod Laws
