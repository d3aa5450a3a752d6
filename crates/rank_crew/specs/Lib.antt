pub mod Workers
pub mod Places
