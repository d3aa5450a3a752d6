pub mod Showing
pub mod Saying
