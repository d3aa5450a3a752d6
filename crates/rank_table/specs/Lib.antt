pub mod Reports
pub mod Reading
pub mod Files
pub mod Tables
pub mod Written
pub mod Laws
pub mod FaultTexts
