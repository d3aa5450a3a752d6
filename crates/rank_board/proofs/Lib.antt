pub mod Sums
pub mod Words
pub mod RuleKept
pub mod StepsAllowed
pub mod WholeSeat
