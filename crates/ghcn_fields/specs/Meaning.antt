-- The definitions that the clause `ok` of `rank` rests on. docs/MEANING.md shows them in this order.
pub mod Bytes
pub mod Lines
pub mod Numbers
pub mod Fields
pub mod NumberTexts
pub mod Days
pub mod Dates
