-- The definitions that the clause `ok` of `rank` rests on. docs/MEANING.md shows them in this order.
pub mod Order
pub mod Groups
pub mod Runs
pub mod Candidates
