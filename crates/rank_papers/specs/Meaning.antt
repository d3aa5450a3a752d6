-- The definitions that the clause `ok` of `rank` rests on. docs/MEANING.md shows them in this order.
pub mod Values
pub mod Report
pub mod Certificate
pub mod Right
