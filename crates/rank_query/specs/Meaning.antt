-- The definitions that the clause `ok` of `rank` rests on. docs/MEANING.md shows them in this order.
pub mod Asked
pub mod Admits
pub mod Words
pub mod QueryTexts
pub mod Spelling
pub mod Asks
