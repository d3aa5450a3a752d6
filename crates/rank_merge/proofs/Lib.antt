mod Cited
pub mod Examples
pub mod Lists
pub mod RightHeads
pub mod MergedPapers
pub mod MergedTexts
pub mod MeasuredPapers
pub mod StableSorts
pub mod Orders
pub mod FirstRows
pub mod RowFloors
pub mod ReadParts
