mod Cited
pub mod StationRows
pub mod EntryLists
pub mod SaidInPieces
pub mod OwnLines
pub mod WholePapers
pub mod Walks
pub mod LineReasons
pub mod Examples
