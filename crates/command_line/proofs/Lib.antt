pub mod CommandLines
pub mod Fitting
pub mod Pairs
pub mod Subcommands
pub mod CommandExamples
pub mod QueryExamples
