pub mod CommandLine
pub mod Found
