pub mod Counts
pub mod HasLooked
pub mod NameOfEnd
