pub mod Answers
pub mod Index
pub mod Rounds
