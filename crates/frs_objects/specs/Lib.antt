pub mod Index
pub mod Objects
pub mod Refusals
pub mod Slots
