pub mod Ends
pub mod Names
pub mod Refusals
pub mod Views
