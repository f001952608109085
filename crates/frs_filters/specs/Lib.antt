pub mod Begins
pub mod Chain
pub mod Filters
pub mod Offered
