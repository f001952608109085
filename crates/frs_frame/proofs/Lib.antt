pub mod WithNumbers
pub mod Takes
pub mod DecodingOf
