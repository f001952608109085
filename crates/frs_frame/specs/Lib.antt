pub mod Decoding
pub mod Front
pub mod Kinds
pub mod Refusals
pub mod Spelling
