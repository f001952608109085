pub mod Agreement
pub mod Books
pub mod Changes
pub mod Drawn
pub mod Inside
pub mod Ledgers
pub mod Room
