pub mod Board
pub mod Edits
pub mod Rows
pub mod RowsFit
pub mod Seats
