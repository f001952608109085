pub mod Histories
pub mod HistoryView
pub mod Machine
pub mod Scripts
