pub mod Closed
pub mod InsideJournal
pub mod Journal
pub mod Session
pub mod SessionEnd
pub mod Sessions
pub mod Start
pub mod Stops
