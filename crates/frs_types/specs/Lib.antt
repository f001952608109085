pub mod ChangeLists
pub mod Lawful
pub mod Locks
pub mod Maps
pub mod Records
pub mod Refusals
pub mod Survivors
pub mod Words
