mod Agreement
mod Answered
mod IsNew
mod Listed
pub mod NestedMaps
mod Oldest
mod SlotAt
mod Shown
mod TableBytes
mod Tables
