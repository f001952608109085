mod Behind
mod EndsWithSegment
mod GathersGroup
mod Grouping
mod HasNewest
mod HoldsLog
mod IsFound
mod IsOpening
pub mod IsPlaced
mod IsRolled
mod IsShut
mod LeavesLog
pub mod LongerLog
mod MissesSome
mod NewestFile
mod NumbersOf
mod Parted
pub mod Places
mod PutsGroup
pub mod ShowsLog
mod SpellsFrom
mod TakesNext
mod TestDisks
mod WriteGroup
mod WriterNew
mod WritesGroup
