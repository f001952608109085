pub mod IndexAnswers
pub mod NoRing
pub mod Rounds
pub mod IndexChanges
pub mod SoundLocks
