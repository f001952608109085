mod HasNoted
pub mod HasSeen
mod IsNoted
pub mod LogExamples
mod NotesAfter
mod RiseIn
