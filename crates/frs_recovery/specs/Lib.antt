pub mod Answers
pub mod Descent
pub mod DescentEnd
pub mod Faults
pub mod FirstFault
pub mod OfferedRecords
pub mod Refusals
pub mod Sound
