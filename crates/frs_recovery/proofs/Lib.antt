mod BackwardIsState
mod BackwardReader
mod GoDown
mod GoesDown
mod IsEnough
mod IsFound
mod IsWrongFirst
pub mod Lists
mod LookAt
mod OneOfTwo
mod Reaches
mod ReadSegment
mod ReadyDisks
mod RecoverAnswers
mod RecoveredStore
mod RisingFiles
mod SegmentOf
pub mod StoreExamples
