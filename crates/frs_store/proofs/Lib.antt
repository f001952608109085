pub mod ClosingMark
pub mod ContinuedLog
pub mod JournalGoesOn
mod MetStops
mod OpeningMark
mod OwnNumbers
pub mod RecoveredCommits
mod RefusedStart
pub mod RunsInOrder
mod SessionCalls
mod SessionCloses
mod SinceStart
mod StartLaws
mod StartedStore
pub mod StepsLeft
pub mod StoreCalls
pub mod StoreGoesOn
mod UnderWay
mod WrittenMark
