pub mod SeatsAgree
pub mod FirstHolds
pub mod KeeperRows
pub mod RowsFit
