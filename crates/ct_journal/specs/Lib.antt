-- The definitions that contracts cite, in reading order.
pub mod File
pub mod RecordPlan
pub mod RecordReads
pub mod RecordPaths
pub mod Record
pub mod CheckFound
pub mod Check
pub mod CheckSteps
pub mod RecordAgain
