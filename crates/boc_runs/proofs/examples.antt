pub mod SerialRuns
pub mod TransferLog
pub mod TransferRun
