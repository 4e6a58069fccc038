pub mod TransferValues
pub mod RaceOutcomes
