pub mod EditedTransfer
