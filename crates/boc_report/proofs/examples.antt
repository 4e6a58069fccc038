pub mod TransferGreedy
