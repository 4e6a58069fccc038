pub mod EveryCommand
