pub mod TwoTurns
