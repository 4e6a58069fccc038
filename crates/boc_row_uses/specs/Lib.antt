pub mod RowUses
pub mod InTurn
