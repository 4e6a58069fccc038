-- Rows that are fit, one after another.
pub use Rattle.boc_runs.proofs.Children.{row_read, rows_fit, parent_there, last_more}
