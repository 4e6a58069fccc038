use Rattle.boc_names.proofs.names.row_names.Goals as goal
