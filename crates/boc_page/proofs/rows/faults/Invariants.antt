use Rattle.std.proofs.Common.{◌≡◌, ◌++◌, map, drop}
use Rattle.boc_page.specs.Columns.{faults_from}
use Rattle.boc_page.proofs.rows.faults.Given as goal

-- what is there so far, with what comes
abbrev pub invariant-loop-number : goal.invariant-loop-number
invariant-loop-number l = map (λ f. f.items) l.column.items ++ faults_from l.number (drop l.number l.rows) ≡ faults_from 0 l.rows
