use Rattle.std.proofs.Common.{◌<◌, ℕ, List, subst, sym}
use Rattle.std.specs.Prelude.{All}
use Rattle.std.proofs.lemmas.List.Elements.{All-from_recursion, recursion_from_All}
use Rattle.std.proofs.lemmas.Result.{IfOk-weaker}
use Rattle.boc_program.specs.declared.limits.TheConstants.{MOST_ROWS}
use Rattle.boc_compare.specs.Totalled.{each_once}
use Rattle.boc_compare.proofs.DefTotals.{defs_told, whole_tables}
use Rattle.boc_compare.proofs.EachOnce.{once_all}
use Rattle.boc_compare.proofs.defs.def_totals.Goals as goal

pub listed-requires-clause-whole : goal.listed-requires-clause-whole
listed-requires-clause-whole c = whole_tables c.args.rows.now c.args.defs.now c.args.by_def.now c.in_ok-tables.tables c.in_ok-tables.ensures

pub listed-requires-clause-below : goal.listed-requires-clause-below
listed-requires-clause-below c = rw c.deref.ensures.value (subst (λ (keys : List ℕ). All (λ d. d < MOST_ROWS) keys) (sym c.in_ok-keys.ensures)
    (All-from_recursion (λ d. d < MOST_ROWS) (each_once c.args.defs.now)
    (once_all (λ d. d < MOST_ROWS) c.args.defs.now (recursion_from_All (λ d. d < MOST_ROWS) c.args.defs.now c.requires.few_defs))))

pub returns : goal.returns
returns c = IfOk-weaker c.listed.result _ _ (λ list h. defs_told c.args.rows.now c.args.defs.now c.args.by_def.now c.requires.defs c.requires.few_defs
    c.in_ok-tables.tables c.in_ok-tables.ensures c.in_ok-keys.keys.items list.items c.in_ok-keys.ensures (rw c.deref.ensures.value at h)) c.listed.ensures
