use Rattle.std.proofs.Common.{subst, ◌≡◌, ◌<◌, ◌≤◌, List, length, get_or}
use Rattle.boc_rules.specs.declared.kept_row.KeptRow.{KeptRow}
use Rattle.boc_rules.specs.SoFar.{so_far}
use Rattle.boc_rules.proofs.Judging.{last_read, last_past}
use Rattle.boc_rules.proofs.so_far.RunSoFar.last.Goals as goal

pub returns-in-Some : goal.returns-in-Some
returns-in-Some c =
    let h = c.in-Some.ensures.lookup in
    let run = c.args.self.now in
    let s = c.in-Some.kept_row.now in
    last_read (so_far run) run.kept_rows.items c.args.row s c.requires.kept_rows_are
    (subst (λ (xs : List KeptRow). c.args.row < length xs) c.deref.ensures.value h.3.0)
    (subst (λ (xs : List KeptRow). s ≡ get_or xs c.args.row s) c.deref.ensures.value h.1)

pub returns-in-None : goal.returns-in-None
returns-in-None c =
    let h = c.in-None.ensures.lookup in
    let run = c.args.self.now in
    last_past (so_far run) run.kept_rows.items c.args.row c.requires.kept_rows_are
    (subst (λ (xs : List KeptRow). length xs ≤ c.args.row) c.deref.ensures.value h.3)
