use Rattle.rayon.proofs.ListFacts.{IfOk-then}
use Rattle.boc_sweep.proofs.Passing.{spans_of, places_in}
use Rattle.boc_sweep.proofs.freed.cown_sweep.Goals as goal

pub all_at-requires : goal.all_at-requires
all_at-requires g c =
    let rows = c.args.rows.now in
    let passes = c.in_ok-passes.passes in
    let found = rw c.deref-2.ensures.value at c.in_ok-found.ensures in
    rw (c.deref-3.ensures.value, c.deref-4.ensures.value)
    (places_in rows c.args.count passes.cowns.items passes.places.items c.in_ok-passes.ensures c.in_ok-found.found.items found)

pub returns : goal.returns
returns g c =
    let rows = c.args.rows.now in
    let passes = c.in_ok-passes.passes in
    let found = rw c.deref-2.ensures.value at c.in_ok-found.ensures in
    IfOk-then c.all_at.result _ _ (rw (c.deref-3.ensures.value, c.deref-4.ensures.value) at c.all_at.ensures)
    (λ spans z. spans_of rows c.args.count passes.cowns.items passes.places.items c.in_ok-passes.ensures c.in_ok-found.found.items found spans.items z)
