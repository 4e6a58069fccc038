use Rattle.std.proofs.Common.{◌≡◌, ◌+◌, ◌<◌, ℕ, List, length, refl, sym, ◌∙◌, subst, rules, arith}
use Rattle.std.specs.Prelude.{replicate}
use Rattle.std.proofs.lemmas.List.{with_items_is}
use Rattle.boc_runs.specs.Rows.{cowns_of}
use Rattle.boc_plans.specs.Plans.{start_of}
use Rattle.boc_eager.specs.Courses.{AreRaised}
use Rattle.boc_eager.proofs.Ahead.{AreLatest, ahead_if, first_comes, first_low, first_of_all, first_stays, latest_more, latest_none, none_if}
use Rattle.boc_eager.proofs.swap.first_ahead.Goals.{then-is_some, else-is_some}
use Rattle.boc_eager.proofs.swap.first_ahead.Goals as goal

pub loop-row-init : goal.loop-row-init
loop-row-init c =
    let zeroed : c.in_ok-latest.latest.items ≡ replicate 512 0 = search rules in
    record {
      latest = latest_none c.args.rows.now c.args.starts.now c.in_ok-latest.latest.items zeroed;
      first = λ r h. absurd (omega (arith, h));
    }

pub sooner-requires-clause-found : goal.sooner-requires-clause-found
sooner-requires-clause-found c = first_low c.args.rows.now c.args.starts.now c.loop-row.row _ c.loop-row.found
    (omega (arith, c.loop-row-test.true, c.len-row-end.ensures.count, c.requires.whole)) c.loop-row.invariant.first

pub loop-row-preserved : goal.loop-row-preserved
loop-row-preserved c =
    let rows = c.args.rows.now in
    let starts = c.args.starts.now in
    let n : ℕ = c.loop-row.row in
    let i = c.loop-row.invariant in
    let there : n < length rows = omega (arith, c.loop-row-test.true, c.len-row-end.ensures.count) in
    let raised = subst (λ (xs : List ℕ). AreRaised rows n (start_of starts n) (length (cowns_of rows n)) xs c.raise.new.free) c.deref_mut.ensures.value
    c.raise.ensures in
    let whole : length c.raise.new.free ≡ c.loop-row.latest.len = omega (arith, c.raise.auto.free, c.deref_mut.ensures.len) in
    let are = subst (AreLatest rows starts n) (sym c.deref.ensures.value) i.latest in
    record {
      latest = subst (AreLatest rows starts (n + 1)) (sym (with_items_is c.loop-row.latest c.raise.new.free whole))
          (latest_more rows starts n c.loop-row.latest.items i.latest c.raise.new.free (start_of starts n) refl raised);
      first = elim c.if-is_some.branch [
        | then-is_some w ↦ rw w.found-is (first_comes rows starts n c.loop-row.found w.sooner.result i.first
            (ahead_if rows starts n c.deref.result.now are c.missing.result there c.missing.ensures.missing (sym c.is_some.ensures ∙ w.if-is_some.true))
            w.sooner.ensures)
        | else-is_some w ↦ rw w.found-is (first_stays rows starts n c.loop-row.found i.first
            (none_if rows starts n c.deref.result.now are c.missing.result c.missing.ensures.clear (sym c.is_some.ensures ∙ w.if-is_some.false)))
      ];
    }

pub returns : goal.returns
returns c = first_of_all c.args.rows.now c.args.starts.now c.loop-row.row c.loop-row.found
    (omega (arith, c.loop-row-test.false, c.len-row-end.ensures.count)) c.loop-row.invariant.first
