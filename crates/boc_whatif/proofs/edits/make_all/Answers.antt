use Rattle.std.proofs.Common.{◌≡◌, ◌∙◌, ◌+◌, ◌-◌, ℕ, length, take, subst, ap, arith}
use Rattle.std.specs.Prelude.{min}
use Rattle.boc_plans.specs.declared.edit.Edit.{Edit}
use Rattle.boc_plans.specs.Edits.{IsChanged, IsEditFault}
use Rattle.boc_whatif.specs.Asked.{AreMade}
use Rattle.boc_whatif.proofs.Changing.{siblings_changed}
use Rattle.boc_whatif.proofs.Successive.{edited_next, first_unfit}
use Rattle.boc_whatif.proofs.Keeping.{least_next}
use Rattle.boc_whatif.proofs.edits.make_all.Goals as goal

pub returns-in-Err-clause-made : goal.returns-in-Err-clause-made
returns-in-Err-clause-made c =
    let same : c.loop-index.index ≡ c.loop-index.index + 1 - 1 = omega arith in
    let made = c.loop-index.invariant.made in (
      rw c.in-Err.ensures.stays (subst (λ n. AreMade c.args.rows.now (take n c.args.edits.now) c.loop-index.rows c.loop-index.from) same made),
      first_unfit c.args.rows.now c.loop-index.rows c.args.edits.now c.loop-index.index _ c.in-Err.fault c.loop-index-test.true made.edited
          (subst (λ (e : Edit). IsEditFault c.loop-index.rows e c.in-Err.fault) c.index-edits-index.is c.in-Err.ensures.fault),
    )

pub loop-index-preserved : goal.loop-index-preserved
loop-index-preserved c = record {
  lasts = c.make.ensures.lasts;
  siblings = siblings_changed c.loop-index.rows c.args.siblings.now _ _ c.make.new.rows c.in_default.ensures.made c.loop-index.invariant.siblings;
  made = record {
    edited = edited_next c.args.rows.now c.loop-index.rows c.make.new.rows c.args.edits.now c.loop-index.index _ c.loop-index-test.true
        c.loop-index.invariant.made.edited
        (subst (λ (e : Edit). IsChanged c.loop-index.rows e.row e.change c.make.new.rows) c.index-edits-index.is c.in_default.ensures.made);
    from_is = c.min-from.ensures ∙ ap (λ (e : Edit). min c.loop-index.from e.row) c.index-edits-index.is
        ∙ least_next (length c.args.rows.now) c.loop-index.from c.args.edits.now c.loop-index.index _ c.loop-index-test.true
        c.loop-index.invariant.made.from_is;
  };
}
