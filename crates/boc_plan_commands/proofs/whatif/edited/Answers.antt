use Rattle.std.proofs.Common.{arith}
use Rattle.boc_plan_commands.proofs.EditedParts.{all_asked, first_of_none, place_owned, unfit_asked}
use Rattle.boc_plan_commands.proofs.whatif.edited.Goals as goal

pub owner_of-number-requires : goal.owner_of-number-requires
owner_of-number-requires c =
    place_owned c.args.names.now c.args.question.rows c.args.asked.now c.in_ok-meant.meant c.deref.result.now c.deref-in-Err.result.now
    c.in-Err.field-0.number c.in-Err.field-0.fault c.in_ok-meant.ensures c.deref.ensures.value c.deref-in-Err.ensures.value c.in-Err.ensures.unfit

pub returns-clause-rows : goal.returns-clause-rows
returns-clause-rows c =
    unfit_asked c.args.names.now c.args.question.rows c.args.asked.now c.in_ok-meant.meant c.deref.result.now c.deref-in-Err.result.now
    c.in-Err.field-0.number c.owner_of-number.result c.in-Err.field-0.fault c.in_ok-meant.ensures c.deref.ensures.value c.deref-in-Err.ensures.value
    c.in-Err.ensures.unfit c.owner_of-number.ensures

pub returns-in-Ok-clause-rows : goal.returns-in-Ok-clause-rows
returns-in-Ok-clause-rows c =
    first_of_none c.args.names.now c.args.question.rows c.args.asked.now c.in_ok-meant.meant c.deref.result.now c.len-number.result
    c.edit_all.new.self.rows c.in_ok-meant.ensures c.deref.ensures.value
    (omega (arith, c.len-number.ensures, c.in_ok-meant.meant.counts.ok.0))
    (omega (arith, c.if-len-asked.true, c.len.ensures, c.len-number.ensures)) c.in-Ok.ensures.rows

pub returns-in-Ok-2-clause-rows : goal.returns-in-Ok-2-clause-rows
returns-in-Ok-2-clause-rows c =
    all_asked c.args.names.now c.args.question.rows c.args.asked.now c.in_ok-meant.meant c.deref.result.now c.len.result
    c.edit_all.new.self.rows c.in_ok-meant.ensures c.deref.ensures.value (omega (arith, c.len.ensures, c.in_ok-meant.meant.counts.ok.0))
    c.if-len-asked.false c.in-Ok-2.ensures.rows
