use Rattle.std.proofs.Common.{false, get_or, refl}
use Rattle.std.proofs.lemmas.Option.{slice_get-get_or}
use Rattle.boc_program.specs.declared.body.EndStatus.TheVariants.{Done}
use Rattle.boc_cut.specs.declared.table.Life.TheVariants.{Pending}
use Rattle.boc_cut.specs.declared.table.Row.{Row}
use Rattle.boc_cut.proofs.origins.origin_of.Goals as goal

pub returns : goal.returns
returns c =
    let rows = c.args.rows.now in
    let place = c.in-Some.place in
    let none : Row = record {
      number = 0;
      parent = 0;
      offset = 0;
      last = 0;
      progress = 0;
      ticks = 0;
      from = 0;
      to = 0;
      life = Pending;
      ran = false;
      status = Done;
    } in (
      place,
      get_or rows place none,
      slice_get-get_or rows place none c.if-place-rows.false,
      refl,
      c.if-row.false,
      c.if-row-uses.false,
      c.are_kept_of.ensures c.if-not-are_kept_of.false,
    )
