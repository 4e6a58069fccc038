use Rattle.std.proofs.Common.{◌≡◌, length, refl, arith}
use Rattle.std.proofs.lemmas.Option.{slice_get_read}
use Rattle.boc_cut.specs.declared.table.Row.{Row}
use Rattle.boc_cut.proofs.Spawning.{row_kept}
use Rattle.boc_cut.proofs.table.Table.keep_row.Goals as goal

pub returns : goal.returns
returns c =
    let all = c.args.self.now in
    let row = c.index.result.now in
    let moved : Row = record row { from = c.len-from.result; to = c.len-2.result } in
    let count : c.len.result ≡ length all.rows.items = omega (arith, c.len.ensures, all.rows.ok.0) in
    let from : c.len-from.result ≡ length c.args.uses.now.items = omega (arith, c.len-from.ensures, c.args.uses.now.ok.0) in
    let to : c.len-2.result ≡ length c.keep_uses.new.uses.items = omega (arith, c.len-2.ensures, c.keep_uses.new.uses.ok.0) in
    row_kept all.rows.items c.args.rows.now.items c.push.new.self.items all.uses.items c.args.uses.now.items c.keep_uses.new.uses.items row moved c.args.place
    c.uses_of.result.now (slice_get_read all.rows.items c.len.result c.args.place row count c.if-place-len.false c.index.ensures) c.uses_of.ensures
    c.in_ok-keep_uses.ensures c.in_ok-push.ensures.items refl from to
