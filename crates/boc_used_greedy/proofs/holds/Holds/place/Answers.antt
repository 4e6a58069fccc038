use Rattle.std.proofs.Common.{arith}
use Rattle.std.proofs.lemmas.List.{get_or_default, length-drop}
use Rattle.std.proofs.lemmas.Option.{slice_get_within}
use Rattle.boc_runs.specs.Rows.{cowns_of}
use Rattle.boc_turns.specs.Turns.{cowns_before}
use Rattle.boc_turns.proofs.Counting.{own_enough}
use Rattle.boc_used_greedy.proofs.holds.Holds.place.Goals as goal

pub overflow_add-result : goal.overflow_add-result
overflow_add-result c =
    let rows = c.args.rows.now in
    let h = c.requires.holds in
    let begins = c.args.self.now.begins.items in
    let all = c.args.self.now.all.items in
    let at = rw c.cowns.ensures at c.place_of.ensures in
    let low = slice_get_within (cowns_of rows c.args.row) c.place_of.result c.args.own at in
    omega (
      arith,
      c.index.ensures,
      get_or_default begins c.args.row 0 c.index.result.now (omega (arith, h.whole, c.requires.there)),
      h.begins c.args.row c.requires.there,
      own_enough rows all h.are_uses c.args.row c.requires.there,
      length-drop (cowns_before rows c.args.row) all,
      low,
      c.args.self.now.all.ok.0,
      c.args.self.now.all.small,
    )
