use Rattle.std.proofs.Common.{◌≡◌, ◌∙◌, ◌<◌, None, length, sym, ap, arith}
use Rattle.std.specs.Prelude.{slice_index_or}
use Rattle.std.proofs.lemmas.List.{get_or_default, length-drop}
use Rattle.std.proofs.lemmas.Option.{slice_get_within, get_or_from_slice_get}
use Rattle.boc_runs.specs.Rows.{cowns_of}
use Rattle.boc_turns.specs.Turns.{cowns_before}
use Rattle.boc_turns.proofs.Counting.{own_enough}
use Rattle.boc_used_greedy.proofs.Holding.{use_placed}
use Rattle.boc_used_greedy.proofs.holds.Holds.of.Goals as goal

pub index-requires : goal.index-requires
index-requires c =
    let rows = c.args.rows.now in
    let all = c.args.self.now.all.items in
    let p = c.place.ensures in
    omega (
      arith,
      p.is,
      slice_get_within (cowns_of rows c.args.row) p.own c.args.own p.there,
      own_enough rows all c.requires.holds.are_uses c.args.row c.requires.there,
      length-drop (cowns_before rows c.args.row) all,
      c.args.self.now.all.ok.0,
    )

pub returns : goal.returns
returns c =
    let rows = c.args.rows.now in
    let all = c.args.self.now.all.items in
    let p = c.place.ensures in
    let low = slice_get_within (cowns_of rows c.args.row) p.own c.args.own p.there in
    let enough = own_enough rows all c.requires.holds.are_uses c.args.row c.requires.there in
    let there : c.place.result < length all = omega (arith, p.is, low, enough, length-drop (cowns_before rows c.args.row) all) in
    c.index.ensures ∙ (sym (get_or_default all c.place.result None c.index.result.now there) ∙ (ap (λ x. slice_index_or all x None) p.is
    ∙ sym (use_placed rows c.requires.shape all c.args.row p.own c.args.own c.requires.there enough low
    (get_or_from_slice_get (cowns_of rows c.args.row) p.own c.args.own 0 p.there))))
