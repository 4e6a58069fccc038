use Rattle.std.proofs.Common.{◌∙◌, Some, ap, sym}
use Rattle.std.specs.Option.{is_some}
use Rattle.std.proofs.lemmas.Map.Text.{btree_map_updates_str}
use Rattle.boc_compare.proofs.ByName.{put_new}
use Rattle.boc_compare.proofs.pairs.put_first.Goals as goal

pub returns : goal.returns
returns c = put_new c.args.named.now c.insert.new.self c.args.name.now c.args.own
    (ap is_some (sym c.known.ensures) ∙ sym c.is_some.ensures ∙ c.if-is_some.false)
    (btree_map_updates_str c.args.name.now c.args.named.now c.insert.new.self (Some c.args.own) c.in_ok-insert.ensures.updates)
