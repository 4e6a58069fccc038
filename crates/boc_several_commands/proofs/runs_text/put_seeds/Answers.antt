use Rattle.boc_several_commands.proofs.RunsParts.{seeds_parts}
use Rattle.boc_several_commands.proofs.runs_text.put_seeds.Goals as goal

pub returns : goal.returns
returns c =
    seeds_parts c.args.less c.args.same c.args.runs c.args.text.now.items _ _ _ _ _ _ _ c.in_ok-extend_from_slice.ensures.items
    c.in_ok-put_number.ensures.ok c.in_ok-extend_from_slice-2.ensures.items c.in_ok-put_number-2.ensures.ok c.in_ok-extend_from_slice-3.ensures.items
    c.in_ok-put_number-3.ensures.ok c.in_ok-extend_from_slice-4.ensures.items
