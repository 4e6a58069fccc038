use Rattle.std.proofs.Common.{◌≡◌, length, arith}
use Rattle.boc_page.specs.Blocks.{advice_part}
use Rattle.boc_page.proofs.Regroup.{on_ok_then, put_seven}
use Rattle.boc_page.proofs.block.put_advice.Goals as goal

pub returns : goal.returns
unfolding advice_part
returns c = let count : c.len.result ≡ length c.args.block.now.names.now.cowns.items = omega (arith, c.len.ensures) in
    on_ok_then c.put_lists_at.result (rw (c.deref.ensures.value, c.in_ok-cowns.ensures, count) at c.put_lists_at.ensures)
    (λ last. put_seven c.args.text.now.items _ _ _ _ _ _ _ c.in_ok-put_candidates.ensures
    c.in_ok-put_string_at.ensures c.in_ok-put_string_at-2.ensures c.in_ok-put_string_at-3.ensures c.in_ok-put_number_at.ensures
    (rw c.busiest.ensures at c.in_ok-put_number_at-2.ensures) last)
