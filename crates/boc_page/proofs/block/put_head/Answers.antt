use Rattle.boc_page.specs.Blocks.{head_part}
use Rattle.boc_page.proofs.Regroup.{on_ok_then, put_ten}
use Rattle.boc_page.proofs.block.put_head.Goals as goal

pub returns : goal.returns
unfolding head_part
returns c = on_ok_then c.put_number_at-5.result c.put_number_at-5.ensures (λ last. put_ten c.args.text.now.items _ _ _ _ _ _ _ _ _ _
    c.in_ok-extend_from_slice.ensures.items c.in_ok-put_string_at.ensures c.in_ok-put_string_at-2.ensures c.in_ok-put_key.ensures
    (rw (c.as_bytes.ensures.value, c.shared_text.ensures) at c.in_ok-extend_from_slice-2.ensures.items) (rw c.from.ensures at c.in_ok-put_number_at.ensures)
    c.in_ok-put_number_at-2.ensures c.in_ok-put_number_at-3.ensures c.in_ok-put_number_at-4.ensures last)
