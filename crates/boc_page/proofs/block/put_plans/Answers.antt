use Rattle.boc_page.specs.Blocks.{plans_part}
use Rattle.boc_page.proofs.Regroup.{on_ok_then, put_five}
use Rattle.boc_page.proofs.block.put_plans.Goals as goal

pub returns : goal.returns
unfolding plans_part
returns c = on_ok_then c.put_lists_at.result (rw (c.deref-7.ensures.value, c.in_ok-curve.ensures) at c.put_lists_at.ensures)
    (λ last. put_five c.args.text.now.items _ _ _ _ _ (rw c.deref.ensures.value at c.in_ok-put_numbers_at.ensures)
    (rw c.deref-2.ensures.value at c.in_ok-put_numbers_at-2.ensures)
    (rw (c.deref-4.ensures.value, c.in_ok-widened.ensures, c.deref-3.ensures.value) at c.in_ok-put_numbers_at-3.ensures)
    (rw (c.deref-6.ensures.value, c.in_ok-chain_rows.ensures, c.deref-5.ensures.value) at c.in_ok-put_numbers_at-4.ensures) last)
