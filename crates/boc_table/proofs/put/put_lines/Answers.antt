use Rattle.std.proofs.Common.{◌≡◌, ◌+◌, ◌-◌, ℕ, suc, length, take, drop, arith, ap, subst, ◌∙◌}
use Rattle.std.specs.Prelude.{sum}
use Rattle.boc_table.specs.Storage.{AreStored, texts_of}
use Rattle.boc_table.specs.Tables.{line_text}
use Rattle.boc_table.proofs.Stored.{line_put, rest_stored}
use Rattle.boc_table.proofs.put.put_lines.Goals as goal

pub loop-preserved : goal.loop-preserved
loop-preserved c =
    let columns = length c.args.sides.now in
    let left = c.args.count - (c.loop.counter + 1) in
    let lens = c.loop.lens.now in
    let bytes = c.loop.bytes.now in
    let one : c.args.count - c.loop.counter ≡ suc left = omega arith in
    let line = line_text c.args.sides.now c.args.widths.now in
    let texts : texts_of c.split_at.result.0.now bytes ≡ texts_of (take columns lens) bytes = ap (λ ls. texts_of ls bytes) c.split_at.ensures.front in
    let rest : c.in_ok-bytes.bytes.now ≡ drop (sum (take columns lens)) bytes =
    c.in_ok-bytes.ensures.behind ∙ ap (λ ls. drop (sum ls) bytes) c.split_at.ensures.front in
    record {
      stored = rw (rest, c.split_at.ensures.back) (rest_stored left columns lens bytes
          (subst (λ (n : ℕ). AreStored n columns lens bytes) one c.loop.invariant.stored));
      put = rw (rest, c.split_at.ensures.back, c.in_ok-bytes.ensures.put, c.split_at.ensures.front)
          (line_put c.args.sides.now c.args.widths.now c.loop.text.items (c.args.count - c.loop.counter) left columns lens bytes one ∙ c.loop.invariant.put);
    }
