use Rattle.std.proofs.Common.{◌≡◌, ◌++◌, ◌+◌, ◌-◌, suc, max, length, take, drop, get_or, arith, ap, ◌∙◌}
use Rattle.std.proofs.lemmas.List.{get_or-take, take_at}
use Rattle.boc_table.specs.Storage.{stored_width}
use Rattle.boc_table.proofs.Stored.{are_widths, lens_left}
use Rattle.boc_table.proofs.put.widths_of.Goals as goal

pub loop-preserved : goal.loop-preserved
loop-preserved c =
    let columns = c.args.columns in
    let left = c.args.lines - (c.loop.counter + 1) in
    let rest = c.loop.rest.now in
    let widened = c.widen.new.widths in
    let one : c.args.lines - c.loop.counter ≡ suc left = omega arith in
    let is : take c.loop.widths.len (widened ++ drop (length widened) c.loop.widths.items) ≡ widened =
    take_at widened (drop (length widened) c.loop.widths.items) c.loop.widths.len (omega arith) in
    record {
      columns = ap length is ∙ omega arith;
      all = ap length c.split_at.ensures.back ∙ lens_left (c.args.lines - c.loop.counter) left columns rest c.loop.invariant.all one;
      widest = λ k small.
          let now : get_or (take c.loop.widths.len (widened ++ drop (length widened) c.loop.widths.items)) k 0
          ≡ max (get_or c.loop.widths.items k 0) (get_or rest k 0) =
          ap (λ ws. get_or ws k 0) is ∙ c.widen.ensures k (omega (arith, small))
          ∙ ap (λ w. max w (get_or c.split_at.result.0.now k 0)) (ap (λ ws. get_or ws k 0) c.deref_mut.ensures.value)
          ∙ ap (max (get_or c.loop.widths.items k 0)) (ap (λ ls. get_or ls k 0) c.split_at.ensures.front ∙ get_or-take columns rest k 0 small) in
          let next : stored_width columns left c.split_at.result.1.now k ≡ stored_width columns left (drop columns rest) k =
          ap (λ ls. stored_width columns left ls k) c.split_at.ensures.back in
          let this : stored_width columns (c.args.lines - c.loop.counter) rest k ≡ max (get_or rest k 0) (stored_width columns left (drop columns rest) k) =
          ap (λ n. stored_width columns n rest k) one in
          let all = c.loop.invariant.widest k small in
          omega (arith, now, next, this, all);
    }

pub returns : goal.returns
returns c =
    are_widths c.args.columns c.args.lines c.args.lens.now c.loop.widths.items c.loop.invariant.columns
    (λ k small. let over : c.args.lines - c.loop.counter ≡ 0 = omega arith in
    let none : stored_width c.args.columns (c.args.lines - c.loop.counter) c.loop.rest.now k ≡ 0 =
    ap (λ n. stored_width c.args.columns n c.loop.rest.now k) over in omega (arith, none, c.loop.invariant.widest k small))
