use Rattle.std.proofs.Common.{ℕ, ◌+◌, List, sym, subst, arith}
use Rattle.std.specs.BTreeMap as tree
use Rattle.std.specs.Ordering.{nat_cmp}
use Rattle.boc_eager.specs.Kinds.{kind_code}
use Rattle.boc_eager.proofs.KindPlaces.{HasFirsts, firsts_more, kinds_from_firsts}
use Rattle.boc_eager.proofs.kinds.kinds_of.Goals as goal

pub loop-row-preserved : goal.loop-row-preserved
loop-row-preserved c =
    let rows = c.args.rows.now in
    record {
      room = omega (arith, c.loop-row.invariant.room, c.push_reserved.ensures.capacity);
      firsts = subst (λ (kinds : List ℕ). HasFirsts (kind_code rows) (c.loop-row.row + 1) (tree.get nat_cmp c.first_with.new.seen) kinds)
          (sym c.push_reserved.ensures.items)
          (firsts_more (kind_code rows) c.loop-row.row (tree.get nat_cmp c.loop-row.seen) (tree.get nat_cmp c.first_with.new.seen) c.loop-row.kinds.items
          c.in_ok-kind.kind c.loop-row.invariant.firsts (rw c.code_of.ensures at c.in_ok-kind.ensures.first)
          (rw c.code_of.ensures at c.in_ok-kind.ensures.seen));
    }

pub returns : goal.returns
returns c = kinds_from_firsts c.args.rows.now c.loop-row.row (tree.get nat_cmp c.loop-row.seen) c.loop-row.kinds.items
    (omega (arith, c.loop-row-test.false, c.loop-row.auto.row-end, c.len-row-end.ensures.count)) c.loop-row.invariant.firsts
