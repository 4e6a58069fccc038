use Rattle.std.proofs.Common.{◌≡◌, ℕ, ◌-◌, List, [], length, get_or, sym, ◌∙◌, arith, add-one, ap}
use Rattle.std.proofs.lemmas.List.{get_or_default, with_items_is, length-map, length-replicate}
use Rattle.std.proofs.Math.Seq.{take-length}
use Rattle.std.specs.declared.vec.Vec.{Vec}
use Rattle.std.specs.declared.alloc.Global.{Global}
use Rattle.boc_sweep.specs.declared.windows.Stretch.{Stretch}
use Rattle.boc_sweep.specs.declared.windows.TheConstants.{LENGTHS}
use Rattle.boc_sweep.specs.Tops.{lists_of}
use Rattle.boc_sweep.proofs.Lengths.{has_a_list, by_length_none, by_length_skip, by_length_put}
use Rattle.boc_sweep.proofs.windows.by_length.Goals as goal
use Rattle.boc_sweep.proofs.windows.by_length.Goals.{then-stretch+in_ok-put, else-stretch}

abbrev none : Stretch
none = record { low = 0; high = 0; value = 0 }

pub put-requires : goal.put-requires
put-requires c =
    let k : ℕ = c.loop-stretch.stretch-index in
    let x : Stretch = get_or c.args.stretches.now k none in
    let is : x ≡ get_or c.args.stretches.now k x = get_or_default c.args.stretches.now k none x c.loop-stretch-test.true in
    rw c.deref_mut.ensures.value (omega (
      arith,
      c.loop-stretch.invariant.count,
      has_a_list (x.high - x.low) c.ilog2-place.result c.ilog2-place.ensures.power_le (omega (arith, c.requires x (k, c.loop-stretch-test.true, sym is))),
    ))

pub loop-stretch-preserved : goal.loop-stretch-preserved
loop-stretch-preserved c =
    let k : ℕ = c.loop-stretch.stretch-index in
    let x : Stretch = get_or c.args.stretches.now k none in
    let is : x ≡ get_or c.args.stretches.now k x = get_or_default c.args.stretches.now k none x c.loop-stretch-test.true in
    elim c.if-stretch.branch [
      | then-stretch+in_ok-put w ↦ (
          let puts = rw w.deref_mut.ensures.value at w.in_ok-put.ensures in
          let len : length w.put.new.lists ≡ length c.loop-stretch.lists.items =
          omega (arith, w.put.auto.lists, w.deref_mut.ensures.len, c.loop-stretch.lists.ok.0) in
          let items = with_items_is c.loop-stretch.lists w.put.new.lists (omega (arith, len, c.loop-stretch.lists.ok.0)) in
          let low = has_a_list (x.high - x.low) w.ilog2-place.result w.ilog2-place.ensures.power_le
          (omega (arith, c.requires x (k, c.loop-stretch-test.true, sym is))) in
          rw (w.lists-is, items) (record {
            count = len ∙ c.loop-stretch.invariant.count;
            lists = rw add-one (by_length_put c.args.stretches.now k (lists_of c.loop-stretch.lists.items) (lists_of w.put.new.lists) x w.ilog2-place.result
                c.loop-stretch-test.true is
                (omega (arith, length-map c.loop-stretch.lists.items (λ (v : Vec Stretch Global). v.items), c.loop-stretch.invariant.count, low)) puts
                (omega (arith, w.ilog2-place.ensures.power_le, w.if-stretch.true))
                (omega (arith, w.ilog2-place.ensures.next_power_gt, w.if-stretch.true))
                c.loop-stretch.invariant.lists);
          }))
      | else-stretch w ↦ rw w.lists-is (record {
        count = c.loop-stretch.invariant.count;
        lists = rw add-one (by_length_skip c.args.stretches.now k _ x c.loop-stretch-test.true is
            (omega (arith, w.if-stretch.false)) c.loop-stretch.invariant.lists);
      })
    ]

pub loop-stretch-init : goal.loop-stretch-init
loop-stretch-init c = record {
  count = sym (length-map c.in_ok-lists.lists.items (λ (v : Vec Stretch Global). v.items)) ∙ ap length c.in_ok-lists.ensures
      ∙ length-replicate {A = List Stretch} LENGTHS [];
  lists = by_length_none LENGTHS (lists_of c.in_ok-lists.lists.items) c.in_ok-lists.ensures;
}

pub returns : goal.returns
returns c =
    let all : c.loop-stretch.stretch-index ≡ length c.args.stretches.now = omega (arith, c.loop-stretch-test.false, c.loop-stretch.auto.stretch-index-end) in
    record {
      count = c.loop-stretch.invariant.count;
      lists = rw (all, take-length c.args.stretches.now) at c.loop-stretch.invariant.lists;
    }
