use Rattle.std.proofs.Common.{◌≡◌, ℕ, ◌-◌, ◌/◌, ◌^◌, ◌<◌, List, [], length, refl, sym, ◌∙◌, ap, subst, arith}
use Rattle.std.specs.Prelude.{slice_index}
use Rattle.std.specs.declared.vec.Vec.{Vec}
use Rattle.std.specs.declared.alloc.Global.{Global}
use Rattle.std.proofs.lemmas.List.{get_or-replicate, get_or-map, with_items_is}
use Rattle.boc_sweep.specs.declared.windows.Stretch.{Stretch}
use Rattle.boc_sweep.specs.Tops.{AreWindows, AreOfLength, list_at}
use Rattle.boc_sweep.proofs.Topping.{windows_none, windows_all}
use Rattle.boc_sweep.proofs.Lengths.{half_power, some_power, two_halves}
use Rattle.boc_sweep.proofs.windows.all_tops.Goals as goal
use Rattle.boc_sweep.proofs.windows.all_tops.Goals.{After-deref}

pub loop-place-init : goal.loop-place-init
loop-place-init c = record {
  low = omega arith;
  power = refl;
  len = omega (arith, c.in_ok-values.ensures.len);
  windows = windows_none c.args.stretches.now c.args.count _ _ (omega (arith, c.requires.few)) c.requires.inside
      (λ j h. rw (c.in_ok-values.ensures.items_if_clones_equal (λ y e. e)) (get_or-replicate c.args.count j 0 0 h));
}

pub split-requires-clause-some : goal.split-requires-clause-some
split-requires-clause-some c = some_power _ _ (half_power c.loop-place.size c.loop-place.place c.loop-place.invariant.power c.loop-place-test.true)

-- the list at the place, and what it has
of_length : (c : goal.After-deref) → AreOfLength c.args.stretches.now c.deref.result.now (c.loop-place.size / 2)
of_length c =
    let power = half_power c.loop-place.size c.loop-place.place c.loop-place.invariant.power c.loop-place-test.true in
    let below : c.loop-place.place - 1 < length c.in_ok-lists.lists.items =
    omega (arith, c.loop-place-test.true, c.loop-place.invariant.low, c.in_ok-lists.ensures.count) in
    let list : list_at c.in_ok-lists.lists.items (c.loop-place.place - 1) ≡ c.deref.result.now =
    get_or-map (λ (v : Vec Stretch Global). v.items) c.in_ok-lists.lists.items (c.loop-place.place - 1) c.index.result.now [] below
    ∙ ap (λ (v : Vec Stretch Global). v.items) (sym c.index.ensures) ∙ sym c.deref.ensures.value in
    subst (λ (xs : List Stretch). AreOfLength c.args.stretches.now xs (c.loop-place.size / 2)) list
    (subst (λ (n : ℕ). AreOfLength c.args.stretches.now (list_at c.in_ok-lists.lists.items (c.loop-place.place - 1)) n) (sym power)
    (c.in_ok-lists.ensures.lists (c.loop-place.place - 1)))

pub split-requires-clause-inside : goal.split-requires-clause-inside
split-requires-clause-inside c = λ r m. omega (
  arith,
  c.requires.inside r ((of_length c).sound r m),
  c.deref_mut.ensures.len,
  c.loop-place.invariant.len,
  c.loop-place.values.ok.0,
)

pub split-requires-clause-long : goal.split-requires-clause-long
split-requires-clause-long c = (of_length c).long

pub split-requires-clause-short : goal.split-requires-clause-short
split-requires-clause-short c = (of_length c).short

pub loop-place-preserved : goal.loop-place-preserved
loop-place-preserved c =
    let power = half_power c.loop-place.size c.loop-place.place c.loop-place.invariant.power c.loop-place-test.true in
    let whole : length c.deref_mut.result.now ≡ c.args.count =
    omega (arith, c.deref_mut.ensures.len, c.loop-place.invariant.len, c.loop-place.values.ok.0) in
    let len : length c.split.new.values ≡ c.args.count = omega (arith, c.split.ensures.len, whole) in
    let back = with_items_is c.loop-place.values c.split.new.values (omega (arith, len, c.loop-place.invariant.len, c.loop-place.values.ok.0)) in
    rw back (record {
      low = omega (arith, c.loop-place.invariant.low);
      power = power;
      len = len;
      windows = subst (λ (n : ℕ). AreWindows c.args.stretches.now n (c.loop-place.size / 2) (c.loop-place.size / 2) (slice_index c.split.new.values)) whole
          (c.split.ensures.windows c.args.stretches.now (λ r m. omega (arith, c.requires.inside r m, whole))
          (of_length (goal.at.loop-place-preserved c).After-deref)
          (rw (two_halves c.loop-place.size c.loop-place.place c.loop-place.invariant.power c.loop-place-test.true, whole, c.deref_mut.ensures.value)
          c.loop-place.invariant.windows));
    })

pub returns : goal.returns
returns c =
    let none : c.loop-place.place ≡ 0 = omega (arith, c.loop-place-test.false) in
    let one : c.loop-place.size ≡ 1 = c.loop-place.invariant.power ∙ ap (λ (n : ℕ). 2 ^ n) none in
    windows_all c.args.stretches.now c.args.count c.loop-place.values.items c.loop-place.invariant.len (rw one at c.loop-place.invariant.windows)
