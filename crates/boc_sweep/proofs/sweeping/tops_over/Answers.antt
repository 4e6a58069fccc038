use Rattle.std.proofs.Common.{◌≡◌, length, arith}
use Rattle.rayon.proofs.ListFacts.{IfOk-then}
use Rattle.boc_sweep.proofs.sweeping.tops_over.Goals as goal

pub all_tops-requires-clause-inside : goal.all_tops-requires-clause-inside
all_tops-requires-clause-inside c = λ r m. omega (
  arith,
  c.in_ok-stretches.ensures.inside r (rw c.deref.ensures.value at m),
  c.len.ensures,
  c.args.chosen.now.bases.ok.0,
)

pub all_tops-requires-clause-few : goal.all_tops-requires-clause-few
all_tops-requires-clause-few c = omega (arith, c.len.ensures, c.args.chosen.now.bases.ok.0, c.requires.counted.few, c.requires.shape.not_many)

pub returns : goal.returns
returns c =
    let count : c.len.result ≡ length c.args.chosen.now.bases.items = omega (arith, c.len.ensures, c.args.chosen.now.bases.ok.0) in
    IfOk-then c.all_tops.result _ _ c.all_tops.ensures (λ tops are. record {
      stretches = c.in_ok-stretches.stretches.items;
      crossing = c.in_ok-stretches.ensures;
      tops_are = rw (c.deref.ensures.value, count) at are;
    })
