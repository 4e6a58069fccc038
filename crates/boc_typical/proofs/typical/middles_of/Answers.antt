use Rattle.std.proofs.Common.{refl, List, ◌+◌, take, sym, subst, ℕ}
use Rattle.std.proofs.lemmas.List.{take_all}
use Rattle.boc_typical.specs.Spread.{AreMiddlesBy}
use Rattle.boc_typical.proofs.Offsets.{by_more}
use Rattle.boc_typical.proofs.typical.middles_of.Goals as goal

pub bounds-typical-def : goal.bounds-typical-def
bounds-typical-def c = c.requires c.loop-def.def-index 0 c.loop-def-test.true

pub loop-def-preserved : goal.loop-def-preserved
loop-def-preserved c = subst (λ (l : List ℕ). AreMiddlesBy (take (c.loop-def.def-index + 1) c.args.defs.now) c.args.typical.now l)
    (sym {A = List ℕ} c.in_ok-push.ensures.items)
    (by_more c.args.defs.now c.args.typical.now c.loop-def.middles.items c.loop-def.def-index _ c.loop-def-test.true refl c.loop-def.invariant)

pub returns : goal.returns
returns c = rw (take_all c.loop-def.def-index c.args.defs.now c.loop-def-test.false) at c.loop-def.invariant
