use Rattle.std.proofs.Common.{ap, map, arith}
use Rattle.boc_reader.specs.Shape.{cowns_declared}
use Rattle.boc_reader.specs.Names.{plain_cown}
use Rattle.boc_reader.specs.Spells.{plain_declared}
use Rattle.boc_reader.specs.Views.{cown_of}
use Rattle.boc_reader.proofs.ResolvingFront.{next_at, made_more}
use Rattle.boc_reader.proofs.names.declare.resolve_cowns.Goals as goal

pub loop-cown-preserved : goal.loop-cown-preserved
loop-cown-preserved c = record {
  made = made_more cown_of plain_cown plain_declared c.args.cowns.now c.loop-cown.cown-index c.cown-item.result c.loop-cown.all.items _ c.in_ok-cown.cown _
      (omega arith) c.cown-item.is c.in_ok-cown.ensures c.in_ok-push.ensures.items c.loop-cown.invariant.made;
  few = omega (
    arith,
    ap (λ ws. cowns_declared (map cown_of ws))
        (next_at c.args.cowns.now c.loop-cown.cown-index c.cown-item.result (omega arith) c.cown-item.is),
    c.loop-cown.invariant.few,
  );
}
