use Rattle.boc_reader.specs.Resolving.{names_of}
use Rattle.boc_reader.proofs.ResolvingTop.{is_free_at, is_declared_at}
use Rattle.boc_reader.proofs.names.top.Top.leaves_free.Goals as goal

pub returns-then-not-is_declared : goal.returns-then-not-is_declared
returns-then-not-is_declared c =
    is_free_at c.args.self.now.cowns.items _ c.args.self.now.defs.items _ c.args.scope.now c.args.name.now _ _ c.deref.ensures.value c.deref-2.ensures.value
    c.is_declared.ensures c.if-not-is_declared.true c.is_known.ensures

pub returns-else-not-is_declared : goal.returns-else-not-is_declared
returns-else-not-is_declared c =
    is_declared_at c.args.self.now.cowns.items _ c.args.self.now.defs.items _ (names_of c.args.scope.now) c.args.name.now _ c.deref.ensures.value
    c.deref-2.ensures.value c.is_declared.ensures c.if-not-is_declared.false
