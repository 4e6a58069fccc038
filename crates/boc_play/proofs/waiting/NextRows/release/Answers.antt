use Rattle.std.proofs.Common.{ℕ, length, ap, arith}
use Rattle.std.specs.declared.vec.Vec.{Vec}
use Rattle.std.specs.declared.alloc.Global.{Global}
use Rattle.std.proofs.lemmas.List.{length-map}
use Rattle.boc_play.proofs.waiting.NextRows.release.Goals as goal

pub take-requires : goal.take-requires
take-requires c = omega (
  arith,
  c.requires,
  length-map c.args.self.now.next.items (λ (v : Vec ℕ Global). v.items),
  ap (length {A = Vec ℕ Global}) c.deref_mut.ensures.value,
)
