use Rattle.std.proofs.Common.{◌≡◌, ℕ, length, map, sym, ◌∙◌, ap, arith}
use Rattle.std.specs.Prelude.{Option, Some, None}
use Rattle.std.specs.declared.vec.Vec.{Vec}
use Rattle.std.specs.declared.alloc.Global.{Global}
use Rattle.std.proofs.lemmas.List.{length-map}
use Rattle.boc_play.specs.Waiting.{latest_at}
use Rattle.boc_play.proofs.Chaining.{read_here}
use Rattle.boc_play.proofs.waiting.NextRows.link.Goals as goal

pub put_after-requires : goal.put_after-requires
put_after-requires c = λ other e.
    let nothing : Option ℕ = None in
    let latest : latest_at c.args.self.now.latest.items c.args.cown ≡ Some other =
    read_here c.args.self.now.latest.items c.args.cown nothing c.index-before.result.now c.requires.cown ∙ sym c.index-before.ensures ∙ e in
    omega (
      arith,
      c.requires.there c.args.cown other latest,
      length-map c.args.self.now.next.items (λ (v : Vec ℕ Global). v.items),
      ap (length {A = Vec ℕ Global}) c.deref_mut.ensures.value,
    )
