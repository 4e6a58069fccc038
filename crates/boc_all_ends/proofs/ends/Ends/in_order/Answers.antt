use Rattle.std.proofs.Common.{◌++◌, map, sym, ◌∙◌, ap, append-nil}
use Rattle.boc_all_ends.specs.Gathered.{note_of, noted_in}
use Rattle.boc_all_ends.proofs.Noting.{Entries, holds_ends}
use Rattle.boc_all_ends.proofs.ends.Ends.in_order.Goals as goal

pub returns : goal.returns
returns c =
    let all = c.loop-values.all.items in
    holds_ends c.args.self.now all
    (sym (append-nil (map note_of all)) ∙ ap (λ (s : Entries). map note_of all ++ map noted_in s) (sym c.in-None.ensures.steps.0)
    ∙ c.loop-values.invariant)
    c.iter-values-items.ensures.ordered
