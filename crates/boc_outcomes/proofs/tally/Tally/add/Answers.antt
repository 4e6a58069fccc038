use Rattle.std.proofs.Common.{◌∙◌, ap}
use Rattle.std.specs.Prelude.{Some}
use Rattle.boc_outcomes.specs.declared.bounds.Bounds.{Bounds}
use Rattle.boc_outcomes.specs.Samples.{sample_of}
use Rattle.boc_outcomes.specs.Tallies.{widened}
use Rattle.boc_outcomes.proofs.Tallying.{both_ok, tally_more}
use Rattle.boc_outcomes.proofs.tally.Tally.add.Goals as goal

pub returns : goal.returns
returns c =
    let old = c.args.self.now in
    let s = sample_of c.args.sampled.now in
    both_ok c.count.result (λ places step samples long so.
    tally_more c.args.asked.now.seed samples s old c.count.new.self
    (c.count.ensures.rows ∙ ap (λ (b : Bounds). Some b) (c.widen.ensures ∙ ap (widened old.rows) c.from.ensures))
    (c.count.ensures.spans ∙ ap (λ (b : Bounds). Some b) c.widen-2.ensures)
    places (step samples long) so) c.count.ensures.placed c.count.ensures.all
