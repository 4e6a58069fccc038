use Rattle.std.proofs.Common.{IsTrue, List, ℕ, subst}
use Rattle.std.specs.Prelude.{◌&&◌, ◌↔◌}
use Rattle.boc_program.specs.Signatures.{AllBelow}
use Rattle.boc_eval.specs.Instances.{behaviour_in}
use Rattle.boc_lines.specs.Replays.{Fits}
use Rattle.boc_lines.proofs.Replaying.{fits_by}
use Rattle.boc_lines.proofs.replay.fits.Goals as goal

pub returns-then-takes : goal.returns-then-takes
returns-then-takes c =
    let below = c.are_below-below.result in
    subst (λ b. IsTrue (b && below) ↔ Fits c.args.program.now (behaviour_in c.args.instance.now)) c.if-takes.true
    (fits_by c.args.program.now (behaviour_in c.args.instance.now) c.body.result.now c.takes-takes.result below c.body.ensures c.takes-takes.ensures
    (subst (λ n. IsTrue below ↔ AllBelow n c.args.instance.now.cowns.items) c.requires
    (subst (λ (cowns : List ℕ). IsTrue below ↔ AllBelow c.args.cowns cowns) c.deref.ensures.0 c.are_below-below.ensures)))
