use Rattle.std.proofs.Common.{◌∙◌, ap, refl, subst, sym}
use Rattle.std.specs.Prelude.{Ok}
use Rattle.boc_eval.specs.Frames.{UnderWay as Framed}
use Rattle.boc_eval.specs.Stops.{BodyEnds}
use Rattle.boc_dispatch.specs.declared.worker.Hand.{Hand}
use Rattle.boc_dispatch.specs.declared.worker.Hand.TheVariants as hands
use Rattle.boc_dispatch.specs.Working.{HasThought}
use Rattle.boc_dispatch.proofs.worker.take_up.Goals as goal

pub returns-else-go_on : goal.returns-else-go_on
returns-else-go_on c =
    let job = c.in-Started.job in
    let ends = c.if-go_on.ensures.stop in
    let gives = c.into_outcome.ensures in
    let frame = c.in_ok-frame-in-Started.frame in
    let at_start = c.in_ok-frame-in-Started.ensures in
    subst (λ (h : Hand). HasThought h (Ok tt) (hands.Done job.row c.into_outcome.result)) (sym c.in-Started.is) (
      refl,
      record {
        ended = c.go_on.new.self;
        ends = subst (λ (f : Framed). BodyEnds f c.go_on.new.self) at_start ends;
        body = gives.body ∙ ap (λ (f : Framed). f.body) ends.marked ∙ ap (λ (f : Framed). f.body) at_start;
        args = gives.args ∙ ap (λ (f : Framed). f.args) ends.marked ∙ ap (λ (f : Framed). f.args) at_start;
        inputs = gives.inputs ∙ ap (λ (f : Framed). f.inputs) ends.marked ∙ ap (λ (f : Framed). f.inputs) at_start;
        wishes = gives.wishes ∙ ap (λ (f : Framed). f.made) ends.marked ∙ ap (λ (f : Framed). f.made) at_start;
        means = gives.meaning;
      },
    )
