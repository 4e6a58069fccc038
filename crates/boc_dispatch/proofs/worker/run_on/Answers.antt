use Rattle.std.proofs.Common.{◌≡◌, ◌∙◌, ap, subst, sym}
use Rattle.std.specs.Prelude.{ℕ}
use Rattle.boc_eval.specs.Frames.{UnderWay as Framed}
use Rattle.boc_eval.specs.Stops.{BodyEnds}
use Rattle.boc_dispatch.specs.declared.worker.Due.{Due}
use Rattle.boc_dispatch.specs.declared.worker.Due.TheVariants as dues
use Rattle.boc_dispatch.specs.declared.worker.Hand.{Hand}
use Rattle.boc_dispatch.specs.declared.worker.Hand.TheVariants as hands
use Rattle.boc_dispatch.specs.Working.{HasGiven, HasGoneOn}
use Rattle.boc_dispatch.proofs.worker.run_on.Goals as goal

-- what a frame gives that has just ended
ended : (row : ℕ) (f g : Framed) (due : Due) (k : Hand) → BodyEnds f g → HasGiven (hands.Framed row g due) k → HasGoneOn row f k
ended row f g due (hands.Done own o) ends gives = (
  gives.0,
  record {
    ended = g;
    ends = ends;
    body = gives.1 ∙ ap (λ (x : Framed). x.body) ends.marked;
    args = gives.2 ∙ ap (λ (x : Framed). x.args) ends.marked;
    inputs = gives.3 ∙ ap (λ (x : Framed). x.inputs) ends.marked;
    wishes = gives.4 ∙ ap (λ (x : Framed). x.made) ends.marked;
    means = gives.5;
  },
)
ended row f g due (hands.Started job) ends gives = absurd gives
ended row f g due _ ends gives = absurd gives

pub returns-else-has_wish : goal.returns-else-has_wish
returns-else-has_wish c row f is =
    let at = c.in-Framed in
    let both : hands.Framed at.field-0 at.frame at.field-2 ≡ hands.Framed row f dues.Going = sym at.is ∙ is in
    let rows : at.field-0 ≡ row = cc in
    let frames : at.frame ≡ f = cc in
    subst (λ (r : ℕ). HasGoneOn r f c.end.new.hand) rows
    (subst (λ (x : Framed). HasGoneOn at.field-0 x c.end.new.hand) frames
    (ended at.field-0 at.frame c.go_on-has_wish.new.self at.field-2 c.end.new.hand c.if-has_wish.ensures.stop c.end.ensures))
