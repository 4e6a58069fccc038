use Rattle.std.proofs.Common.{◌≡◌, ℕ, Bool, nat_lt, ap, ◌∙◌}
use Rattle.std.specs.Prelude.{insert}
use Rattle.boc_remedies.specs.declared.candidates.Candidate.{Candidate}
use Rattle.boc_remedies.specs.Ends.{judged}
use Rattle.boc_remedies.specs.InOrder.{first_place}
use Rattle.boc_remedies.proofs.InOrder.{put_there}
use Rattle.boc_remedies.proofs.candidates.rank.Goals as goal

pub returns : goal.returns
returns c =
    let more : Candidate → Bool = λ own. nat_lt (judged c.args.own.ends) (judged own.ends) in
    let place : c.place_of-place.result ≡ first_place more c.args.ranked.now.items =
    c.place_of-place.ensures.is ∙ ap (first_place more) c.deref.ensures.value in
    c.in_ok-insert.ensures.items ∙ ap (λ (n : ℕ). insert c.args.ranked.now.items n c.args.own) place ∙ put_there more c.args.ranked.now.items c.args.own
