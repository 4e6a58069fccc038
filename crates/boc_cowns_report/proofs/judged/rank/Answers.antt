use Rattle.std.proofs.Common.{◌≡◌, ℕ, Bool, nat_lt, ap, ◌∙◌}
use Rattle.std.specs.Prelude.{insert}
use Rattle.boc_remedies.specs.InOrder.{first_place}
use Rattle.boc_remedies.proofs.InOrder.{put_there}
use Rattle.boc_cowns_report.specs.declared.judged.JudgedCown.{JudgedCown}
use Rattle.boc_cowns_report.proofs.judged.rank.Goals as goal

pub returns : goal.returns
returns c =
    let more : JudgedCown → Bool = λ own. nat_lt c.args.own.end own.end in
    let place : c.place_of-place.result ≡ first_place more c.args.judged.now.items =
    c.place_of-place.ensures.is ∙ ap (first_place more) c.deref.ensures.value in
    c.in_ok-insert.ensures.items ∙ ap (λ (n : ℕ). insert c.args.judged.now.items n c.args.own) place ∙ put_there more c.args.judged.now.items c.args.own
