use Rattle.std.proofs.Common.{ℕ, ◌==◌, ◌∙◌, ap, length, get_or}
use Rattle.std.specs.Prelude.{slice_get, position}
use Rattle.std.specs.Option.{option_and_then}
use Rattle.arrayvec.specs.ArrayVec.{ArrayVec}
use Rattle.boc_chain.proofs.Places.{push_here, push_other}
use Rattle.boc_chain.proofs.kept_links.Linked.push.Goals as goal

pub returns-clause-here : goal.returns-clause-here
returns-clause-here c = λ one.
    let old = c.args.self.now in
    ap (λ (cs : ArrayVec ℕ). option_and_then (λ k. slice_get c.add.new.self.links k)
    (position (λ x. x == get_or old.cowns.items (length old.links) 0) cs.items)) c.add.ensures.cowns
    ∙ push_here old.cowns.items old.links c.add.new.self.links c.args.link c.add.ensures.links c.requires one

pub returns-clause-others : goal.returns-clause-others
returns-clause-others c = λ d n.
    let old = c.args.self.now in
    ap (λ (cs : ArrayVec ℕ). option_and_then (λ k. slice_get c.add.new.self.links k) (position (λ x. x == d) cs.items)) c.add.ensures.cowns
    ∙ push_other old.cowns.items old.links c.add.new.self.links c.args.link d c.add.ensures.links n
