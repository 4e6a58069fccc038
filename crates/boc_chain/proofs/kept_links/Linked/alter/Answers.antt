use Rattle.std.proofs.Common.{ℕ, ◌==◌, ◌∙◌, ap, get_or, false}
use Rattle.std.specs.Prelude.{slice_get, position, None}
use Rattle.std.specs.Option.{option_and_then}
use Rattle.std.proofs.lemmas.Option.{slice_get-get_or}
use Rattle.arrayvec.specs.ArrayVec.{ArrayVec}
use Rattle.boc_chain.specs.declared.linked.Link.{Link}
use Rattle.boc_chain.specs.ShortLinks.{changed}
use Rattle.boc_chain.proofs.Places.{other_place}
use Rattle.boc_chain.proofs.kept_links.Linked.alter.Goals as goal

pub returns-clause-others : goal.returns-clause-others
returns-clause-others c = λ k d at n.
    let old = c.args.self.now in
    let blank : Link = record { settled = false; scheduled = false; before = None; next = None } in
    let link = get_or old.links c.args.place blank in
    ap (λ (cs : ArrayVec ℕ). option_and_then (λ i. slice_get c.change.new.self.links i) (position (λ x. x == d) cs.items)) c.change.ensures.cowns
    ∙ other_place old.cowns.items old.links c.change.new.self.links k d c.args.place (changed c.args.change link)
    (c.change.ensures.links link (slice_get-get_or old.links c.args.place blank c.requires)) at n
