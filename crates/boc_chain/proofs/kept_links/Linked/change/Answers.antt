use Rattle.std.proofs.Common.{◌≡◌, ◌∙◌, ℕ, take, set, length, length-take, ap, arith}
use Rattle.std.specs.Prelude.{slice_get}
use Rattle.boc_chain.specs.KeptLinks.{Linked, head_of, places_of}
use Rattle.boc_chain.specs.ShortLinks.{changed}
use Rattle.boc_chain.proofs.Keeping.{changed_taken}
use Rattle.boc_chain.proofs.kept_links.Linked.change.Goals as goal

pub returns-clause-links : goal.returns-clause-links
returns-clause-links c = λ l got.
    let kept = c.self.inside.kept in
    let new = c.change.new.self in
    let count = (head_of kept).count in
    let view : take count (places_of kept) ≡ c.args.self.now.links = ap (λ (l : Linked). l.links) c.self.view_is in
    ap (λ (n : ℕ). take n (places_of new)) c.change.ensures.count
    ∙ changed_taken (changed c.args.change) count (places_of kept) (places_of new) c.args.place l
    (omega (arith, c.requires, ap length view, length-take count (places_of kept))) c.change.ensures.places
    (ap (λ ls. slice_get ls c.args.place) view ∙ got)
    ∙ ap (λ ls. set ls c.args.place (changed c.args.change l)) view
