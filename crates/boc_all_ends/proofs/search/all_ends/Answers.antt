use Rattle.std.proofs.Common.{◌≡◌, List, [], ◌∷◌, ◌++◌, refl, sym, ◌∙◌, ap, subst}
use Rattle.std.specs.Prelude.{if◌then◌else◌}
use Rattle.std.specs.List.{list_any}
use Rattle.boc_program.specs.declared.program.Program.{Program}
use Rattle.boc_front_rows.specs.declared.row.Front.{Front}
use Rattle.boc_all_ends.specs.declared.found.Found.{Found}
use Rattle.boc_all_ends.specs.Searching.{HasReached, StandsAt}
use Rattle.boc_all_ends.proofs.EndsOfLayers.{no_items}
use Rattle.boc_all_ends.proofs.Putting.{front_eq}
use Rattle.boc_all_ends.proofs.Searching.{first_stands, is_found}
use Rattle.boc_all_ends.proofs.search.all_ends.Goals as goal

pub go_through-requires-clause-layer : goal.go_through-requires-clause-layer
go_through-requires-clause-layer g c =
    let p : Program = c.first.new.self.program.now in
    let lists = c.first.new.self.lists in
    let f : Front = c.in_ok-first.field-0 in
    let none : c.new-layer.result.keys ≡ [] = no_items c.new-layer.result.keys c.new-layer.ensures.len in
    let now : c.insert.new.self.keys ≡ f ∷ [] =
    c.in_ok-insert.ensures.keys ∙ ap (λ (ks : List Front). if list_any (front_eq f) ks then ks else ks ++ (f ∷ [])) none in
    subst (λ (ks : List Front). StandsAt p lists 1 ks) (sym now) (first_stands p lists f c.in_ok-first.ensures.layer c.in_ok-first.ensures.kept)

pub returns : goal.returns
returns g c =
    let p : Program = c.args.program.now in
    let many = c.go_through.new.self.fronts in
    let ends = c.go_through.new.ends in
    let reach = c.in_ok-reach.reach in
    let found : Found = record { all = c.in_ok-in_order.field-0; below = reach.below; whole = reach.whole; endless = reach.endless; fronts = many } in
    is_found p c.args.most many ends reach found
    (subst (λ (q : Program). HasReached q many c.args.most ends reach) (c.in_ok-first.ensures.program ∙ c.in_ok-new.ensures.program) c.in_ok-reach.ensures.reached)
    c.in_ok-in_order.ensures refl refl refl refl
