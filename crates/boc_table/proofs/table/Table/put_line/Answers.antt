use Rattle.std.proofs.Common.{◌≡◌, ◌++◌, ℕ, suc, List, [], ◌∷◌, length, map, flat_map, arith, ap, ◌∙◌}
use Rattle.std.proofs.lemmas.List.{length-map}
use Rattle.boc_table.specs.declared.side.Side.{Side}
use Rattle.boc_table.specs.Tables.{Grid}
use Rattle.boc_table.specs.Storage.{lines_of}
use Rattle.boc_table.proofs.Stored.{lens_sum, lines_more, more_stored, texts_stored}
use Rattle.boc_table.proofs.table.Table.put_line.Goals as goal

abbrev grid : List Side → List (List (List ℕ)) → Grid
grid sides lines = record { sides = sides; lines = lines }

pub invariant_of-self-2 : goal.invariant_of-self-2
invariant_of-self-2 c =
    let cells = c.args.cells.now in
    let t = c.self.inside in
    let columns = length t.sides.now in
    let counted : c.in_ok-count.count ≡ suc t.count = omega (arith, (rw c.in_ok-count.ensures.ok_part at c.checked_add.ensures).1) in
    let long : length (map (λ x. length x.now) cells) ≡ columns = length-map cells (λ x. length x.now) ∙ rw (← c.self.view_is) at c.requires in
    rw (counted, c.in_ok-put_cells.ensures.lens, c.in_ok-put_cells.ensures.bytes)
    (more_stored t.count columns t.lens.items t.bytes.items (map (λ x. length x.now) cells) (flat_map (λ x. x.now) cells) c.self.invariant long
    (lens_sum (λ x. x.now) cells))

pub returns-clause-ok : goal.returns-clause-ok
returns-clause-ok c =
    let cells = c.args.cells.now in
    let t = c.self.inside in
    let columns = length t.sides.now in
    let lens = map (λ x. length x.now) cells in
    let counted : c.in_ok-count.count ≡ suc t.count = omega (arith, (rw c.in_ok-count.ensures.ok_part at c.checked_add.ensures).1) in
    let long : length lens ≡ columns = length-map cells (λ x. length x.now) ∙ rw (← c.self.view_is) at c.requires in
    let lines : lines_of c.in_ok-count.count columns c.put_cells.new.lens.items c.put_cells.new.bytes.items
    ≡ lines_of t.count columns t.lens.items t.bytes.items ++ map (λ x. x.now) cells ∷ [] =
    rw (counted, c.in_ok-put_cells.ensures.lens, c.in_ok-put_cells.ensures.bytes)
    (lines_more t.count columns t.lens.items t.bytes.items lens (flat_map (λ x. x.now) cells) c.self.invariant long
    ∙ ap (λ texts. lines_of t.count columns t.lens.items t.bytes.items ++ texts ∷ []) (texts_stored (λ x. x.now) cells)) in
    ap (grid t.sides.now) lines ∙ ap (λ g. grid g.sides (g.lines ++ map (λ x. x.now) cells ∷ [])) c.self.view_is
