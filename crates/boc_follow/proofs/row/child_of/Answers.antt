use Rattle.std.proofs.Common.{◌≡◌, ◌∙◌, ◌<◌, length, map, Some, None, true, arith, rules, refl, sym, ap}
use Rattle.std.proofs.lemmas.Option.{slice_get_read}
use Rattle.std.specs.Prelude.{slice_get}
use Rattle.std.proofs.lemmas.List.{length-map}
use Rattle.boc_program.specs.Rising.{rising}
use Rattle.boc_eval.specs.Wishes.{wish_of}
use Rattle.boc_follow.specs.Standings.{standing_in, next_at}
use Rattle.boc_follow.proofs.Nexts.{next_kept, no_child, is_child}
use Rattle.boc_follow.proofs.row.child_of.Goals as goal

pub returns-in_err-wish : goal.returns-in_err-wish
returns-in_err-wish c =
    let rows = c.args.rows.now in
    let row = c.in_ok-get.field-0.now in
    let found = c.in_ok-get.ensures.lookup in
    let there : c.args.parent < length rows = search rules in
    let at : slice_get rows c.args.parent ≡ Some row = slice_get_read rows (length rows) c.args.parent row refl there found.1 in
    let none : next_at (map standing_in rows) c.args.parent ≡ None = next_kept rows c.args.parent row at ∙ sym c.in_err-wish.ensures in
    let some : 0 < length rows = omega (arith, there) in
    rw c.from_residual-in_err-wish.ensures
    (no_child (map standing_in rows) c.args.parent c.args.offset c.args.cowns.now (omega (arith, some, length-map rows standing_in))
    (λ w next offset cowns. absurd (let e : None ≡ Some w = sym none ∙ next in cc)))

pub returns-then-is_for : goal.returns-then-is_for
returns-then-is_for c =
    let rows = c.args.rows.now in
    let row = c.in_ok-get.field-0.now in
    let wish = c.in_ok-wish.wish.now in
    let found = c.in_ok-get.ensures.lookup in
    let there : c.args.parent < length rows = search rules in
    let at : slice_get rows c.args.parent ≡ Some row = slice_get_read rows (length rows) c.args.parent row refl there found.1 in
    let next : next_at (map standing_in rows) c.args.parent ≡ Some (wish_of wish) = next_kept rows c.args.parent row at ∙ sym c.in_ok-wish.ensures in
    let some : 0 < length rows = omega (arith, there) in
    let fits : (c.args.offset ≡ wish.offset) × (c.args.cowns.now ≡ rising wish.cowns.items) = search rules in
    is_child (map standing_in rows) c.args.parent c.args.offset c.args.cowns.now (standing_in c.wished.result)
    (omega (arith, some, length-map rows standing_in))
    (record { wish = wish_of wish; next = next; offset_is = fits.0; cowns_are = fits.1; child_is = c.wished.ensures })

pub returns-else-is_for : goal.returns-else-is_for
returns-else-is_for c =
    let rows = c.args.rows.now in
    let row = c.in_ok-get.field-0.now in
    let wish = c.in_ok-wish.wish.now in
    let found = c.in_ok-get.ensures.lookup in
    let there : c.args.parent < length rows = search rules in
    let at : slice_get rows c.args.parent ≡ Some row = slice_get_read rows (length rows) c.args.parent row refl there found.1 in
    let is_next : next_at (map standing_in rows) c.args.parent ≡ Some (wish_of wish) = next_kept rows c.args.parent row at ∙ sym c.in_ok-wish.ensures in
    let some : 0 < length rows = omega (arith, there) in
    let no : (c.args.offset ≡ wish.offset) × (c.args.cowns.now ≡ rising wish.cowns.items)
    → ⊥ = λ f. absurd (let no : c.is_for.result ≡ true = c.is_for.ensures.1 f in let yes = c.if-is_for.false in cc) in
    no_child (map standing_in rows) c.args.parent c.args.offset c.args.cowns.now (omega (arith, some, length-map rows standing_in))
    (λ w next offset cowns. let e : Some (wish_of wish) ≡ Some w = sym is_next ∙ next in let same : wish_of wish ≡ w = cc in
    no (offset ∙ ap (λ v. v.offset) (sym same), cowns ∙ ap (λ v. rising v.cowns) (sym same)))
