use Rattle.std.proofs.Common.{◌≡◌, ◌-◌, ◌<◌, ℕ, length, get_or, map, drop, sym, ap, ◌∙◌, subst, arith}
use Rattle.std.proofs.lemmas.List.{map_push}
use Rattle.boc_reader.specs.Placed.{position_of}
use Rattle.boc_reader.specs.Views.{block_of, def_of, tree_of}
use Rattle.boc_reader.specs.Listing.{IsLineOf}
use Rattle.boc_reader.proofs.NamePlaces.{has_left, line_more, listed_count, listed_more, name_at}
use Rattle.boc_reader.proofs.listing.list_defs.Goals as goal

pub list_def-requires-clause-some : goal.list_def-requires-clause-some
list_def-requires-clause-some c =
    let d = c.def-item.result in
    let i = c.loop-def.def-index in
    let is : d ≡ get_or c.args.tree.now.defs.items i d = c.def-item.is ∙ ap (λ ds. get_or ds i d) c.deref-def-items.ensures.value in
    (has_left c.args.tokens.now c.args.tree.now i d c.requires.shape c.requires.left (omega (arith, ap length c.deref-def-items.ensures.value)) is).some

pub list_def-requires-clause-within : goal.list_def-requires-clause-within
list_def-requires-clause-within c =
    let d = c.def-item.result in
    let i = c.loop-def.def-index in
    let is : d ≡ get_or c.args.tree.now.defs.items i d = c.def-item.is ∙ ap (λ ds. get_or ds i d) c.deref-def-items.ensures.value in
    (has_left c.args.tokens.now c.args.tree.now i d c.requires.shape c.requires.left (omega (arith, ap length c.deref-def-items.ensures.value)) is).within

pub loop-def-preserved : goal.loop-def-preserved
loop-def-preserved c =
    let d = c.def-item.result in
    let i = c.loop-def.def-index in
    let text = c.args.text.now in
    let tokens = c.args.tokens.now in
    let tree = c.args.tree.now in
    let made = c.in_ok-list_def.field-0 in
    let all = c.loop-def.all.items in
    let is : d ≡ get_or tree.defs.items i d = c.def-item.is ∙ ap (λ ds. get_or ds i d) c.deref-def-items.ensures.value in
    let small : i < length tree.defs.items = omega (arith, ap length c.deref-def-items.ensures.value) in
    let has = has_left tokens tree i d c.requires.shape c.requires.left small is in
    let line : IsLineOf text (drop i (map def_of tree.defs.items)) (block_of tree.main.items) made.line =
    record {
      at = position_of (drop (length tokens - d.left) tokens);
      name = name_at text tokens (tree_of tree) i d.left c.requires.shape c.requires.placed has;
      line_is = c.in_ok-list_def.ensures.line;
    } in
    let count : length (map (λ x. x.line) all) ≡ i = listed_count all tree.defs.items i (omega (arith, small)) c.loop-def.invariant.all in
    rw c.in_ok-push.ensures.items (record {
      all = listed_more all tree.defs.items i made d small is c.loop-def.invariant.all c.in_ok-list_def.ensures.names;
      lines = rw (map_push (λ x. x.line) all made)
          (line_more text (map def_of tree.defs.items) (block_of tree.main.items) (map (λ x. x.line) all) made.line c.loop-def.invariant.lines
          (subst (λ (n : ℕ). IsLineOf text (drop n (map def_of tree.defs.items)) (block_of tree.main.items) made.line) (sym count) line));
    })
