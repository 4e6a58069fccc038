use Rattle.std.proofs.Common.{◌+◌, List, drop, reverse, sym, ap, ◌∙◌, arith, vec_len, eq-eqb, subst}
use Rattle.std.proofs.lemmas.Bool.{eqb-true}
use Rattle.boc_reader.specs.Tokens.{Token}
use Rattle.boc_reader.specs.Placed.{token_of, tokens_of}
use Rattle.boc_reader.specs.Room.{Within, within_behind}
use Rattle.boc_reader.specs.WrongShape.{IsWrongThere}
use Rattle.boc_reader.proofs.Strays.{after_is, none_at_end, placed_read, placed_within, says_at}
use Rattle.boc_reader.proofs.Strays.{shape_at_end, wanted_at_end, whole_at_end, within_at_end, wrong_at_end}
use Rattle.boc_reader.proofs.stray.first_wrong.Goals as goal

pub returns-in-Err : goal.returns-in-Err
returns-in-Err c =
    let ps = c.args.tokens.now in
    let k = c.loop-before.before in
    let p = c.index-tokens-before.result in
    let s : Within = record { wanted = reverse c.loop-before.wanted.items; room = c.loop-before.room } in
    let h = rw c.in-Err.is at c.in_ok-left.ensures in
    let wrong : IsWrongThere c.in-Err.fault (token_of p.token) (drop (k + 1) (tokens_of ps)) s.wanted s.room =
    subst (λ (ts : List Token). IsWrongThere c.in-Err.fault (token_of p.token) ts s.wanted s.room)
    (after_is ps k) h.0 in
    record {
      says = says_at c.in-Err.fault ps k p s c.loop-before-test.true c.index-tokens-before.is c.loop-before.invariant.0 c.loop-before.invariant.1 wrong;
      wanted_there = rw h.1 c.loop-before.invariant.0;
      within_there = rw h.1 c.loop-before.invariant.1;
    }

pub loop-before-preserved : goal.loop-before-preserved
loop-before-preserved c =
    let ps = c.args.tokens.now in
    let k = c.loop-before.before in
    let p = c.index-tokens-before.result in
    let s : Within = record { wanted = reverse c.loop-before.wanted.items; room = c.loop-before.room } in
    let h = rw c.in-Ok.is at c.in_ok-left.ensures in (
      placed_read ps k p s.wanted c.loop-before-test.true c.index-tokens-before.is c.loop-before.invariant.0 ∙ h.0,
      placed_within ps k p s c.loop-before-test.true c.index-tokens-before.is c.loop-before.invariant.1
          ∙ ap (λ (ts : List Token). within_behind (token_of p.token) ts s.wanted s.room) (sym (after_is ps k)) ∙ h.1,
    )

pub returns-then-is_empty : goal.returns-then-is_empty
returns-then-is_empty c =
    let ps = c.args.tokens.now in
    let k = c.loop-before.before in
    let wanted = c.loop-before.wanted in
    let s : Within = record { wanted = reverse wanted.items; room = c.loop-before.room } in
    let none = eqb-true (vec_len wanted) 0 (sym c.is_empty.ensures ∙ c.if-is_empty.true) in
    shape_at_end ps k s c.loop-before-test.false c.loop-before.invariant.1
    (whole_at_end ps k wanted.items c.loop-before-test.false c.loop-before.invariant.0 (omega (arith, none, wanted.ok.0)))

pub returns : goal.returns
returns c =
    let ps = c.args.tokens.now in
    let k = c.loop-before.before in
    let wanted = c.loop-before.wanted in
    let s : Within = record { wanted = reverse wanted.items; room = c.loop-before.room } in
    let some = sym c.is_empty.ensures ∙ c.if-is_empty.false in
    record {
      says = (
        wrong_at_end ps k wanted.items c.loop-before-test.false c.loop-before.invariant.0
            (λ none. let empty = eq-eqb (vec_len wanted) 0 (omega (arith, none, wanted.ok.0)) in absurd cc),
        none_at_end ps k s c.loop-before-test.false c.loop-before.invariant.1,
      );
      wanted_there = wanted_at_end ps k s.wanted c.loop-before-test.false c.loop-before.invariant.0;
      within_there = within_at_end ps k s c.loop-before-test.false c.loop-before.invariant.1;
    }
