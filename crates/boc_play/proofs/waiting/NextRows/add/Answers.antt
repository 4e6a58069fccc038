use Rattle.std.proofs.Common.{◌≡◌, ◌+◌, ◌<◌, ℕ, List, [], ◌∷◌, ◌++◌, drop, length, refl, sym, ◌∙◌, ap, subst, arith, length-append}
use Rattle.std.specs.Prelude.{Option, Some, slice_index_or}
use Rattle.std.proofs.lemmas.List.{length-set}
use Rattle.boc_play.specs.Waiting.{Tables, AreThere, all_linked, latest_at, linked, lists_of, tables}
use Rattle.boc_play.proofs.Chaining.{drop_one, list_pushed, put_many, there_linked}
use Rattle.boc_play.proofs.waiting.NextRows.add.Goals as goal

pub loop-cown-init : goal.loop-cown-init
loop-cown-init c =
    let old : Tables = tables c.args.self.now in
    let now : lists_of c.push.new.self.items ≡ old.next ++ ([] ∷ []) =
    list_pushed c.args.self.now.next.items c.push.new.self.items c.new.result c.in_ok-push.ensures.items c.new.ensures.items in
    record {
      so_far = ap (λ (ls : List (List ℕ)). let t : Tables = record { latest = old.latest; next = ls } in all_linked t c.args.row c.args.cowns.now) now;
      many = refl;
      there = λ d r e. omega (arith, c.requires.there d r e, ap (length {A = List ℕ}) now, length-append old.next ([] ∷ []));
      low = omega (arith, c.requires.row, ap (length {A = List ℕ}) now, length-append old.next ([] ∷ []));
    }

pub link-requires-clause-cown : goal.link-requires-clause-cown
link-requires-clause-cown c = omega (arith, c.requires.cowns c.loop-cown.cown-index 0 c.loop-cown-test.true, c.loop-cown.invariant.many)

pub link-requires-clause-there : goal.link-requires-clause-there
link-requires-clause-there c = c.loop-cown.invariant.there

pub loop-cown-preserved : goal.loop-cown-preserved
loop-cown-preserved c =
    let inv = c.loop-cown.invariant in
    let old : Tables = tables c.loop-cown.self in
    let new : Tables = tables c.link.new.self in
    let row = c.args.row in
    let cowns = c.args.cowns.now in
    let i = c.loop-cown.cown-index in
    let cown : ℕ = slice_index_or cowns i 0 in
    let is : new ≡ linked old row cown = c.in_ok-link.ensures in
    let low : cown < length old.latest = omega (arith, c.requires.cowns i 0 c.loop-cown-test.true, inv.many) in
    record {
      so_far = ap (λ (t : Tables). all_linked t row (drop (i + 1) cowns)) is
          ∙ sym (ap (λ (cs : List ℕ). all_linked old row cs) (drop_one cowns i 0 c.loop-cown-test.true)) ∙ inv.so_far;
      many = ap (λ (t : Tables). length t.latest) is ∙ length-set old.latest cown (Some row) ∙ inv.many;
      there = subst AreThere (sym is) (there_linked old row cown inv.there inv.low low);
      low = omega (arith, inv.low, ap (λ (t : Tables). length t.next) is, put_many old.next (latest_at old.latest cown) row);
    }
