use Rattle.std.proofs.Common.{◌≡◌, ◌∷◌, ◌++◌, [], ◌∙◌, ap, map, subst, sym}
use Rattle.std.specs.Prelude.{All}
use Rattle.std.proofs.lemmas.List.{take_all}
use Rattle.std.proofs.lemmas.List.Elements.{All-nil, All-push, All-same}
use Rattle.boc_compare.specs.declared.totals.Totals.{Totals}
use Rattle.boc_compare.specs.Totalled.{IsOfFamily}
use Rattle.boc_compare.proofs.FamilyTotals.{keys_more}
use Rattle.boc_compare.proofs.families.family_totals.Goals as goal

pub loop-key-init : goal.loop-key-init
loop-key-init c = record {
  keys = ap (map (λ (own : Totals). own.key)) c.in_ok-list.ensures.items;
  each = All-same (IsOfFamily c.args.families.now c.args.cowns.now c.args.links.now c.args.weights.now) c.in_ok-list.list.items [] c.in_ok-list.ensures.items
      (All-nil (IsOfFamily c.args.families.now c.args.cowns.now c.args.links.now c.args.weights.now));
}

pub loop-key-preserved : goal.loop-key-preserved
loop-key-preserved c =
    let pushed : c.push.new.self.items ≡ c.loop-key.list.items ++ c.of_family.result ∷ [] = c.in_ok-push.ensures.items in
    record {
      keys = ap (map (λ (own : Totals). own.key)) pushed
          ∙ keys_more c.loop-key.list.items c.of_family.result c.deref-key-items.result.now c.loop-key.key-index c.loop-key-test.true c.loop-key.invariant.keys
          c.of_family.ensures.key;
      each = subst (All (IsOfFamily c.args.families.now c.args.cowns.now c.args.links.now c.args.weights.now)) (sym pushed)
          (All-push (IsOfFamily c.args.families.now c.args.cowns.now c.args.links.now c.args.weights.now) c.loop-key.list.items c.of_family.result
          c.loop-key.invariant.each c.of_family.ensures.is);
    }

pub returns : goal.returns
returns c = record {
  keys = c.loop-key.invariant.keys ∙ take_all c.loop-key.key-index c.deref-key-items.result.now c.loop-key-test.false ∙ c.deref-key-items.ensures.value
      ∙ c.in_ok-keys.ensures;
  each = c.loop-key.invariant.each;
}
