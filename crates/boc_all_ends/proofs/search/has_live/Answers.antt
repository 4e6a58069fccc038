use Rattle.std.proofs.Common.{◌≡◌, ◌+◌, ◌<◌, false, true, List, [], ◌∷◌, ◌++◌, length, take, refl, sym, ◌∙◌, ap, subst, arith}
use Rattle.std.proofs.lemmas.List.{take_more, take_all}
use Rattle.boc_front_rows.specs.declared.row.Front.{Front}
use Rattle.boc_all_ends.specs.Gathered.{HasLive}
use Rattle.boc_all_ends.proofs.EndsOfLayers.{no_items}
use Rattle.boc_all_ends.proofs.Noting.{none_if, some_if}
use Rattle.boc_all_ends.proofs.Searching.{one_more_dead}
use Rattle.boc_all_ends.proofs.search.has_live.Goals as goal

pub returns-then-not-is_empty : goal.returns-then-not-is_empty
returns-then-not-is_empty c =
    let f : Front = c.front-item.result in
    let k = c.loop-front.front-index in (
      λ e. (
        f,
        (k, omega (arith, c.loop-front-test.true), sym c.front-item.is),
        λ dead. some_if f.live.len c.is_empty.result c.is_empty.ensures c.if-not-is_empty.true
            (omega (arith, ap length dead, f.live.ok.0)),
      ),
      λ h. refl,
    )

pub loop-front-preserved : goal.loop-front-preserved
loop-front-preserved c = λ h.
    let fs : List Front = c.args.layer.now in
    let f : Front = c.front-item.result in
    let k = c.loop-front.front-index in
    let low : k < length fs = omega (arith, c.loop-front-test.true) in
    let more : take (k + 1) fs ≡ take k fs ++ (f ∷ []) = take_more fs k f low ∙ ap (λ z. take k fs ++ (z ∷ [])) (sym c.front-item.is) in
    let none = none_if f.live.len c.is_empty.result c.is_empty.ensures c.if-not-is_empty.false in
    one_more_dead (take k fs) f (no_items f.live.items (omega (arith, none, f.live.ok.0))) c.loop-front.invariant (subst HasLive more h)

pub returns : goal.returns
returns c =
    let fs : List Front = c.args.layer.now in
    let whole : take c.loop-front.front-index fs ≡ fs = take_all c.loop-front.front-index fs (omega (arith, c.loop-front-test.false)) in
    (λ e. absurd (let f : false ≡ true = e in cc), λ h. absurd (c.loop-front.invariant (subst HasLive (sym whole) h)))
