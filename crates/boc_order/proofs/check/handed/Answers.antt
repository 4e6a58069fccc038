use Rattle.std.proofs.Common.{◌≡◌, ℕ, ◌<◌, ◌≤◌, ◌+◌, [], ◌∷◌, ◌++◌, List, length, take, get_or, arith, sym, subst, ap, ◌∙◌, true≢false}
use Rattle.std.proofs.lemmas.List.{length-take}
use Rattle.std.proofs.lemmas.List.Elements.{All-contains, Contains-get_or}
use Rattle.boc_program.specs.declared.limits.TheConstants.{MOST_COWNS}
use Rattle.boc_runs.specs.Rows.{cowns_of}
use Rattle.boc_plans.specs.Plans.{ConflictOn}
use Rattle.boc_order.specs.Handed.{AreHanded}
use Rattle.boc_order.proofs.HandedCowns.{AreThose, those_more, those_same, those_all, handed_from_those}
use Rattle.boc_order.proofs.check.handed.Goals as goal
use Rattle.boc_order.proofs.check.handed.Goals.{then-conflict_on, else-conflict_on, Joined-conflict_on}

pub push-requires : goal.push-requires
push-requires c =
    let next : c.loop-own.own-index < length c.as_slice-own-items.result.now = c.loop-own-test.true in
    let few : length c.as_slice-own-items.result.now ≤ 8 = c.as_slice-own-items.ensures.few in
    (omega arith, omega (arith, c.loop-own.invariant.few, length-take c.loop-own.own-index (cowns_of c.args.rows.now c.args.a)))

-- the cowns that the loop goes over are the row's
all_own : (c : Joined-conflict_on) → c.as_slice-own-items.result.now ≡ cowns_of c.args.rows.now c.args.a
all_own c = c.as_slice-own-items.ensures.value ∙ c.held.ensures

pub loop-own-preserved : goal.loop-own-preserved
loop-own-preserved c =
    let own : List ℕ = cowns_of c.args.rows.now c.args.a in
    let k : ℕ = c.loop-own.own-index in
    let T : ℕ → Type 0 = λ x. ConflictOn c.args.rows.now x c.args.a c.args.b in
    let there : k < length own = subst (λ (cs : List ℕ). k < length cs) (all_own c) c.loop-own-test.true in
    let next : get_or c.as_slice-own-items.result.now k 0 ≡ get_or own k 0 = ap (λ (cs : List ℕ). get_or cs k 0) (all_own c) in
    elim c.if-conflict_on.branch [
      | then-conflict_on w ↦ subst (λ (cs : List ℕ). AreThose T (take (k + 1) own) cs)
          (sym (ap (λ h. h.items) w.handed-is ∙ (w.push.ensures.items ∙ ap (λ (x : ℕ). c.loop-own.handed.items ++ x ∷ []) (w.from.ensures ∙ next))))
          (those_more T own c.loop-own.handed.items k there (c.requires.shape.cowns_rise c.args.a c.requires.first) c.loop-own.invariant
          (subst T next (c.conflict_on.ensures.0 w.if-conflict_on.true)))
      | else-conflict_on w ↦ subst (λ (cs : List ℕ). AreThose T (take (k + 1) own) cs) (sym (ap (λ h. h.items) w.handed-is))
          (those_same T own c.loop-own.handed.items k there c.loop-own.invariant
          (λ t. true≢false (sym (c.conflict_on.ensures.1 (subst T (sym next) t)) ∙ w.if-conflict_on.false)))
    ]

pub of-requires : goal.of-requires
of-requires c k d h =
    let own : List ℕ = cowns_of c.args.rows.now c.args.a in
    let all = those_all (λ x. ConflictOn c.args.rows.now x c.args.a c.args.b) _ own c.loop-own.handed.items c.loop-own.own-index
    (c.as_slice-own-items.ensures.value ∙ c.held.ensures) c.loop-own-test.false c.loop-own.invariant in
    All-contains (λ x. x < MOST_COWNS) own (get_or c.loop-own.handed.items k d) (c.requires.shape.cowns_below c.args.a c.requires.first)
    ((all.each (get_or c.loop-own.handed.items k d)).0 (Contains-get_or c.loop-own.handed.items k d h)).0

pub returns : goal.returns
returns c = subst (AreHanded c.args.rows.now c.args.a c.args.b) (sym (ap (λ h. h.items) c.of.ensures))
    (handed_from_those c.args.rows.now c.args.a c.args.b c.loop-own.handed.items
    (those_all (λ x. ConflictOn c.args.rows.now x c.args.a c.args.b) _ (cowns_of c.args.rows.now c.args.a) c.loop-own.handed.items c.loop-own.own-index
    (c.as_slice-own-items.ensures.value ∙ c.held.ensures) c.loop-own-test.false c.loop-own.invariant))
