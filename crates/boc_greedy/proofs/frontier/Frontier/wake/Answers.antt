use denote.Enum.Bare.{same_true, sameb}
use Rattle.std.proofs.Common.{rules, ◌≡◌, true, false, Some, refl, sym, subst, ap, ◌∙◌, inl, inr, arith}
use Rattle.std.proofs.lemmas.Option.{slice_get_read}
use Rattle.boc_greedy.specs.contracts.frontier.RowState.{the_type}
use Rattle.boc_greedy.specs.declared.frontier.RowState.{RowState}
use Rattle.boc_greedy.specs.declared.frontier.RowState.TheVariants.{Waiting}
use Rattle.boc_greedy.specs.Frontier.{CountsReady}
use Rattle.boc_greedy.proofs.frontier.Frontier.wake.Goals as goal
use Rattle.boc_greedy.proofs.frontier.Frontier.wake.Goals.{else-unmet-eq0-via-then-unmet-eq0+else-eq, else-unmet-eq0-via-else-unmet-eq0}

pub returns-then-eq-clause-rows : goal.returns-then-eq-clause-rows
returns-then-eq-clause-rows c = λ r. (
  λ h. elim ((c.insert.ensures.rows r).0 h) [ inl was ↦ inl was | inr e ↦ inr (e, is) ],
  λ h. (c.insert.ensures.rows r).1 (elim h [ inl was ↦ inl was | inr p ↦ inr p.0 ]),
)
  where
    is : CountsReady c.args.self.now.states.items c.args.self.now.unmet.items c.args.row
    is = record {
      waiting = slice_get_read c.args.self.now.states.items _ c.args.row c.index.result.now refl c.requires.there c.index.ensures
          ∙ ap Some (same_true the_type (search rules) _ _ (sym c.if-eq.ensures));
      none_unmet = omega (arith, c.requires.count, c.if-unmet-eq0.true);
    }

pub returns-else-unmet-eq0-clause-rows : goal.returns-else-unmet-eq0-clause-rows
returns-else-unmet-eq0-clause-rows c = λ r. (λ h. inl h, λ h. elim h [ inl was ↦ was | inr p ↦ absurd (lacks p.1) ])
  where
    lacks : CountsReady c.args.self.now.states.items c.args.self.now.unmet.items c.args.row → ⊥
    lacks is = elim c.else-unmet-eq0.branch [
      | else-unmet-eq0-via-then-unmet-eq0+else-eq w ↦ (
          let read = slice_get_read c.args.self.now.states.items _ c.args.row w.index.result.now refl c.requires.there
          w.index.ensures in
          let e : w.index.result.now ≡ Waiting = (let s = sym read ∙ is.waiting in cc) in
          let t : false ≡ true = subst (λ (s : RowState). false ≡ sameb the_type s Waiting) e w.if-eq.ensures in
          cc)
      | else-unmet-eq0-via-else-unmet-eq0 w ↦ omega (arith, c.requires.count, w.if-unmet-eq0.false, is.none_unmet)
    ]
