use Rattle.std.proofs.Common.{◌<◌, ◌≤◌, List, ◌∙◌, sym, ℕ, inl, inr, subst, arith, length, true≢false}
use Rattle.std.specs.Prelude.{slice_index}
use Rattle.std.specs.List.{Contains}
use Rattle.std.proofs.lemmas.Bool.{cases_eq}
use Rattle.std.proofs.lemmas.List.{get_or_default}
use Rattle.boc_runs.specs.Rows.{cowns_of}
use Rattle.boc_plans.specs.Plans.{ConflictOn}
use Rattle.boc_order.proofs.check.conflict.Goals as goal

pub loop-cown-preserved : goal.loop-cown-preserved
loop-cown-preserved c = λ i below k. elim (cases_eq i c.loop-cown.cown-index) [
  | inl e ↦ true≢false (sym (c.conflict_on.ensures.1 (rw c.cowns-cown-items.ensures
      (subst (λ (x : ℕ). ConflictOn c.args.rows.now (slice_index (cowns_of c.args.rows.now c.args.a) x) c.args.a c.args.b) e k))) ∙ c.if-conflict_on.false)
  | inr ne ↦ c.loop-cown.invariant i (omega arith) k
]

-- a conflict is on one of the cowns
on_one : (cowns : List ℕ) (k x : ℕ) (P : ℕ → Type 0) → length cowns ≤ k → ((i : ℕ) → i < k → P (slice_index cowns i) → ⊥) → Contains cowns x → P x → ⊥
on_one cowns k x P all none (i, h, e) p = none i (omega (arith, h, all)) (subst P (sym (get_or_default cowns i 0 x h ∙ e)) p)

pub returns : goal.returns
returns c = (
  λ t. absurd (true≢false (sym t)),
  λ f. absurd (on_one _ c.loop-cown.cown-index f.0 (λ (x : ℕ). ConflictOn c.args.rows.now x c.args.a c.args.b)
      (rw c.cowns-cown-items.ensures at c.loop-cown-test.false) c.loop-cown.invariant f.1.first f.1),
)
