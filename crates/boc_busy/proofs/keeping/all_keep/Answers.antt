use Rattle.std.proofs.Common.{◌≡◌, true, refl, inl, inr, subst, arith}
use Rattle.std.proofs.lemmas.Bool.{cases_lt}
use Rattle.boc_busy.specs.Keeping.{KeepsAt}
use Rattle.boc_busy.proofs.AllKeep.{all_at}
use Rattle.boc_busy.proofs.keeping.all_keep.Goals as goal

pub loop-row-preserved : goal.loop-row-preserved
loop-row-preserved c = λ b h. elim (cases_lt b c.loop-row.row) [
  | inl l ↦ c.loop-row.invariant b l
  | inr g ↦ (
      let holds : c.keeps_at.result ≡ true = cc in
      subst (KeepsAt c.args.rows.now c.args.starts.now) (omega (arith, h, g)) (c.keeps_at.ensures.0 holds))
]

pub returns : goal.returns
returns c = (
  λ _. all_at c.args.rows.now c.args.starts.now
      (λ b there. c.loop-row.invariant b (omega (arith, there, c.loop-row-test.false, c.len-row-end.ensures.count))) c.requires.whole,
  λ _. refl,
)
