use Rattle.std.proofs.Common.{◌≡◌, ◌<◌, true, false, inl, inr, List, length, get_or, sym, subst, ap, ◌∙◌}
use Rattle.std.specs.Prelude.{slice_range}
use Rattle.boc_rules.specs.declared.kept_row.Life.TheVariants.{Pending, Running, Ended}
use Rattle.boc_rules.specs.declared.kept_row.KeptRow.{KeptRow}
use Rattle.boc_rules.proofs.Judging.{pending_may_start, others_may_not}
use Rattle.boc_rules.proofs.so_far.RunSoFar.may_start.Goals as goal
use Rattle.boc_rules.proofs.so_far.RunSoFar.may_start.Goals.{In-Some}

-- the kept_row of the row is there, and was read
read : (c : In-Some) → (c.args.row < length c.args.self.now.kept_rows.items)
    × (c.in-Some.kept_row.now ≡ get_or c.args.self.now.kept_rows.items c.args.row c.in-Some.kept_row.now)
read c =
    let h = c.in-Some.ensures.lookup in
    let kept_rows = c.deref.ensures.value in (
      subst (λ (xs : List KeptRow). c.args.row < length xs) kept_rows h.3.0,
      subst (λ (xs : List KeptRow). c.in-Some.kept_row.now ≡ get_or xs c.args.row c.in-Some.kept_row.now) kept_rows h.1,
    )

pub returns-in-Pending : goal.returns-in-Pending
returns-in-Pending c =
    let s = c.in-Some.kept_row.now in
    let r = read (goal.at.returns-in-Pending c).In-Some in
    let found = c.deref-in-Pending.result.now in
    let is = pending_may_start c.args.self.now c.args.row s (slice_range found s.from s.to) c.requires r.0 r.1 c.in-Pending.is
    (ap (λ xs. slice_range xs s.from s.to) c.deref-in-Pending.ensures.value) in
    (λ t. is.0 (c.are_over.ensures.0 t), λ m. c.are_over.ensures.1 (is.1 m))

pub returns-in-Running : goal.returns-in-Running
returns-in-Running c =
    let s = c.in-Some.kept_row.now in
    let r = read (goal.at.returns-in-Running c).In-Some in (
      λ t. absurd (let f : false ≡ true = t in cc),
      λ m. absurd (let waits : s.life ≡ Pending = others_may_not c.args.self.now c.args.row s c.requires r.0 r.1 m in
          elim c.in-Running.is [ inl e ↦ (let f : Running ≡ Pending = sym e ∙ waits in cc) | inr e ↦ (let f : Ended ≡ Pending = sym e ∙ waits in cc) ]),
    )
