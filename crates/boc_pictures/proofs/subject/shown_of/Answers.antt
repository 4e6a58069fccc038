use Rattle.std.proofs.Common.{◌≡◌, ◌∙◌, ◌+◌, ◌∷◌, [], ℕ, List, length, ap, arith, subst, sym, Some}
use Rattle.std.specs.Prelude.{slice_get}
use Rattle.std.proofs.lemmas.List.{length-append}
use Rattle.boc_pictures.specs.declared.subject.Shown.{Shown}
use Rattle.boc_pictures.specs.Subjects.{IsShownAs}
use Rattle.boc_pictures.proofs.Showing.{holds_at_all}
use Rattle.boc_pictures.proofs.subject.shown_of.Goals as goal

pub loop-row-preserved : goal.loop-row-preserved
loop-row-preserved c =
    let before = c.loop-row.shown.items in
    let starts = c.args.plan.now.starts.items in
    let size = c.loop-row.invariant.0 in
    let one : Shown = c.shown_at.result in
    let items = c.in_ok-push.ensures.items in
    let through = c.requires.through c.loop-row.row (omega (arith, c.len-row-end.ensures.count, c.loop-row-test.true)) in
    let new : IsShownAs c.args.rows.now starts c.args.steps.now (length before) one =
    subst (λ (r : ℕ). IsShownAs c.args.rows.now starts c.args.steps.now r one) (sym size) (c.shown_at.ensures c.args.steps.now through) in (
      ap (λ (xs : List Shown). length xs) items ∙ length-append before (one ∷ []) ∙ ap (λ (n : ℕ). n + 1) size,
      λ r y at. holds_at_all (IsShownAs c.args.rows.now starts c.args.steps.now) before one
          c.loop-row.invariant.1 new r y (subst (λ (xs : List Shown). slice_get xs r ≡ Some y) items at),
    )

pub returns : goal.returns
returns c = record {
  whole = omega (arith, c.loop-row.invariant.0, c.loop-row-test.false, c.loop-row.auto.row-end, c.len-row-end.ensures.count);
  at = c.loop-row.invariant.1;
}
