-- Rows end at one tick: with a remedy there is one span, and one end of the greedy plan.
use Rattle.std.proofs.Common.{◌≡◌, ◌∙◌, ℕ, List, length, get_or, Option, Some, None, ap, arith, subst, sym}
use Rattle.std.proofs.lemmas.List.{ext_get_or}
use Rattle.std.proofs.lemmas.Option.{slice_get-get_or}
use Rattle.boc_runs.specs.declared.rows.Row.{Row}
use Rattle.boc_runs.specs.Rows.{IsRows}
use Rattle.boc_plans.specs.Seen.{seen}
use Rattle.boc_plans.specs.Sweeps.{IsGreedyEnd}
use Rattle.boc_plans.proofs.Seeing.{rows_seen}
use Rattle.boc_order.proofs.Alone.{one_span}
use Rattle.boc_greedy.proofs.Curving.{one_greedy_end}
use Rattle.boc_why.specs.declared.causes.Cause.TheVariants as causes
use Rattle.boc_why.proofs.OneCause.{one_with}
use Rattle.boc_remedies.specs.declared.ends.Ends.{Ends}
use Rattle.boc_remedies.specs.Questions.{Asked}
use Rattle.boc_remedies.specs.declared.remedy.Remedy.{Remedy}
use Rattle.boc_remedies.specs.declared.remedy.Remedy.TheVariants.{HalfCost, NoOrder, EarlySpawns}
use Rattle.boc_remedies.specs.Ends.{AreAllEnds, AreEnds, AreEndsAfter, IsEndFor}
use Rattle.boc_remedies.specs.Remedies.{AreRowsAfter, AreRowsWith}

-- ---- rows as they are

one_end_for : (rows : List Row) → IsRows rows → (workers greedy other : Option ℕ) → IsEndFor rows workers greedy → IsEndFor rows workers other
    → greedy ≡ other
one_end_for rows hr None greedy other a b = a ∙ sym b
one_end_for rows hr (Some p) None other a b = absurd a
one_end_for rows hr (Some p) (Some end) None a b = absurd b
one_end_for rows hr (Some p) (Some end) (Some other) a b = ap (λ (tick : ℕ). Some tick) (one_greedy_end rows hr p end other a b)

-- rows end at one tick, for as many workers as rows and for a number of them
pub one_ends : (rows : List Row) → IsRows rows → (workers : Option ℕ) (ends other : Ends) → AreEnds rows workers ends → AreEnds rows workers other
    → ends ≡ other
one_ends rows hr workers ends other a b =
    let span : ends.span ≡ other.span = one_span rows ends.span other.span a.span b.span in
    let greedy : ends.greedy ≡ other.greedy = one_end_for rows hr workers ends.greedy other.greedy a.greedy b.greedy in
    λ i. record { span = span i; greedy = greedy i }

-- ---- rows with a remedy

-- with a remedy rows are one list
pub one_rows_with : (rows : List Row) (defs families : List ℕ) (remedy : Remedy) (after other : List Row) → AreRowsWith rows defs families remedy after
    → AreRowsWith rows defs families remedy other → after ≡ other
one_rows_with rows defs families (HalfCost def) after other a b = one_with rows defs (causes.Cost def) after other a b
one_rows_with rows defs families (NoOrder set) after other a b = a ∙ sym b
one_rows_with rows defs families (EarlySpawns def) after other a b = one_with rows defs (causes.Spawns def) after other a b

pub one_rows_after : (question : Asked) (remedy : Remedy) (after other : List Row) → AreRowsAfter question remedy after → AreRowsAfter question remedy other
    → after ≡ other
one_rows_after question remedy after other a b = one_rows_with question.rows question.defs question.families remedy after other a b

-- with a remedy rows end at one tick
pub one_ends_after : (question : Asked) (remedy : Remedy) (ends other : Ends) → AreEndsAfter question remedy ends → AreEndsAfter question remedy other
    → ends ≡ other
one_ends_after question remedy ends other a b =
    let same : a.after ≡ b.after = one_rows_after question remedy a.after b.after a.changed b.changed in
    one_ends (seen question.sharing b.after) (rows_seen question.sharing b.after b.shape) question.workers ends other
    (subst (λ (rows : List Row). AreEnds (seen question.sharing rows) question.workers ends) same a.are) b.are

-- so with each of some remedies the ends are one list
pub one_list_of_ends : (question : Asked) (remedies : List Remedy) (all others : List Ends) → AreAllEnds question remedies all
    → AreAllEnds question remedies others → all ≡ others
one_list_of_ends question remedies all others a b =
    let whole : length all ≡ length others = a.whole ∙ sym b.whole in
    let no_ends : Ends = record { span = 0; greedy = None } in
    ext_get_or no_ends all others whole (λ k h.
    let remedy : Remedy = get_or remedies k (HalfCost 0) in
    let there = slice_get-get_or remedies k (HalfCost 0) (omega (arith, h, a.whole)) in
    let ends = slice_get-get_or all k no_ends h in
    let other = slice_get-get_or others k no_ends (omega (arith, h, whole)) in
    one_ends_after question remedy (get_or all k no_ends) (get_or others k no_ends)
    (a.at k remedy (get_or all k no_ends) there ends) (b.at k remedy (get_or others k no_ends) there other))
