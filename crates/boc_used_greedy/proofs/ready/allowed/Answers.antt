use Rattle.std.proofs.Common.{◌≡◌, inl, inr, ◌∙◌, ℕ, ◌<◌, ◌^◌, Bool, true, false, List, Some, subst, sym, ap, arith}
use Rattle.std.specs.Prelude.{slice_get, slice_index_or}
use Rattle.std.proofs.lemmas.Option.{slice_get-get_or}
use Rattle.boc_program.specs.declared.limits.TheConstants.{MOST_ROWS}
use Rattle.boc_runs.specs.Rows.{written_of}
use Rattle.boc_turns.proofs.Folding.{same_test}
use Rattle.boc_used_greedy.specs.declared.fronts.Front.{Front}
use Rattle.boc_used_greedy.specs.Ready.{came_by}
use Rattle.boc_used_greedy.specs.Fronts.{left_of, AreFronts, IsAllowed}
use Rattle.boc_used_greedy.proofs.Leaving.{either}
use Rattle.boc_used_greedy.proofs.Fronting.{front_low}
use Rattle.boc_used_greedy.proofs.Allowed.{came_low, allowed_told, allowed_untold}
use Rattle.boc_used_greedy.proofs.Within.{within_uses}
use Rattle.boc_used_greedy.proofs.ready.allowed.Goals as goal

abbrev none_yet : Front
none_yet = record { at = 0; told = 0; held = 0; wrote = 0 }

needs : (b : Bool) → (b ≡ false → ⊥) → b ≡ true
needs b not = elim (either b) [ inl e ↦ e | inr e ↦ absurd (not e) ]

pub overflow_cast-front-in-Some : goal.overflow_cast-front-in-Some
overflow_cast-front-in-Some c =
    let fronts = c.args.fronts.now in
    let (starts, low, f, not) = c.requires.plan in
    let at = slice_get-get_or fronts c.args.own none_yet (omega (arith, c.ranges.own.fits, f.whole)) in
    omega (arith, (f.each c.args.own _ at).told.below, c.requires.shape.not_many)

pub returns-then-front-row : goal.returns-then-front-row
returns-then-front-row c = λ starts f not.
    let rows = c.args.rows.now in
    let hr = c.requires.shape in
    let holds = c.args.holds.now.all.items in
    let fronts = c.args.fronts.now in
    let at = slice_get-get_or fronts c.args.own none_yet (omega (arith, c.ranges.own.fits, f.whole)) in
    allowed_untold rows holds starts c.args.row c.args.own (within_uses rows hr holds c.requires.holds.are_uses c.args.own) c.requires.there not
    (slice_index_or fronts c.args.own none_yet) (f.each c.args.own _ at) c.in-Some.turn (sym c.in-Some.ensures)
    (needs c.in-Some.turn.needed (λ e. (let s = rw e at c.if-not-turn.false in cc)))
    (omega (arith, c.if-front-row.true))

pub overflow_add-came : goal.overflow_add-came
overflow_add-came c =
    let rows = c.args.rows.now in
    let hr = c.requires.shape in
    let holds = c.args.holds.now.all.items in
    let fronts = c.args.fronts.now in
    let (starts, low, f, not) = c.requires.plan in
    let at = slice_get-get_or fronts c.args.own none_yet (omega (arith, c.ranges.own.fits, f.whole)) in
    let soon = front_low rows holds c.args.own (within_uses rows hr holds c.requires.holds.are_uses c.args.own) starts
    (slice_index_or fronts c.args.own none_yet) (f.each c.args.own _ at).come low hr.not_many in
    omega (arith, c.came-came.ensures, came_low c.writes.result (slice_index_or fronts c.args.own none_yet) soon.0 soon.1)

pub returns-else-front-row : goal.returns-else-front-row
returns-else-front-row c = λ starts f not.
    let rows = c.args.rows.now in
    let hr = c.requires.shape in
    let holds = c.args.holds.now.all.items in
    let fronts = c.args.fronts.now in
    let row : ℕ = c.args.row in
    let own : ℕ = c.args.own in
    let front : Front = slice_index_or fronts own none_yet in
    let within = within_uses rows hr holds c.requires.holds.are_uses own in
    let at = slice_get-get_or fronts own none_yet (omega (arith, c.ranges.own.fits, f.whole)) in
    let (plan, low, g, unstarted) = c.requires.plan in
    let soon = front_low rows holds own within plan front (g.each own _ at).come low hr.not_many in
    let came_soon : c.came-came.result < 2 ^ 62 = omega (arith, c.came-came.ensures, came_low c.writes.result front soon.0 soon.1) in
    let is = c.came-came.ensures
    ∙ ap (λ (w : Bool). came_by w (left_of front)) (same_test c.writes.result own (written_of rows row) c.writes.ensures) in
    subst (λ (t : ℕ). IsAllowed rows holds starts row own (Some t)) (omega (arith, c.saturating_sub.ensures, c.from.ensures))
    (allowed_told rows holds starts row own within c.requires.there not front (f.each own _ at) c.in-Some.turn (sym c.in-Some.ensures)
    (needs c.in-Some.turn.needed (λ e. (let s = rw e at c.if-not-turn.false in cc)))
    c.came-came.result (omega (arith, c.if-front-row.false)) came_soon is)
