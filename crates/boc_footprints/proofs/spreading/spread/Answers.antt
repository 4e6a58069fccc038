use Rattle.std.proofs.Common.{◌≡◌, ◌≢◌, ◌↔◌, ℕ, ◌-◌, ◌<◌, IsTrue, List, Bool, length, ap, sym, ◌∙◌, subst}
use Rattle.boc_footprints.specs.Spreading.{is_marked, marked, after_spawns, Leads}
use Rattle.boc_footprints.proofs.Rounds.{Spread, not_spread, spread_on, all_spread, fewer_left}
use Rattle.boc_footprints.proofs.spreading.spread.Goals as goal

pub rounds-init : goal.rounds-init
rounds-init c = not_spread c.args.all.now c.args.marks.now

pub rounds-preserved : goal.rounds-preserved
rounds-preserved c =
    subst (λ (ms : List Bool). Spread c.args.all.now c.args.marks.now ms) (sym c.spread_round.ensures)
    (spread_on c.args.all.now c.args.marks.now c.rounds.marks c.requires c.rounds.invariant)

pub rounds-smaller : goal.rounds-smaller
rounds-smaller c =
    let marks : List Bool = c.rounds.marks in
    let moved : marked (after_spawns marks c.args.all.now) ≢ marked marks =
    λ e. c.if-count-many.false (c.count.ensures ∙ ap marked c.spread_round.ensures ∙ e ∙ sym c.count-many.ensures) in
    subst (λ (ms : List Bool). length ms - marked ms < length marks - marked marks) (sym c.spread_round.ensures)
    (fewer_left c.args.all.now c.args.marks.now marks c.requires c.rounds.invariant moved)

pub returns-then-count-many : goal.returns-then-count-many
returns-then-count-many c =
    let still : marked (after_spawns c.rounds.marks c.args.all.now) ≡ marked c.rounds.marks =
    sym (ap marked c.spread_round.ensures) ∙ sym c.count.ensures ∙ c.if-count-many.true ∙ c.count-many.ensures in
    subst (λ (ms : List Bool). (kind : ℕ) → (IsTrue (is_marked ms kind) ↔ Leads c.args.all.now c.args.marks.now kind)) (sym c.spread_round.ensures)
    (all_spread c.args.all.now c.args.marks.now c.rounds.marks c.requires c.rounds.invariant still)
