use Rattle.std.proofs.Common.{◌≡◌, ◌∙◌, ℕ, ◌+◌, ◌≤◌, length, ap, subst, sym, false, true, MatchOption}
use Rattle.std.specs.Prelude.{Option, Some, None}
use Rattle.std.specs.Borrow.{Bor}
use Rattle.std.specs.Option.{option_map, option_copied}
use Rattle.boc_runs.specs.machine.Stages.{row_at}
use Rattle.boc_eval.specs.Frames.{last_wish_of, wishes_of}
use Rattle.boc_eval.specs.Wishes.{wish_of}
use Rattle.boc_eval.specs.declared.wish.SpawnWish.{SpawnWish}
use Rattle.boc_dispatch.specs.declared.live.Live.{Live}
use Rattle.boc_dispatch.specs.Calls.{IsNextWish}
use Rattle.boc_dispatch.specs.Inside.{parts_of, underway, IsOfRow, HasInHand}
use Rattle.boc_dispatch.proofs.Tables.{live_same}
use Rattle.boc_dispatch.proofs.Homes.{has_next_wish, next_wish_means, last_there}
use Rattle.boc_dispatch.proofs.roster.Roster.next_wish.Goals as goal

pub returns-then-opens_next : goal.returns-then-opens_next
returns-then-opens_next g c =
    let d = parts_of g.C.Chains.lists g.C.Chains.place c.args.self.now in
    let runs = c.requires.runs in
    let f = c.args.frame.now in
    let x : IsOfRow d c.args.slot c.args.row = record { this = runs.0; is = runs.1.is; row_is = ap row_at runs.1.stage_is } in
    let same = live_same d.live c.args.slot runs.0 c.index.result.now runs.1.is c.index.ensures in
    let next = c.opens_next.ensures.0 c.if-opens_next.true in
    let none : runs.0.child ≡ None = ap (λ (l : Live). l.child) (sym same) ∙ next.0 in
    let made : f.made ≡ runs.0.spawned + 1 = sym c.wishes.ensures.value ∙ next.1 ∙ ap (λ (l : Live). l.spawned + 1) same in
    let few = subst (λ (n : ℕ). n ≤ length (wishes_of f)) c.wishes.ensures.value c.wishes.ensures.few in
    elim c.last_wish.result as (λ (o : Option (Bor SpawnWish)). option_map wish_of (option_copied o) ≡ last_wish_of f
    → MatchOption o (IsNextWish (underway d) c.args.row f.made → ⊥)
    (λ wish. IsNextWish (underway d) c.args.row f.made × HasInHand d c.args.slot None × (Some (wish_of wish.now) ≡ last_wish_of f))) [
      | None ↦ λ e. absurd (last_there f runs.0.spawned made few (sym e))
      | Some wish ↦ λ e. (
        has_next_wish d c.requires.sound.kept c.args.slot c.args.row f.made x none made,
        record
            { this = runs.0; is = runs.1.is; child_is = none },
        e,
      )
    ] c.last_wish.ensures

pub returns-else-opens_next : goal.returns-else-opens_next
returns-else-opens_next g c =
    let d = parts_of g.C.Chains.lists g.C.Chains.place c.args.self.now in
    let runs = c.requires.runs in
    let x : IsOfRow d c.args.slot c.args.row = record { this = runs.0; is = runs.1.is; row_is = ap row_at runs.1.stage_is } in
    let same = live_same d.live c.args.slot runs.0 c.index.result.now runs.1.is c.index.ensures in
    λ n.
    (let means = next_wish_means d c.requires.sound.kept c.args.slot c.args.row c.args.frame.now.made x n in
    let yes = c.opens_next.ensures.1
    (ap (λ (l : Live). l.child) same ∙ means.0, c.wishes.ensures.value ∙ means.1 ∙ ap (λ (l : Live). l.spawned + 1) (sym same)) in
    absurd (let e : false ≡ true = sym c.if-opens_next.false ∙ yes in cc))
