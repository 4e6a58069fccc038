use Rattle.std.proofs.Common.{◌≡◌, ◌∙◌, ℕ, ap, subst, sym, MatchOption}
use Rattle.std.specs.Prelude.{Option, Some, None}
use Rattle.boc_dispatch.specs.declared.live.Live.{Live}
use Rattle.boc_dispatch.specs.Calls.{IsLeaving}
use Rattle.boc_dispatch.specs.Inside.{parts_of, state}
use Rattle.boc_dispatch.specs.Moves.{IsFoundLeaving}
use Rattle.boc_dispatch.proofs.Tables.{live_same}
use Rattle.boc_dispatch.proofs.Homes.{leaving_slot, one_behaviour}
use Rattle.boc_dispatch.proofs.roster.Roster.leaving.Goals as goal

pub returns-in_err-slot : goal.returns-in_err-slot
returns-in_err-slot g c =
    let d = parts_of g.C.Chains.lists g.C.Chains.place c.args.self.now in
    let row : ℕ = c.args.row in
    subst (λ (o : Option (ℕ × ℕ)). MatchOption o (IsLeaving (state d) row → ⊥) (λ found. IsFoundLeaving d row found.0 found.1)) (sym c.from_residual.ensures)
    (λ q. let s = leaving_slot d c.requires.kept row q in c.in_err-slot.ensures s.0 s.1)

pub returns-in_err-request : goal.returns-in_err-request
returns-in_err-request g c =
    let d = parts_of g.C.Chains.lists g.C.Chains.place c.args.self.now in
    let x = c.in_ok-slot.ensures in
    let same = live_same c.args.self.now.live.slots c.in_ok-slot.slot x.this c.index.result.now x.is c.index.ensures in
    subst (λ (o : Option (ℕ × ℕ)). MatchOption o (IsLeaving (state d) c.args.row → ⊥) (λ found. IsFoundLeaving d c.args.row found.0 found.1))
    (sym c.from_residual-in_err-request.ensures)
    (λ q.
    (let s = leaving_slot d c.requires.kept c.args.row q in
    let stage = ap (λ (l : Live). l.stage) (same ∙ one_behaviour d c.requires.kept c.in_ok-slot.slot s.0 c.args.row x s.1) ∙ s.2 in
    let yes = (c.leaving.ensures q.request).1 stage in
    absurd (let e : None ≡ Some q.request = sym c.in_err-request.was ∙ yes in cc)))

pub returns : goal.returns
returns g c =
    let x = c.in_ok-slot.ensures in
    let same = live_same c.args.self.now.live.slots c.in_ok-slot.slot x.this c.index.result.now x.is c.index.ensures in
    (x.this, record { is = x.is; stage_is = ap (λ (l : Live). l.stage) (sym same) ∙ (c.leaving.ensures c.in_ok-request.request).0 c.in_ok-request.was })
