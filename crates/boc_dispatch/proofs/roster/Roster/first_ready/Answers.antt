use Rattle.std.proofs.Common.{◌≡◌, ◌<◌, ap, sym, subst, refl, length, arith, false, true, List, [], ◌∷◌}
use Rattle.std.specs.Prelude.{Option, is_some, slice_get, slice_index_or, ℕ}
use Rattle.boc_runs.specs.declared.stage.Stage.{Stage}
use Rattle.boc_runs.specs.machine.Stages.{row_at}
use Rattle.boc_dispatch.specs.declared.calls.Mover.TheVariants as movers
use Rattle.boc_dispatch.specs.declared.live.Live.{Live}
use Rattle.boc_dispatch.specs.Calls.{NamesMover}
use Rattle.boc_dispatch.specs.Inside.{parts_of, underway}
use Rattle.boc_dispatch.proofs.Movable.{none_ready, starts_first, not_quiet}
use Rattle.boc_dispatch.proofs.Starting.{first_ready}
use Rattle.boc_dispatch.proofs.roster.Roster.first_ready.Goals as goal

empty : (xs : List ℕ) → (0 < length xs → ⊥) → xs ≡ []
empty [] none = refl
empty (x ∷ xs) none = absurd (none (omega arith))

-- what is read at the front of a list is its first
front_is : (xs : List ℕ) (x : ℕ) → 0 < length xs → x ≡ slice_index_or xs 0 x → (rest : List ℕ) × (xs ≡ x ∷ rest)
front_is [] x h e = absurd (omega arith)
front_is (y ∷ xs) x h e = (xs, ap (λ (z : ℕ). z ∷ xs) (sym e))

pub returns-in_err-slot : goal.returns-in_err-slot
returns-in_err-slot g c =
    let d = parts_of g.C.Chains.lists g.C.Chains.place c.args.self.now in
    subst (NamesMover (underway d)) (sym c.from_residual.ensures)
    (none_ready d c.requires.sound.kept c.requires.idle
    (empty c.args.self.now.ready.items (λ h. let f : false ≡ true = c.in_err-slot.ensures.variant.1 (omega (arith, h, c.args.self.now.ready.ok)) in cc)))

pub index-requires : goal.index-requires
index-requires g c =
    let front = front_is c.args.self.now.ready.items c.in_ok-slot.field-0.now (omega (arith, c.in_ok-slot.ensures.variant.0 refl, c.args.self.now.ready.ok))
    c.in_ok-slot.ensures.lookup in
    let first = c.requires.sound.kept.ready_there 0 c.in_ok-slot.field-0.now (ap (λ (xs : List ℕ). slice_get xs 0) front.1) in
    ap (λ (o : Option Live). is_some o) first.2

pub recorded_row-row-requires : goal.recorded_row-row-requires
recorded_row-row-requires g c =
    let d = parts_of g.C.Chains.lists g.C.Chains.place c.args.self.now in
    let front = front_is d.ready c.in_ok-slot.field-0.now (omega (arith, c.in_ok-slot.ensures.variant.0 refl, c.args.self.now.ready.ok))
    c.in_ok-slot.ensures.lookup in
    let ready = first_ready d c.requires.sound.kept c.in_ok-slot.field-0.now front.0 front.1 c.index.result.now c.index.ensures in
    ap (λ (s : Stage). is_some (row_at s)) ready.1

pub returns : goal.returns
returns g c =
    let d = parts_of g.C.Chains.lists g.C.Chains.place c.args.self.now in
    let row = c.recorded_row-row.result in
    let front = front_is d.ready c.in_ok-slot.field-0.now (omega (arith, c.in_ok-slot.ensures.variant.0 refl, c.args.self.now.ready.ok))
    c.in_ok-slot.ensures.lookup in
    let can = starts_first d c.requires.sound.kept c.requires.idle c.in_ok-slot.field-0.now front.0 c.index.result.now row front.1 c.index.ensures
    c.recorded_row-row.ensures in
    (can, not_quiet d c.requires.sound.kept (movers.Ready row) can)
