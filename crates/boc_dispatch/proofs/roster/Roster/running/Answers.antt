use Rattle.std.proofs.Common.{◌≡◌, ◌∙◌, ℕ, ◌<◌, length, ap, subst, sym, false, true, MatchOption}
use Rattle.std.specs.Prelude.{slice_get, Option}
use Rattle.boc_program.specs.declared.program.Program.{Program}
use Rattle.boc_runs.specs.declared.stage.Phase.TheVariants as phases
use Rattle.boc_runs.specs.declared.stage.Stage.TheVariants.{Recorded}
use Rattle.boc_program.specs.Signatures.{AllBelow}
use Rattle.boc_runs.specs.Serial.{inputs_of}
use Rattle.boc_dispatch.specs.declared.live.Live.{Live}
use Rattle.boc_dispatch.specs.Calls.{IsHandedOut}
use Rattle.boc_dispatch.specs.Inside.{parts_of, underway, IsStageAt}
use Rattle.boc_dispatch.proofs.Tables.{live_same}
use Rattle.boc_dispatch.proofs.Homes.{handed_slot, handed_means, hands_out, kind_there, params_below}
use Rattle.boc_dispatch.proofs.roster.Roster.running.Goals as goal

pub returns-in_err-slot : goal.returns-in_err-slot
returns-in_err-slot g c =
    let d = parts_of g.C.Chains.lists g.C.Chains.place c.args.self.now in
    let row : ℕ = c.args.row in
    let Handed : Type 0 = IsHandedOut (underway d) row c.args.body.now c.args.args.now c.args.inputs.now in
    subst (λ (o : Option ℕ). MatchOption o (Handed → ⊥) (λ slot. Handed × IsStageAt d slot (Recorded row phases.Running))) (sym c.from_residual.ensures)
    (λ h. let s = handed_slot d c.requires.kept row c.args.body.now c.args.args.now c.args.inputs.now h in c.in_err-slot.ensures s.0 s.1)

pub runs_on-requires-clause-kind : goal.runs_on-requires-clause-kind
runs_on-requires-clause-kind g c =
    let d = parts_of g.C.Chains.lists g.C.Chains.place c.args.self.now in
    let x = c.in_ok-slot.ensures in
    let same = live_same d.live c.in_ok-slot.slot x.this c.index-live.result.now x.is c.index-live.ensures in
    subst (λ (p : Program). c.index-live.result.now.kind < length p.bodies) (sym c.program.ensures)
    (subst (λ (l : Live). l.kind < length d.program.bodies) (sym same) (kind_there d c.requires.kept c.in_ok-slot.slot c.args.row x))

pub runs_on-requires-clause-below : goal.runs_on-requires-clause-below
runs_on-requires-clause-below g c =
    let d = parts_of g.C.Chains.lists g.C.Chains.place c.args.self.now in
    let x = c.in_ok-slot.ensures in
    let same = live_same d.live c.in_ok-slot.slot x.this c.index-live.result.now x.is c.index-live.ensures in
    subst (λ (l : Live). AllBelow (length c.deref.result.now) l.params.items) (sym same)
    (subst (λ (n : ℕ). AllBelow n x.this.params.items) (ap length (sym c.deref.ensures.value)) (params_below d c.requires.kept c.in_ok-slot.slot c.args.row x))

pub returns-then-runs_on : goal.returns-then-runs_on
returns-then-runs_on g c =
    let d = parts_of g.C.Chains.lists g.C.Chains.place c.args.self.now in
    let x = c.in_ok-slot.ensures in
    let same = live_same d.live c.in_ok-slot.slot x.this c.index-live.result.now x.is c.index-live.ensures in
    let runs = c.runs_on.ensures.0 c.if-runs_on.true in
    let stage = ap (λ (l : Live). l.stage) (sym same) ∙ runs.0 in (
      hands_out d c.requires.kept c.in_ok-slot.slot c.args.row x c.args.body.now c.args.args.now c.args.inputs.now stage
          (ap (λ (l : Live). slice_get d.program.bodies l.kind) (sym same)
          ∙ ap (λ (p : Program). slice_get p.bodies c.index-live.result.now.kind) (sym c.program.ensures) ∙ runs.1)
          (runs.2 ∙ ap (λ (l : Live). l.args.items) same) (runs.3 ∙ (λ i. inputs_of (same i).params.items (c.deref.ensures.value i))),
      (x.this, record { is = x.is; stage_is = stage }),
    )

pub returns-else-runs_on : goal.returns-else-runs_on
returns-else-runs_on g c =
    let d = parts_of g.C.Chains.lists g.C.Chains.place c.args.self.now in
    let x = c.in_ok-slot.ensures in
    let same = live_same d.live c.in_ok-slot.slot x.this c.index-live.result.now x.is c.index-live.ensures in
    λ h.
    (let means = handed_means d c.requires.kept c.in_ok-slot.slot c.args.row x c.args.body.now c.args.args.now c.args.inputs.now h in
    let yes = c.runs_on.ensures.1 (
      ap (λ (l : Live). l.stage) same ∙ means.0,
      ap (λ (p : Program). slice_get p.bodies c.index-live.result.now.kind) c.program.ensures
          ∙ ap (λ (l : Live). slice_get d.program.bodies l.kind) same ∙ means.1,
      means.2 ∙ ap (λ (l : Live). l.args.items) (sym same),
      means.3 ∙ (λ i. inputs_of (sym same i).params.items (sym c.deref.ensures.value i)),
    ) in
    absurd (let e : false ≡ true = sym c.if-runs_on.false ∙ yes in cc))
