-- A record strays from a program in one way, on one line, and is then of no run of it.
use Rattle.std.proofs.Common.{◌≡◌, ◌∙◌, ℕ, ◌+◌, Some, refl, sym, ap, subst}
use Rattle.std.specs.Prelude.{slice_get}
use Rattle.boc_runs.specs.declared.event.Event.{Event}
use Rattle.boc_runs.specs.declared.event.Event.TheVariants.{Spawn, Start, End}
use Rattle.boc_program.specs.declared.program.Program.{Program}
use Rattle.boc_runs.specs.Records.{Recorded, IsRecordOf}
use Rattle.boc_follow.specs.declared.stray.StrayFaultKind.{StrayFaultKind}
use Rattle.boc_follow.specs.declared.stray.StrayFaultKind.TheVariants as kinds
use Rattle.boc_follow.specs.Strays.{IsRefusedAt, IsRefusedOn, IsToldAs, Strays}
use Rattle.boc_follow.proofs.OnePlace.{one_place}
use Rattle.boc_follow.proofs.Refusals.{refused_is_none}

-- an event is told as one kind
one_kind : (event : Event) (kind other : StrayFaultKind) → IsToldAs kind event → IsToldAs other event → kind ≡ other
one_kind (Spawn row parent offset cowns) kinds.NotNextSpawn kinds.NotNextSpawn told also = refl
one_kind (Spawn row parent offset cowns) kinds.NotNextSpawn kinds.OtherCowns told also = absurd also
one_kind (Spawn row parent offset cowns) kinds.NotNextSpawn kinds.NotItsEnd told also = absurd also
one_kind (Spawn row parent offset cowns) kinds.NotNextSpawn kinds.Memory told also = absurd also
one_kind (Spawn row parent offset cowns) kinds.OtherCowns other told also = absurd told
one_kind (Spawn row parent offset cowns) kinds.NotItsEnd other told also = absurd told
one_kind (Spawn row parent offset cowns) kinds.Memory other told also = absurd told
one_kind (Start row) kinds.OtherCowns other told also = absurd told
one_kind (Start row) kinds.NotNextSpawn other told also = absurd told
one_kind (Start row) kinds.NotItsEnd other told also = absurd told
one_kind (Start row) kinds.Memory other told also = absurd told
one_kind (End row ticks status written) kinds.NotItsEnd kinds.NotItsEnd told also = refl
one_kind (End row ticks status written) kinds.NotItsEnd kinds.OtherCowns told also = absurd also
one_kind (End row ticks status written) kinds.NotItsEnd kinds.NotNextSpawn told also = absurd also
one_kind (End row ticks status written) kinds.NotItsEnd kinds.Memory told also = absurd also
one_kind (End row ticks status written) kinds.OtherCowns other told also = absurd told
one_kind (End row ticks status written) kinds.NotNextSpawn other told also = absurd told
one_kind (End row ticks status written) kinds.Memory other told also = absurd told

-- an event of refused ones stands at its place alone
same_event : (p : Program) (r : Recorded) (place other : ℕ) (first : IsRefusedAt p r.events place) (second : IsRefusedAt p r.events other) → place ≡ other
    → first.event ≡ second.event
same_event p r place other first second same =
    let e : Some first.event ≡ Some second.event = sym first.is ∙ ap (slice_get r.events) same ∙ second.is in cc

one_refusal : (p : Program) (r : Recorded) (kind other : StrayFaultKind) (line further : ℕ) → IsRefusedOn p r kind line → IsRefusedOn p r other further
    → (kind ≡ other) × (line ≡ further)
one_refusal p r kind other line further first second =
    let same = one_place p r.events first.place second.place first.refused second.refused in
    let event = same_event p r first.place second.place first.refused second.refused same in (
      one_kind second.refused.event kind other (subst (IsToldAs kind) event first.told) second.told,
      first.line_is ∙ ap (λ n. n + 2) same ∙ sym second.line_is,
    )

pub one_stray : (p : Program) (r : Recorded) (kind other : StrayFaultKind) (line further : ℕ) → Strays p r kind line → Strays p r other further
    → (kind ≡ other) × (line ≡ further)
one_stray p r kinds.OtherCowns kinds.OtherCowns line further first second = (refl, first.1 ∙ sym second.1)
one_stray p r kinds.OtherCowns kinds.NotNextSpawn line further first second = absurd (first.0 second.cowns)
one_stray p r kinds.OtherCowns kinds.NotItsEnd line further first second = absurd (first.0 second.cowns)
one_stray p r kinds.OtherCowns kinds.Memory line further first second = absurd second
one_stray p r kinds.NotNextSpawn kinds.OtherCowns line further first second = absurd (second.0 first.cowns)
one_stray p r kinds.NotNextSpawn kinds.NotNextSpawn line further first second =
    one_refusal p r kinds.NotNextSpawn kinds.NotNextSpawn line further first second
one_stray p r kinds.NotNextSpawn kinds.NotItsEnd line further first second = one_refusal p r kinds.NotNextSpawn kinds.NotItsEnd line further first second
one_stray p r kinds.NotNextSpawn kinds.Memory line further first second = absurd second
one_stray p r kinds.NotItsEnd kinds.OtherCowns line further first second = absurd (second.0 first.cowns)
one_stray p r kinds.NotItsEnd kinds.NotNextSpawn line further first second = one_refusal p r kinds.NotItsEnd kinds.NotNextSpawn line further first second
one_stray p r kinds.NotItsEnd kinds.NotItsEnd line further first second = one_refusal p r kinds.NotItsEnd kinds.NotItsEnd line further first second
one_stray p r kinds.NotItsEnd kinds.Memory line further first second = absurd second
one_stray p r kinds.Memory other line further first second = absurd first

pub stray_is_none : (p : Program) (r : Recorded) (kind : StrayFaultKind) (line : ℕ) → Strays p r kind line → IsRecordOf p r → ⊥
stray_is_none p r kinds.OtherCowns line stray of = stray.0 of.cowns
stray_is_none p r kinds.NotNextSpawn line stray of = refused_is_none p r stray.place stray.refused of
stray_is_none p r kinds.NotItsEnd line stray of = refused_is_none p r stray.place stray.refused of
stray_is_none p r kinds.Memory line stray of = stray
