use Rattle.std.proofs.Common.{◌≡◌, ◌∙◌, ap, refl, sym, true, false}
use Rattle.std.specs.Prelude.{ℕ, Option, Some, None, is_some, not}
use Rattle.boc_runs.specs.declared.stage.Stage.TheVariants.{Asking, Recorded}
use Rattle.boc_runs.specs.machine.Stages.{enqueues_at, life_at}
use Rattle.boc_dispatch.specs.Inside.{parts_of, IsAtStage}
use Rattle.boc_dispatch.proofs.Fronts.{Front, low_place, may_leave}
use Rattle.boc_dispatch.proofs.Settled.{settle_there, settle_stands}
use Rattle.boc_dispatch.proofs.Movable.{swaps, flags, owns, settles_next, waits_to_settle, stands_idle, goes_on, waits_for_child, leaves_next, waits_to_leave}
use Rattle.boc_dispatch.proofs.roster.Roster.mover_of.Goals as goal
use Rattle.boc_dispatch.proofs.roster.Roster.mover_of.Goals.{else-exchanged-via-then-exchanged+else-not-can_settle, else-exchanged-via-else-exchanged}

none_there : (o : Option ℕ) → is_some o ≡ false → o ≡ None
none_there None e = refl
none_there (Some x) e = absurd (let f : true ≡ false = e in cc)

pub can_settle-requires : goal.can_settle-requires
can_settle-requires g c =
    let d = parts_of g.C.Chains.lists g.C.Chains.place c.args.self.now in
    let at_stage : IsAtStage d c.args.slot c.args.live.now (Asking c.in-Asking.request true) =
    record { is = c.requires.is; stage_is = sym c.stage.ensures ∙ c.in-Asking.is ∙ ap (Asking c.in-Asking.request) c.if-exchanged.true } in
    record {
      there = settle_there d c.requires.sound.kept c.args.slot c.args.live.now c.in-Asking.request at_stage;
      exchanged = settle_stands d c.requires.sound.kept c.args.slot c.args.live.now c.in-Asking.request at_stage;
    }

pub returns-then-not-can_settle : goal.returns-then-not-can_settle
returns-then-not-can_settle g c =
    let d = parts_of g.C.Chains.lists g.C.Chains.place c.args.self.now in
    waits_to_settle d c.requires.sound.kept c.args.slot c.args.live.now c.requires.is c.in-Asking.request
    (sym c.stage.ensures ∙ c.in-Asking.is ∙ ap (Asking c.in-Asking.request) c.if-exchanged.true) c.can_settle.result c.can_settle.ensures.blocked
    c.if-not-can_settle.true

pub returns-else-exchanged : goal.returns-else-exchanged
returns-else-exchanged g c =
    let d = parts_of g.C.Chains.lists g.C.Chains.place c.args.self.now in
    elim c.else-exchanged.branch [
      | else-exchanged-via-then-exchanged+else-not-can_settle w ↦
          settles_next d c.requires.sound.kept c.args.slot c.args.live.now c.requires.is c.in-Asking.request
          (sym c.stage.ensures ∙ c.in-Asking.is ∙ ap (Asking c.in-Asking.request) w.if-exchanged.true) w.can_settle.result w.can_settle.ensures.blocked
          w.if-not-can_settle.false
      | else-exchanged-via-else-exchanged w ↦
          swaps d c.requires.sound.kept c.args.slot c.args.live.now c.requires.is c.in-Asking.request
          (sym c.stage.ensures ∙ c.in-Asking.is ∙ ap (Asking c.in-Asking.request) w.if-exchanged.false)
    ]

pub returns-in-Flagging : goal.returns-in-Flagging
returns-in-Flagging g c =
    let d = parts_of g.C.Chains.lists g.C.Chains.place c.args.self.now in
    flags d c.requires.sound.kept c.args.slot c.args.live.now c.requires.is c.in-Recorded.row c.in-Flagging.field-0
    (sym c.stage.ensures ∙ c.in-Recorded.is ∙ ap (Recorded c.in-Recorded.row) c.in-Flagging.is)

pub returns-in-Owning : goal.returns-in-Owning
returns-in-Owning g c =
    let d = parts_of g.C.Chains.lists g.C.Chains.place c.args.self.now in
    owns d c.requires.sound.kept c.args.slot c.args.live.now c.requires.is c.in-Recorded.row
    (sym c.stage.ensures ∙ c.in-Recorded.is ∙ ap (Recorded c.in-Recorded.row) c.in-Owning.is)

pub returns-in-Waiting : goal.returns-in-Waiting
returns-in-Waiting g c =
    let d = parts_of g.C.Chains.lists g.C.Chains.place c.args.self.now in
    let st = sym c.stage.ensures ∙ c.in-Recorded.is ∙ ap (Recorded c.in-Recorded.row) c.in-Waiting.is in
    stands_idle d c.requires.sound.kept c.args.slot c.args.live.now c.requires.is (ap enqueues_at st) (ap life_at st)

pub returns-in-Ready : goal.returns-in-Ready
returns-in-Ready g c =
    let d = parts_of g.C.Chains.lists g.C.Chains.place c.args.self.now in
    let st = sym c.stage.ensures ∙ c.in-Recorded.is ∙ ap (Recorded c.in-Recorded.row) c.in-Ready.is in
    stands_idle d c.requires.sound.kept c.args.slot c.args.live.now c.requires.is (ap enqueues_at st) (ap life_at st)

pub returns-then-is_none : goal.returns-then-is_none
returns-then-is_none g c =
    let d = parts_of g.C.Chains.lists g.C.Chains.place c.args.self.now in
    goes_on d c.requires.sound.kept c.args.slot c.args.live.now c.requires.is c.in-Recorded.row
    (sym c.stage.ensures ∙ c.in-Recorded.is ∙ ap (Recorded c.in-Recorded.row) c.in-Running.is)
    (none_there c.args.live.now.child (c.is_none.ensures ∙ ap not c.if-is_none.true))

pub returns-else-is_none : goal.returns-else-is_none
returns-else-is_none g c =
    let d = parts_of g.C.Chains.lists g.C.Chains.place c.args.self.now in
    waits_for_child d c.requires.sound.kept c.args.slot c.args.live.now c.requires.is c.in-Recorded.row
    (sym c.stage.ensures ∙ c.in-Recorded.is ∙ ap (Recorded c.in-Recorded.row) c.in-Running.is)
    (λ e. let f : false ≡ true = sym (ap is_some e) ∙ c.is_none.ensures ∙ ap not c.if-is_none.false in cc)

pub can_leave-requires : goal.can_leave-requires
can_leave-requires g c =
    let d = parts_of g.C.Chains.lists g.C.Chains.place c.args.self.now in
    let f : Front d c.args.slot c.in-Recorded.row c.in-Leaving.request c.args.live.now =
    record {
      kept = c.requires.sound.kept;
      is = c.requires.is;
      stage_is = sym c.stage.ensures ∙ c.in-Recorded.is ∙ ap (Recorded c.in-Recorded.row) c.in-Leaving.is;
    } in
    record {
      there = low_place d c.args.slot c.in-Recorded.row c.in-Leaving.request c.args.live.now f;
      granted = may_leave d c.args.slot c.in-Recorded.row c.in-Leaving.request c.args.live.now f;
    }

pub returns-then-can_leave : goal.returns-then-can_leave
returns-then-can_leave g c =
    let d = parts_of g.C.Chains.lists g.C.Chains.place c.args.self.now in
    leaves_next d c.requires.sound.kept c.args.slot c.args.live.now c.requires.is c.in-Recorded.row c.in-Leaving.request
    (sym c.stage.ensures ∙ c.in-Recorded.is ∙ ap (Recorded c.in-Recorded.row) c.in-Leaving.is) c.can_leave.result c.can_leave.ensures.blocked
    c.if-can_leave.true

pub returns-else-can_leave : goal.returns-else-can_leave
returns-else-can_leave g c =
    let d = parts_of g.C.Chains.lists g.C.Chains.place c.args.self.now in
    waits_to_leave d c.requires.sound.kept c.args.slot c.args.live.now c.requires.is c.in-Recorded.row c.in-Leaving.request
    (sym c.stage.ensures ∙ c.in-Recorded.is ∙ ap (Recorded c.in-Recorded.row) c.in-Leaving.is) c.can_leave.result c.can_leave.ensures.blocked
    c.if-can_leave.false
