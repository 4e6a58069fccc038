use Rattle.std.proofs.Common.{◌+◌, ◌≤◌, List, length, ap, sym, subst, arith}
use Rattle.std.specs.Vec.{vec_capacity}
use Rattle.boc_runs.specs.declared.event.Event.{Event}
use Rattle.boc_runs.specs.Happenings.{told}
use Rattle.boc_runs.specs.Legal.{entries, IsAllowed}
use Rattle.boc_rules.specs.Log.{Log, HasRoomFor, rooms_after}
use Rattle.boc_rules.specs.RunLog.{rows_after}
use Rattle.boc_rules.proofs.Logging.{row_few}
use Rattle.boc_rules.proofs.Putting.{can_put, room_to_put, told_put, put_kept}
use Rattle.boc_rules.proofs.run_log.RunLog.put.Goals as goal

pub of-requires : goal.of-requires
of-requires c =
    let log = c.self.inside in
    let allowed = subst (λ (l : Log). IsAllowed l.cowns (entries l.events) c.args.event) (sym c.self.view_is) c.requires.allowed in
    row_few log.cowns (told log.happenings.items log.rows.items) c.args.event c.self.invariant.legal allowed

pub push_reserved-requires : goal.push_reserved-requires
push_reserved-requires c =
    let log = c.self.inside in
    let allowed = subst (λ (l : Log). IsAllowed l.cowns (entries l.events) c.args.event) (sym c.self.view_is) c.requires.allowed in
    let room = subst (λ (l : Log). HasRoomFor l.rooms c.args.event) (sym c.self.view_is) c.requires.room in
    let less = room_to_put log.cowns log.rows.items log.happenings.items log.rooms (vec_capacity log.rows) (vec_capacity log.happenings) c.args.event
    c.self.invariant allowed room in
    omega (arith, less, log.happenings.ok.0)

pub keep-requires-clause-can : goal.keep-requires-clause-can
keep-requires-clause-can c =
    let log = c.self.inside in
    let allowed = subst (λ (l : Log). IsAllowed l.cowns (entries l.events) c.args.event) (sym c.self.view_is) c.requires.allowed in
    can_put log.cowns log.rows.items log.happenings.items log.rooms (vec_capacity log.rows) (vec_capacity log.happenings) c.args.event c.self.invariant allowed

pub invariant_of-self : goal.invariant_of-self
invariant_of-self c =
    let log = c.self.inside in
    let allowed = subst (λ (l : Log). IsAllowed l.cowns (entries l.events) c.args.event) (sym c.self.view_is) c.requires.allowed in
    let room = subst (λ (l : Log). HasRoomFor l.rooms c.args.event) (sym c.self.view_is) c.requires.room in
    let rows = c.keep.new.rows in
    let fits : length (rows_after log.rows.items c.args.event) + rooms_after log.rooms c.args.event ≤ vec_capacity rows =
    omega (arith, c.keep.ensures.room, rows.ok.0, ap length c.keep.ensures.rows, c.keep.ensures.rooms) in
    rw (c.keep.ensures.rows, c.keep.ensures.rooms, c.push_reserved.ensures.items, c.push_reserved.ensures.capacity, c.of.ensures)
    (put_kept log.cowns log.rows.items log.happenings.items log.rooms (vec_capacity log.rows) (vec_capacity log.happenings) c.args.event c.self.invariant
    allowed (vec_capacity rows) room fits)

pub returns : goal.returns
returns c =
    let log = c.self.inside in
    let allowed = subst (λ (l : Log). IsAllowed l.cowns (entries l.events) c.args.event) (sym c.self.view_is) c.requires.allowed in
    let goes_on = told_put log.cowns log.rows.items log.happenings.items log.rooms (vec_capacity log.rows) (vec_capacity log.happenings) c.args.event
    c.self.invariant allowed in
    rw (c.keep.ensures.rows, c.keep.ensures.rooms, c.push_reserved.ensures.items, c.of.ensures, ← c.self.view_is)
    (ap (λ (events : List Event). let v : Log = record { cowns = log.cowns; events = events; rooms = rooms_after log.rooms c.args.event } in v) goes_on)
