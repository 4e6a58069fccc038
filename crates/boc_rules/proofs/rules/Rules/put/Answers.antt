use Rattle.std.proofs.Common.{List, ap, sym, subst, arith}
use Rattle.std.specs.Vec.{vec_capacity}
use Rattle.boc_runs.specs.declared.event.Event.{Event}
use Rattle.boc_runs.specs.Legal.{entries, IsAllowed}
use Rattle.boc_rules.specs.Log.{Log, HasRoomFor, rooms_after}
use Rattle.boc_rules.proofs.Logging.{room_left, numbered, log_more, logged_more}
use Rattle.boc_rules.proofs.rules.Rules.put.Goals as goal

pub of-requires : goal.of-requires
of-requires c =
    let happenings = c.self.inside.happenings in
    let allowed = subst (λ (l : Log). IsAllowed l.cowns (entries l.events) c.args.event) (sym c.self.view_is) c.requires.allowed in
    numbered c.self.inside.judge happenings.items (vec_capacity happenings) c.args.event c.self.invariant allowed

pub push_reserved-requires : goal.push_reserved-requires
push_reserved-requires c =
    let happenings = c.self.inside.happenings in
    let allowed = subst (λ (l : Log). IsAllowed l.cowns (entries l.events) c.args.event) (sym c.self.view_is) c.requires.allowed in
    let room = subst (λ (l : Log). HasRoomFor l.rooms c.args.event) (sym c.self.view_is) c.requires.room in
    let less = room_left c.self.inside.judge happenings.items (vec_capacity happenings) c.args.event c.self.invariant allowed room in
    omega (arith, less, happenings.ok.0)

pub invariant_of-self : goal.invariant_of-self
invariant_of-self c =
    let happenings = c.self.inside.happenings in
    let allowed = subst (λ (l : Log). IsAllowed l.cowns (entries l.events) c.args.event) (sym c.self.view_is) c.requires.allowed in
    let room = subst (λ (l : Log). HasRoomFor l.rooms c.args.event) (sym c.self.view_is) c.requires.room in
    rw (c.put.ensures, c.push_reserved.ensures.items, c.push_reserved.ensures.capacity, c.of.ensures)
    (logged_more c.self.inside.judge happenings.items (vec_capacity happenings) c.args.event c.self.invariant allowed room)

pub returns : goal.returns
returns c =
    let happenings = c.self.inside.happenings in
    let course = c.self.inside.judge in
    let allowed = subst (λ (l : Log). IsAllowed l.cowns (entries l.events) c.args.event) (sym c.self.view_is) c.requires.allowed in
    let goes_on = log_more course happenings.items (vec_capacity happenings) c.args.event c.self.invariant allowed in
    rw (c.put.ensures, c.push_reserved.ensures.items, c.of.ensures, ← c.self.view_is)
    (ap (λ (events : List Event). let v : Log = record { cowns = course.cowns; events = events; rooms = rooms_after course.rooms c.args.event } in v) goes_on)
