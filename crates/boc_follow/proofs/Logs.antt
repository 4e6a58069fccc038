-- A followed run with one event more, as it is seen.
use Rattle.std.proofs.Common.{◌≡◌, List, [], ◌∷◌, ◌++◌, ap, ◌∙◌, sym, subst}
use Rattle.boc_runs.specs.declared.event.Event.{Event}
use Rattle.boc_program.specs.declared.program.Program.{Program}
use Rattle.boc_program.specs.Programs.{cown_count}
use Rattle.boc_runs.specs.Legal.{entries, IsAllowed}
use Rattle.boc_runs.specs.Run.{config_of, MayHappen}
use Rattle.boc_rules.specs.Log.{Log, grown}
use Rattle.boc_follow.specs.Following.{Following}
use Rattle.boc_follow.specs.Takes.{MayCome}

abbrev pub seen : Program → List Event → Following
seen p log = record { program = p; log = log }

-- what holds of what is seen holds of what is kept
pub allowed_kept : {p : Program} {log : List Event} {f : Following} {event : Event} → seen p log ≡ f
    → IsAllowed (cown_count f.program.cowns) (entries f.log) event → IsAllowed (cown_count p.cowns) (entries log) event
allowed_kept {event = event} same = subst (λ (x : Following). IsAllowed (cown_count x.program.cowns) (entries x.log) event) (sym same)

pub may_seen : {p : Program} {log : List Event} {f : Following} (event : Event) → seen p log ≡ f → MayHappen p (config_of p log) event → MayCome f event
may_seen event same = subst (λ (x : Following). MayCome x event) same

pub may_kept : {p : Program} {log : List Event} {f : Following} (event : Event) → seen p log ≡ f → MayCome f event → MayHappen p (config_of p log) event
may_kept event same = subst (λ (x : Following). MayCome x event) (sym same)

-- the rules with an event more, of rules that may have other room
pub cowns_stay : (old : Log) (event : Event) {wide new : Log} → wide ≡ record old { rooms = wide.rooms } → new ≡ grown wide event → new.cowns ≡ old.cowns
cowns_stay old event same put = ap (λ (l : Log). l.cowns) put ∙ ap (λ (l : Log). l.cowns) same

pub events_more : (old : Log) {wide new : Log} {event copy : Event} → wide ≡ record old { rooms = wide.rooms } → copy ≡ event → new ≡ grown wide copy
    → new.events ≡ old.events ++ event ∷ []
events_more old {copy = copy} same is put =
    ap (λ (l : Log). l.events) put ∙ ap (λ (l : Log). l.events ++ copy ∷ []) same ∙ ap (λ e. old.events ++ e ∷ []) is

pub seen_more : (event : Event) {p : Program} {log new : List Event} {f : Following} → seen p log ≡ f → new ≡ log ++ event ∷ []
    → seen p new ≡ record f { log = f.log ++ event ∷ [] }
seen_more event {p = p} same more = ap (seen p) more ∙ ap (λ (x : Following). record x { log = x.log ++ event ∷ [] }) same

pub seen_same : (old : Log) {p : Program} {new : Log} {f : Following} → seen p old.events ≡ f → new ≡ record old { rooms = new.rooms } → seen p new.events ≡ f
seen_same old {p = p} same wide = ap (λ (l : Log). seen p l.events) wide ∙ same
