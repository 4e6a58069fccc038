use Rattle.std.proofs.Common.{◌≡◌, ◌∙◌, ℕ, List, ap, refl, subst, sym, arith, length}
use Rattle.std.specs.Prelude.{Option, Some, is_some, vec_capacity, slice_get}
use Rattle.std.specs.VecDeque.{deque_capacity}
use Rattle.boc_runs.specs.declared.event.Event.TheVariants.{Start}
use Rattle.boc_runs.specs.machine.Stages.{row_at}
use Rattle.boc_runs.specs.declared.stage.Stage.{Stage}
use Rattle.boc_program.specs.Signatures.{AllBelow}
use Rattle.boc_dispatch.specs.declared.live.Live.{Live}
use Rattle.boc_dispatch.specs.Places.{begun}
use Rattle.boc_dispatch.specs.Inside.{parts_of, state, underway, IsOfRow, IsKept, HasRooms}
use Rattle.boc_dispatch.specs.Calls.{IsHandedOut}
use Rattle.boc_runs.specs.Serial.{inputs_of}
use Rattle.boc_runs.specs.machine.Steps.{Starts}
use Rattle.boc_rules.specs.Log.{Log, grown}
use Rattle.boc_dispatch.proofs.Tables.{live_here, live_there}
use Rattle.boc_dispatch.proofs.Homes.{counts_of, params_below, hands_out}
use Rattle.boc_dispatch.proofs.Fits.{steps_fit}
use Rattle.boc_dispatch.proofs.Starting.{first_ready, first_told, started_parts, starts, start_allowed, start_keeps, start_rooms}
use Rattle.boc_dispatch.proofs.roster.Roster.start.Goals as goal

pub index_mut-requires : goal.index_mut-requires
index_mut-requires g c =
    let first = c.requires.kept.ready_there 0 c.in_ok-slot.slot (ap (λ (xs : List ℕ). slice_get xs 0) c.in_ok-slot.ensures.items) in
    ap (λ (o : Option Live). is_some o) first.2

pub begin-job-requires : goal.begin-job-requires
begin-job-requires g c =
    let d = parts_of g.C.Chains.lists g.C.Chains.place c.args.self.now in
    let slot : ℕ = c.in_ok-slot.slot in
    let l = c.index_mut.result.now in
    let is = c.index_mut.ensures.value in
    let first = first_ready d c.requires.kept slot c.pop_front.new.self.items c.in_ok-slot.ensures.items l is in
    let x : IsOfRow d slot first.0 = record { this = l; is = is; row_is = ap row_at first.1 } in
    record {
      recorded = ap (λ (s : Stage). is_some (row_at s)) first.1;
      counts = counts_of d c.requires.kept slot first.0 x;
      below = subst (λ (n : ℕ). AllBelow n l.params.items) (ap length (sym c.deref.ensures.value)) (params_below d c.requires.kept slot first.0 x);
    }

pub put-requires-clause-allowed : goal.put-requires-clause-allowed
put-requires-clause-allowed g c =
    let d = parts_of g.C.Chains.lists g.C.Chains.place c.args.self.now in
    let l = c.index_mut.result.now in
    let is = c.index_mut.ensures.value in
    let ready = first_told d c.requires.kept c.in_ok-slot.slot c.pop_front.new.self.items c.in_ok-slot.ensures.items l is c.begin-job.result.row
    c.begin-job.ensures.row in
    start_allowed d c.requires.kept c.in_ok-slot.slot c.pop_front.new.self.items c.in_ok-slot.ensures.items l c.begin-job.result.row is ready

pub overflow_add-self : goal.overflow_add-self
overflow_add-self g c = omega (
  arith,
  steps_fit c.args.self.now.program.now (state (parts_of g.C.Chains.lists g.C.Chains.place c.args.self.now))
      c.requires.kept.sound,
)

pub returns-clause-sound : goal.returns-clause-sound
returns-clause-sound g c =
    let d = parts_of g.C.Chains.lists g.C.Chains.place c.args.self.now in
    let l = c.index_mut.result.now in
    let is = c.index_mut.ensures.value in
    let row = c.begin-job.result.row in
    let rest = c.pop_front.new.self.items in
    let head = c.in_ok-slot.ensures.items in
    let stage_is = first_told d c.requires.kept c.in_ok-slot.slot rest head l is row c.begin-job.ensures.row in
    let started = sym c.begin-job.ensures.started in
    let homes = vec_capacity c.args.self.now.homes in
    let ready = deque_capacity c.args.self.now.ready in
    let kept = start_keeps d c.requires.kept c.in_ok-slot.slot rest head l row is stage_is in
    let rooms = start_rooms d c.requires.kept c.in_ok-slot.slot rest head l row is stage_is homes ready c.requires.rooms in
    record {
      kept = subst (λ (r : Log). IsKept (started_parts d c.in_ok-slot.slot (Some c.begin-job.new.self) rest r)) (sym c.put.ensures)
          (subst (λ (x : Live). IsKept (started_parts d c.in_ok-slot.slot (Some x) rest (grown d.log (Start row)))) started kept);
      rooms = subst (λ (n : ℕ). HasRooms (started_parts d c.in_ok-slot.slot (Some c.begin-job.new.self) rest c.put.new.self) homes n)
          (sym c.in_ok-slot.ensures.capacity)
          (subst (λ (r : Log). HasRooms (started_parts d c.in_ok-slot.slot (Some c.begin-job.new.self) rest r) homes ready) (sym c.put.ensures)
          (subst (λ (x : Live). HasRooms (started_parts d c.in_ok-slot.slot (Some x) rest (grown d.log (Start row))) homes ready) started rooms));
    }

pub returns-clause-starts : goal.returns-clause-starts
returns-clause-starts g c =
    let d = parts_of g.C.Chains.lists g.C.Chains.place c.args.self.now in
    let l = c.index_mut.result.now in
    let is = c.index_mut.ensures.value in
    let row = c.begin-job.result.row in
    let rest = c.pop_front.new.self.items in
    let head = c.in_ok-slot.ensures.items in
    let stage_is = first_told d c.requires.kept c.in_ok-slot.slot rest head l is row c.begin-job.ensures.row in
    let started = sym c.begin-job.ensures.started in
    let inputs = c.begin-job.result.inputs in
    let inputs_are : inputs.items ≡ inputs_of l.params.items d.values = c.begin-job.ensures.inputs ∙ ap (inputs_of l.params.items) c.deref.ensures.value in
    let made = starts d c.requires.kept c.in_ok-slot.slot rest head l row is stage_is in
    let kept = start_keeps d c.requires.kept c.in_ok-slot.slot rest head l row is stage_is in
    let e = started_parts d c.in_ok-slot.slot (Some (begun row l)) rest (grown d.log (Start row)) in
    let x : IsOfRow e c.in_ok-slot.slot row = record
    { this = begun row l; is = live_here d.live c.in_ok-slot.slot (Some (begun row l)) (live_there d.live c.in_ok-slot.slot l is); row_is = refl } in
    let handed = hands_out e kept c.in_ok-slot.slot row x c.begin-job.result.body c.begin-job.result.args.items inputs.items refl c.begin-job.ensures.body
    c.begin-job.ensures.args inputs_are in (
      l.number,
      subst (λ (r : Log). Starts (state d) l.number row (state (started_parts d c.in_ok-slot.slot (Some c.begin-job.new.self) rest r))) (sym c.put.ensures)
          (subst (λ (x : Live). Starts (state d) l.number row (state (started_parts d c.in_ok-slot.slot (Some x) rest (grown d.log (Start row))))) started
          made),
      refl,
      subst (λ (r : Log). IsHandedOut (underway (started_parts d c.in_ok-slot.slot (Some c.begin-job.new.self) rest r)) row c.begin-job.result.body
          c.begin-job.result.args.items inputs.items) (sym c.put.ensures)
          (subst (λ (x : Live). IsHandedOut (underway (started_parts d c.in_ok-slot.slot (Some x) rest (grown d.log (Start row)))) row
          c.begin-job.result.body c.begin-job.result.args.items inputs.items) started handed),
    )
