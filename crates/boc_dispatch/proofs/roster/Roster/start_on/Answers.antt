use Rattle.std.proofs.Common.{◌≡◌, ◌∙◌, ℕ, List, ap, refl, subst, sym, arith, length}
use Rattle.std.specs.Prelude.{Option, Some, is_some, vec_capacity, slice_get}
use Rattle.std.specs.VecDeque.{deque_capacity}
use Rattle.boc_runs.specs.declared.event.Event.TheVariants.{Start}
use Rattle.boc_runs.specs.machine.Stages.{row_at}
use Rattle.boc_runs.specs.declared.stage.Stage.{Stage}
use Rattle.boc_program.specs.Signatures.{AllBelow}
use Rattle.boc_dispatch.specs.declared.live.Live.{Live}
use Rattle.boc_dispatch.specs.Places.{begun}
use Rattle.boc_dispatch.specs.Inside.{parts_of, state, underway, IsOfRow, IsKept, HasRooms}
use Rattle.boc_eval.specs.Frames.{UnderWay as Framed}
use Rattle.boc_dispatch.specs.Calls.{IsHandedOut}
use Rattle.boc_dispatch.specs.Moves.{StartsRow}
use Rattle.boc_runs.specs.Serial.{inputs_of}
use Rattle.boc_runs.specs.machine.Steps.{Starts}
use Rattle.boc_rules.specs.Log.{Log, grown}
use Rattle.boc_dispatch.proofs.Tables.{live_here, live_there}
use Rattle.boc_dispatch.proofs.Homes.{counts_of, params_below, hands_out}
use Rattle.boc_dispatch.proofs.Fits.{steps_fit}
use Rattle.boc_dispatch.proofs.Starting.{first_ready, first_told, started_parts, starts, start_allowed, start_keeps, start_rooms}
use Rattle.boc_dispatch.proofs.roster.Roster.start_on.Goals as goal

pub index_mut-requires : goal.index_mut-requires
index_mut-requires g c =
    let first = c.requires.sound.kept.ready_there 0 c.in_ok-first.first (ap (λ (xs : List ℕ). slice_get xs 0) c.in_ok-first.ensures.items) in
    ap (λ (o : Option Live). is_some o) first.2

pub begin_on-begun-requires : goal.begin_on-begun-requires
begin_on-begun-requires g c =
    let d = parts_of g.C.Chains.lists g.C.Chains.place c.args.self.now in
    let slot : ℕ = c.in_ok-first.first in
    let l = c.index_mut.result.now in
    let is = c.index_mut.ensures.value in
    let first = first_ready d c.requires.sound.kept slot c.pop_front.new.self.items c.in_ok-first.ensures.items l is in
    let x : IsOfRow d slot first.0 = record { this = l; is = is; row_is = ap row_at first.1 } in
    record {
      ready = c.requires.ready;
      recorded = ap (λ (s : Stage). is_some (row_at s)) first.1;
      counts = counts_of d c.requires.sound.kept slot first.0 x;
      below = subst (λ (n : ℕ). AllBelow n l.params.items) (ap length (sym c.deref.ensures.value)) (params_below d c.requires.sound.kept slot first.0 x);
    }

pub put-requires-clause-allowed : goal.put-requires-clause-allowed
put-requires-clause-allowed g c =
    let d = parts_of g.C.Chains.lists g.C.Chains.place c.args.self.now in
    let l = c.index_mut.result.now in
    let is = c.index_mut.ensures.value in
    let ready = first_told d c.requires.sound.kept c.in_ok-first.first c.pop_front.new.self.items c.in_ok-first.ensures.items l is c.begin_on-begun.result.0
    c.begin_on-begun.ensures.row in
    start_allowed d c.requires.sound.kept c.in_ok-first.first c.pop_front.new.self.items c.in_ok-first.ensures.items l c.begin_on-begun.result.0 is ready

pub overflow_add-self : goal.overflow_add-self
overflow_add-self g c = omega (
  arith,
  steps_fit c.args.self.now.program.now (state (parts_of g.C.Chains.lists g.C.Chains.place c.args.self.now))
      c.requires.sound.kept.sound,
)

pub returns-clause-sound : goal.returns-clause-sound
returns-clause-sound g c =
    let d = parts_of g.C.Chains.lists g.C.Chains.place c.args.self.now in
    let l = c.index_mut.result.now in
    let is = c.index_mut.ensures.value in
    let row = c.begin_on-begun.result.0 in
    let rest = c.pop_front.new.self.items in
    let head = c.in_ok-first.ensures.items in
    let stage_is = first_told d c.requires.sound.kept c.in_ok-first.first rest head l is row c.begin_on-begun.ensures.row in
    let started = sym c.begin_on-begun.ensures.started in
    let homes = vec_capacity c.args.self.now.homes in
    let ready = deque_capacity c.args.self.now.ready in
    let kept = start_keeps d c.requires.sound.kept c.in_ok-first.first rest head l row is stage_is in
    let rooms = start_rooms d c.requires.sound.kept c.in_ok-first.first rest head l row is stage_is homes ready c.requires.sound.rooms in
    record {
      kept = subst (λ (r : Log). IsKept (started_parts d c.in_ok-first.first (Some c.begin_on-begun.new.self) rest r)) (sym c.put.ensures)
          (subst (λ (x : Live). IsKept (started_parts d c.in_ok-first.first (Some x) rest (grown d.log (Start row)))) started kept);
      rooms = subst (λ (n : ℕ). HasRooms (started_parts d c.in_ok-first.first (Some c.begin_on-begun.new.self) rest c.put.new.self) homes n)
          (sym c.in_ok-first.ensures.capacity)
          (subst (λ (r : Log). HasRooms (started_parts d c.in_ok-first.first (Some c.begin_on-begun.new.self) rest r) homes ready) (sym c.put.ensures)
          (subst (λ (x : Live). HasRooms (started_parts d c.in_ok-first.first (Some x) rest (grown d.log (Start row))) homes ready) started rooms));
    }

pub returns-clause-starts : goal.returns-clause-starts
returns-clause-starts g c =
    let d = parts_of g.C.Chains.lists g.C.Chains.place c.args.self.now in
    let l = c.index_mut.result.now in
    let is = c.index_mut.ensures.value in
    let row = c.begin_on-begun.result.0 in
    let rest = c.pop_front.new.self.items in
    let head = c.in_ok-first.ensures.items in
    let stage_is = first_told d c.requires.sound.kept c.in_ok-first.first rest head l is row c.begin_on-begun.ensures.row in
    let started = sym c.begin_on-begun.ensures.started in
    let f = c.begin_on-begun.result.1 in
    let args_are : f.args ≡ l.args.items = ap (λ (g : Framed). g.args) c.begin_on-begun.ensures.frame in
    let inputs_are : f.inputs ≡ inputs_of l.params.items d.values = ap (λ (g : Framed). g.inputs) c.begin_on-begun.ensures.frame
    ∙ ap (inputs_of l.params.items) c.deref.ensures.value in
    let made = starts d c.requires.sound.kept c.in_ok-first.first rest head l row is stage_is in
    let kept = start_keeps d c.requires.sound.kept c.in_ok-first.first rest head l row is stage_is in
    let e = started_parts d c.in_ok-first.first (Some (begun row l)) rest (grown d.log (Start row)) in
    let x : IsOfRow e c.in_ok-first.first row = record
    { this = begun row l; is = live_here d.live c.in_ok-first.first (Some (begun row l)) (live_there d.live c.in_ok-first.first l is); row_is = refl } in
    let handed = hands_out e kept c.in_ok-first.first row x f.body f.args f.inputs refl c.begin_on-begun.ensures.body args_are inputs_are in
    let row_starts : StartsRow d row f.body f.args f.inputs (started_parts d c.in_ok-first.first (Some c.begin_on-begun.new.self) rest c.put.new.self) = (
      l.number,
      subst (λ (r : Log). Starts (state d) l.number row (state (started_parts d c.in_ok-first.first (Some c.begin_on-begun.new.self) rest r))) (sym c.put.ensures)
          (subst (λ (x : Live). Starts (state d) l.number row (state (started_parts d c.in_ok-first.first (Some x) rest (grown d.log (Start row))))) started
          made),
      refl,
      subst (λ (r : Log). IsHandedOut (underway (started_parts d c.in_ok-first.first (Some c.begin_on-begun.new.self) rest r)) row f.body f.args f.inputs)
          (sym c.put.ensures)
          (subst (λ (x : Live). IsHandedOut (underway (started_parts d c.in_ok-first.first (Some x) rest (grown d.log (Start row)))) row f.body f.args f.inputs)
          started handed),
    ) in
    (row_starts, ap (λ (g : Framed). g.made) c.begin_on-begun.ensures.frame)
