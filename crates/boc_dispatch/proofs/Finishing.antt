-- Finish: a running behaviour ends as its body did.
use Rattle.std.proofs.Common.{◌≡◌, ℕ, zero, suc, ◌+◌, ◌<◌, ◌≤◌, inl, inr, Bool, true, false, List, [], ◌∷◌, ◌++◌, length, set, refl, sym, ◌∙◌, ap, subst, arith}
use Rattle.std.proofs.Common.{ℤ}
use Rattle.std.specs.Prelude.{slice_get, nat_lt, Option, Some, None}
use Rattle.std.specs.Option.{option_map}
use Rattle.std.specs.Vec.{vec_len, with_items}
use Rattle.std.specs.declared.vec.Vec.{Vec}
use Rattle.std.specs.declared.alloc.Global.{Global}
use Rattle.std.proofs.lemmas.List.{length-map, with_items_is}
use Rattle.std.proofs.lemmas.Bool.Decides.{Decides-ltb}
use Rattle.arrayvec.specs.ArrayVec.{ArrayVec}
use Rattle.boc_program.specs.declared.body.Body.{Body}
use Rattle.boc_program.specs.declared.short.Input.{Input}
use Rattle.boc_program.specs.declared.program.Program.{Program}
use Rattle.boc_runs.specs.declared.event.Event.{Event}
use Rattle.boc_runs.specs.declared.event.Event.TheVariants.{End}
use Rattle.boc_runs.specs.declared.stage.Phase.TheVariants as phases
use Rattle.boc_runs.specs.declared.stage.Stage.TheVariants.{Recorded}
use Rattle.boc_program.specs.Meaning.{Meaning, meaning}
use Rattle.boc_program.specs.Signatures.{AllBelow}
use Rattle.boc_program.specs.Changed.{changed}
use Rattle.boc_runs.specs.Lives.{Pending, Running, Ended}
use Rattle.boc_runs.specs.Legal.{entries, IsAllowed}
use Rattle.boc_runs.specs.Serial.{Behaviour, after_outputs}
use Rattle.boc_runs.specs.Run.{Member, config_of, opening, meaning_of, next_wish, values_after_end, values_written, CanEnd, IsRun}
use Rattle.boc_runs.specs.machine.Stages.{row_at, life_at}
use Rattle.boc_runs.specs.machine.Sound.{IsSound}
use Rattle.boc_runs.specs.machine.Steps.{State, at, members, stepped, leaving_on, Finishes}
use Rattle.boc_runs.proofs.Behaviours.{length-after_outputs}
use Rattle.boc_program.proofs.ChangedItems.{length-changed}
use Rattle.boc_machine_laws.proofs.Lists.{same_or_not}
use Rattle.boc_machine_laws.proofs.Rows.{changed_same, changed_other, config_more}
use Rattle.boc_machine_laws.proofs.Keeps.{keeps_finishes}
use Rattle.boc_rules.specs.Log.{Log, grown}
use Rattle.boc_eval.specs.Frames.{Ran, Means}
use Rattle.boc_dispatch.specs.declared.live.Live.{Live}
use Rattle.boc_dispatch.specs.Calls.{IsHandedOut, HasSpawnedAll}
use Rattle.boc_dispatch.specs.Grants.{IsRemoved, Tied, Released}
use Rattle.boc_dispatch.specs.Inside.{Parts, state, underway, live_at, open_of, AreOfRun, IsKept, IsAtStage, IsOfRow}
use Rattle.boc_dispatch.specs.Moves.{EndsBehaviour}
use Rattle.boc_dispatch.specs.Places.{in_phase}
use Rattle.boc_dispatch.proofs.Tables.{at_slot, live_same}
use Rattle.boc_dispatch.proofs.Fits.{allowed_last}
use Rattle.boc_dispatch.proofs.Homes.{row_at_slot, childless, fits_row, params_below}
use Rattle.boc_program.proofs.Outputs.{output_for_each}
use Rattle.boc_dispatch.proofs.Granting.{tied_of}
use Rattle.boc_dispatch.proofs.Onward.{wished_still}
use Rattle.boc_dispatch.proofs.Releasing.{leaving_same, gone_on, moved_state, moved_there, gone_state, gone_not_there}

-- ---- rows of which one has ended

-- it ends
abbrev pub with_end : Member → Member
with_end m = record m { life = Ended }

abbrev pub rows_ended : List Member → ℕ → List Member
rows_ended rows row = changed rows row with_end (slice_get rows row)

row_then : (rows : List Member) (row r : ℕ) (m : Member) → slice_get rows r ≡ Some m
    → (n : Member) × (slice_get (rows_ended rows row) r ≡ Some n) × (n.behaviour ≡ m.behaviour) × (n.inputs ≡ m.inputs) × (n.spawned ≡ m.spawned)
row_then rows row r m is =
    elim (same_or_not r row) [
      | inl e ↦ (
        with_end m,
        ap (slice_get (rows_ended rows row)) e ∙ changed_same rows row with_end
            ∙ ap (option_map with_end) (ap (slice_get rows) (sym e) ∙ is),
        refl,
        refl,
        refl,
      )
      | inr n ↦ (m, changed_other rows row r with_end (slice_get rows row) n ∙ is, refl, refl, refl)
    ]

wish_of_ended : (p : Program) (o : Option Member) → next_wish p (option_map with_end o) ≡ next_wish p o
wish_of_ended p None = refl
wish_of_ended p (Some m) = refl

wish_then : (p : Program) (rows : List Member) (row r : ℕ) → next_wish p (slice_get (rows_ended rows row) r) ≡ next_wish p (slice_get rows r)
wish_then p rows row r =
    elim (same_or_not r row) [
      | inl e ↦
          ap (next_wish p) (ap (slice_get (rows_ended rows row)) e ∙ changed_same rows row with_end) ∙ wish_of_ended p (slice_get rows row)
          ∙ ap (λ z. next_wish p (slice_get rows z)) (sym e)
      | inr n ↦ ap (next_wish p) (changed_other rows row r with_end (slice_get rows row) n)
    ]

of_run_then : (p : Program) (rows : List Member) (row : ℕ) (live : List (Option Live)) → AreOfRun p rows live → AreOfRun p (rows_ended rows row) live
of_run_then p rows row live k = record {
  recorded = λ s r l is e.
      let q = k.recorded s r l is e in
      let n = row_then rows row r q.member q.is in
      record {
        member = n.0;
        is = n.1;
        behaviour_is = n.2 ∙ q.behaviour_is;
        spawned_is = n.4 ∙ q.spawned_is;
      };
  asking = λ s l is e. wished_still p rows (rows_ended rows row) l (wish_then p rows row l.parent) (k.asking s l is e);
}

-- ---- the end of a behaviour

pub record Ending (d : Parts) (slot row : ℕ) (l : Live) (o : Ran) (written : ArrayVec ℕ) : Type 0 where
  pub kept : IsKept d
  pub is : live_at d.live slot ≡ Some l
  pub stage_is : l.stage ≡ Recorded row phases.Running
  pub means : Means o
  pub handed : IsHandedOut (underway d) row o.body o.args o.inputs
  pub spawned : HasSpawnedAll (underway d) row o.wishes
  pub written_is : written.items ≡ o.written

module _ (d : Parts) (slot row : ℕ) (l : Live) (o : Ran) (written : ArrayVec ℕ) (f : Ending d slot row l o written) where
  abbrev pub event : Event
  event = End row o.ticks o.status written

  -- its end is recorded, and its outputs written
  abbrev pub ended : Parts
  ended = record d { log = grown d.log (End row o.ticks o.status written); values = after_outputs d.values l.params.items o.outputs }

  abbrev pub of_row : IsOfRow d slot row
  of_row = record { this = l; is = f.is; row_is = ap row_at f.stage_is }

  abbrev rows : List Member
  rows = members d.program (state d)

  abbrev member : Member
  member = (f.handed).member

  abbrev means : Meaning
  means = meaning o.body o.args o.inputs

  meant : meaning_of d.program member ≡ Some means
  meant =
      ap (option_map (λ (body : Body). meaning body (member).behaviour.args (member).inputs)) f.handed.body_is
      ∙ (λ i. Some (meaning o.body (sym f.handed.args_are i) (sym f.handed.inputs_are i)))

  may_end : CanEnd d.program rows row o.ticks o.status written.items
  may_end = record {
    member = member;
    is = f.handed.is;
    runs = f.handed.runs;
    means = means;
    meant = meant;
    all_spawned =
        let same : (f.spawned).member ≡ member = (let e : Some (f.spawned).member ≡ Some member = sym f.spawned.is ∙ f.handed.is in cc) in
        ap (λ (m : Member). m.spawned) (sym same) ∙ sym f.spawned.all ∙ f.means.same_wishes;
    ticks_are = f.means.same_ticks;
    status_is = f.means.same_status;
    written_is = f.written_is ∙ f.means.same_written;
  }

  open_is : at (state d) l.number ≡ Some (open_of l)
  open_is = at_slot d.live d.opened slot l f.kept.numbered f.is

  pub finishes : (t : State) → t ≡ stepped (leaving_on (state ended) l.number (open_of l) row 0) → Finishes d.program (state d) l.number row t
  finishes t e = record {
    this = open_of l;
    ticks = o.ticks;
    status = o.status;
    written = written.items;
    is = open_is;
    stage_is = f.stage_is;
    none_open = f.spawned.none_open;
    may = may_end;
    gives = e;
  }

  abbrev goal_state : State
  goal_state = stepped (leaving_on (state ended) l.number (open_of l) row 0)

  sound : IsSound d.program goal_state
  sound = keeps_finishes d.program (state d) l.number row goal_state f.kept.sound (finishes goal_state refl)

  -- the event is allowed
  pub allowed : IsAllowed d.log.cowns (entries d.log.events) event
  allowed =
      let run : IsRun d.program (d.log.events ++ (event ∷ [])) =
      subst (IsRun d.program) (leaving_same (λ z. z.log) (state ended) l.number (open_of l) row 0 refl refl) (sound).run in
      subst (λ (n : ℕ). IsAllowed n (entries d.log.events) event) (sym f.kept.cowns_are) (allowed_last d.program d.log.events event run)

  rows_then : members d.program (state ended) ≡ rows_ended rows row
  rows_then = ap (λ c. c.members) (config_more d.program (opening d.program) d.log.events event)

  params_are : (member).behaviour.cowns ≡ l.params.items
  params_are =
      let r = row_at_slot d f.kept slot row l f.is (of_row).row_is in
      let same : member ≡ r.member = (let e : Some member ≡ Some r.member = sym f.handed.is ∙ r.is in cc) in
      ap (λ (m : Member). m.behaviour.cowns) same ∙ ap (λ (b : Behaviour). b.cowns) r.behaviour_is

  values_then : after_outputs d.values l.params.items o.outputs ≡ (config_of d.program (ended).log.events).values
  values_then =
      let c = config_of d.program d.log.events in
      sym (ap (λ z. z.values) (config_more d.program (opening d.program) d.log.events event)
      ∙ ap (values_after_end d.program c.values) f.handed.is
      ∙ ap (values_written c.values (member).behaviour.cowns) meant
      ∙ (λ i. after_outputs (sym f.kept.values_are i) (params_are i) (sym f.means.same_outputs i)))

  tied : Tied ended
  tied =
      let k = tied_of d f.kept in
      record {
        cowns_are = k.cowns_are;
        values_are = values_then;
        homes_are = k.homes_are ∙ sym (ap (length {A = Member}) rows_then ∙ length-changed rows row with_end (slice_get rows row));
        numbered = k.numbered;
        at_home = k.at_home;
        in_hand = k.in_hand;
        chained = k.chained;
        of_run = subst (λ (ms : List Member). AreOfRun d.program ms d.live) (sym rows_then) (of_run_then d.program rows row d.live k.of_run);
        ready_there = k.ready_there;
        left = k.left;
      }

  pub released : Released d slot row l 0 ended
  released = record {
    kept = f.kept;
    is = f.is;
    started = λ h. let g : Pending ≡ Running = sym h ∙ ap life_at f.stage_is in cc;
    row_is = ap row_at f.stage_is;
    childless = childless d f.kept slot row of_row f.spawned.none_open;
    tied = tied;
    here = f.is;
    counted = f.kept.counted;
    program_same = refl;
    sound = sound;
    rows = record {
      recorded_are = ap (length {A = Member}) rows_then ∙ length-changed rows row with_end (slice_get rows row);
      opened_are = refl;
      rooms_are = refl;
      homes_are = refl;
      long = refl;
    };
  }

  -- what writing the outputs asks for
  pub below : AllBelow (length d.values) l.params.items
  below = params_below d f.kept slot row of_row

  pub both : length l.params.items ≡ length o.outputs
  both =
      let r = row_at_slot d f.kept slot row l f.is (of_row).row_is in
      let fits = fits_row d f.kept slot row of_row in
      let same : member ≡ r.member = (let e : Some member ≡ Some r.member = sym f.handed.is ∙ r.is in cc) in
      let held = fits.holds (ap (λ (m : Member). m.life) (sym same) ∙ f.handed.runs) in
      let many : length r.member.inputs ≡ length r.member.behaviour.cowns = sym (length-map r.member.inputs (λ i. i.cown)) ∙ ap (length {A = ℕ}) held in
      let inputs : o.inputs ≡ r.member.inputs = f.handed.inputs_are ∙ ap (λ (m : Member). m.inputs) same in
      let cowns : r.member.behaviour.cowns ≡ l.params.items = ap (λ (b : Behaviour). b.cowns) r.behaviour_is in
      sym (ap (length {A = ℤ}) f.means.same_outputs ∙ output_for_each o.body o.args o.inputs ∙ ap (length {A = Input}) inputs ∙ many
      ∙ ap (length {A = ℕ}) cowns)

-- ---- what the calls read and leave

-- the behaviour's place, the values and the log
pub record FinishCalls (d : Parts) (slot row : ℕ) (o : Ran) (written : ArrayVec ℕ) (p p' : Live) (values : List ℤ) (log : Log) (has_cowns : Bool) : Type 0 where
  pub is : live_at d.live slot ≡ Some p
  pub ends : p' ≡ in_phase row (phases.Leaving 0) p
  pub writes : values ≡ after_outputs d.values p.params.items o.outputs
  pub notes : log ≡ grown d.log (End row o.ticks o.status written)
  pub tells : has_cowns ≡ nat_lt 0 (length p.cowns.items)

module _ (d : Parts) (slot row : ℕ) (l : Live) (o : Ran) (written : ArrayVec ℕ) (f : Ending d slot row l o written)
    (p p' : Live) (values : List ℤ) (log : Log) (has_cowns : Bool)
    (k : FinishCalls d slot row o written p p' values log has_cowns) where
  read : p ≡ l
  read = live_same d.live slot l p f.is k.is

  abbrev e : Parts
  e = ended d slot row l o written f

  abbrev next : Parts
  next = gone_on d slot row l 0 (ended d slot row l o written f) (released d slot row l o written f)

  pub finished_parts : record d { live = set d.live slot (Some p'); log = log; values = values; steps = d.steps + 1 }
      ≡ gone_on d slot row l 0 (ended d slot row l o written f) (released d slot row l o written f)
  finished_parts =
      let put : p' ≡ in_phase row (phases.Leaving 0) l = k.ends ∙ ap (in_phase row (phases.Leaving 0)) read in
      let wrote : values ≡ after_outputs d.values l.params.items o.outputs =
      k.writes ∙ ap (λ (x : Live). after_outputs d.values x.params.items o.outputs) read in
      λ i. record d { live = set d.live slot (Some (put i)); log = k.notes i; values = wrote i; steps = d.steps + 1 }

  told : has_cowns ≡ nat_lt 0 (length l.cowns.items)
  told = k.tells ∙ ap (λ (x : Live). nat_lt 0 (length x.cowns.items)) read

  pub has_more : has_cowns ≡ true → 0 < length l.cowns.items
  has_more h = (Decides-ltb 0 (length l.cowns.items)).0 (sym told ∙ h)

  pub has_none : has_cowns ≡ false → length l.cowns.items ≤ 0
  has_none h = none_below (length l.cowns.items) (λ g. let j : true ≡ false = sym (told ∙ (Decides-ltb 0 (length l.cowns.items)).1 g) ∙ h in cc)
    where
      none_below : (n : ℕ) → (0 < n → ⊥) → n ≤ 0
      none_below zero g = omega arith
      none_below (suc n) g = absurd (g (omega arith))

  pub ends_with_cowns : (more : 0 < length l.cowns.items) → EndsBehaviour d l.number row true next
  ends_with_cowns more =
      let h = released d slot row l o written f in
      record {
        finishes = finishes d slot row l o written f (state next) (moved_state d slot row l 0 e h more);
        same = refl;
        gone = λ g. absurd (let j : true ≡ false = g in cc);
        left = λ g. moved_there d slot row l 0 e h more;
      }

  pub ends_without : (last : length l.cowns.items ≤ 0) (g : Parts) (r : IsRemoved next slot g) → EndsBehaviour d l.number row false g
  ends_without last g r =
      let h = released d slot row l o written f in
      record {
        finishes = finishes d slot row l o written f (state g) (gone_state d slot row l 0 e h last g r);
        same = ap (λ z. z.program) r.parts_are;
        gone = λ j. gone_not_there d slot row l 0 e h last g r;
        left = λ j. absurd (let q : false ≡ true = j in cc);
      }

-- as many values are written as there were
pub written_long : (d : Parts) (l : Live) (o : Ran) (values : List ℤ) → values ≡ after_outputs d.values l.params.items o.outputs
    → length values ≡ length d.values
written_long d l o values writes = ap (length {A = ℤ}) writes ∙ length-after_outputs d.values l.params.items o.outputs

-- ---- as the code tells it

-- what is asked of a call of finish
pub ending : (d : Parts) (slot row : ℕ) (l : Live) (o : Ran) → IsKept d → IsAtStage d slot l (Recorded row phases.Running) → Means o
    → IsHandedOut (underway d) row o.body o.args o.inputs
    → HasSpawnedAll (underway d) row o.wishes → Ending d slot row l o (record { items = o.written })
ending d slot row l o kept it means handed spawned = record {
  kept = kept;
  is = it.is;
  stage_is = it.stage_is;
  means = means;
  handed = handed;
  spawned = spawned;
  written_is = refl;
}

-- what its calls find and leave, where they were handed the values and the outputs as these
pub finish_calls : (d : Parts) (slot row : ℕ) (l : Live) (o : Ran) (f : Ending d slot row l o (record { items = o.written })) (p p' : Live)
    (held outputs wrote : List ℤ) (values : Vec ℤ Global) (said : Event) (log : Log) (has_cowns : Bool)
    → live_at d.live slot ≡ Some p → p' ≡ in_phase row (phases.Leaving 0) p → outputs ≡ o.outputs → held ≡ d.values → length held ≡ vec_len values
    → wrote ≡ after_outputs held p.params.items outputs → said ≡ End row o.ticks o.status (record { items = o.written }) → log ≡ grown d.log said
    → has_cowns ≡ nat_lt 0 (length p.cowns.items)
    → FinishCalls d slot row o (record { items = o.written }) p p' (with_items values wrote).items log has_cowns
finish_calls d slot row l o f p p' held outputs wrote values said log has_cowns is ends outputs_are held_is long writes said_is notes tells =
    let written : wrote ≡ after_outputs d.values p.params.items o.outputs = writes ∙ (λ i. after_outputs (held_is i) p.params.items (outputs_are i)) in
    let same : (with_items values wrote).items ≡ wrote = with_items_is values wrote
    (written_long d p o wrote written ∙ ap (length {A = ℤ}) (sym held_is) ∙ long) in
    record {
      is = is;
      ends = ends;
      writes = same ∙ written;
      notes = notes ∙ ap (grown d.log) said_is;
      tells = tells;
    }
