-- What the calls answer, by what the machine does.
use Rattle.std.proofs.Common.{◌≡◌, ◌≢◌, ℕ, zero, suc, ◌+◌, ◌^◌, ◌<◌, ◌≤◌, Bool, true, false, List, [], ◌∷◌, length, map, refl, sym, ◌∙◌, ap, subst, arith}
use Rattle.std.proofs.Common.{add-one}
use Rattle.std.specs.Prelude.{slice_get, ℤ, Option, Some, None, Ok, Err}
use Rattle.std.specs.List.{All}
use Rattle.std.specs.Option.{option_map}
use Rattle.boc_program.specs.declared.limits.TheConstants.{MOST_COWNS, MOST_ROWS}
use Rattle.boc_program.specs.declared.body.Body.{Body}
use Rattle.boc_program.specs.declared.short.Input.{Input}
use Rattle.boc_runs.specs.declared.stage.Phase.{Phase}
use Rattle.boc_runs.specs.declared.stage.Phase.TheVariants as phases
use Rattle.boc_runs.specs.declared.stage.Stage.{Stage}
use Rattle.boc_runs.specs.declared.stage.Stage.TheVariants.{Asking, Recorded}
use Rattle.boc_runs.specs.declared.step.Step.{Step}
use Rattle.boc_runs.specs.declared.step.Step.TheVariants.{Own, Settle}
use Rattle.boc_program.specs.Meaning.{Wish, meaning}
use Rattle.boc_program.specs.Rising.{rising}
use Rattle.boc_runs.specs.Serial.{Behaviour}
use Rattle.boc_runs.specs.Lives.{Running}
use Rattle.boc_runs.specs.Run.{Member, next_wish, state_of, meaning_of, wish_at}
use Rattle.boc_runs.specs.machine.Stages.{OpenBehaviour, enqueues, enqueues_at, parent_of}
use Rattle.boc_runs.specs.machine.Steps.{at, members, opened, IsQuiet, Opens, Advances, Owns, IsBlockedAsking}
use Rattle.boc_runs.specs.machine.Turns.{IsEnqueueOf}
use Rattle.boc_runs.specs.machine.Sound.{IsSound}
use Rattle.boc_program.specs.Programs.{cown_count}
use Rattle.boc_program.specs.Signatures.{AllBelow, WishFits, signature_of}
use Rattle.boc_machine_laws.proofs.Members.{all_fit, next_fits}
use Rattle.boc_machine_laws.proofs.Rows.{life_there}
use Rattle.boc_eval.specs.Frames.{UnderWay as Framed, Ran, last_of, last_wish_of, wishes_of}
use Rattle.boc_eval.specs.Wishes.{wish_of}
use Rattle.boc_eval.specs.declared.wish.SpawnWish.{SpawnWish}
use Rattle.boc_dispatch.specs.declared.calls.Advanced.{Advanced}
use Rattle.boc_dispatch.specs.declared.calls.Advanced.TheVariants as advanced
use Rattle.boc_dispatch.specs.declared.calls.Child.{Child}
use Rattle.boc_dispatch.specs.declared.calls.Leaving.{Leaving}
use Rattle.boc_dispatch.specs.declared.calls.Left.{Left}
use Rattle.boc_dispatch.specs.declared.calls.Left.TheVariants as left
use Rattle.boc_dispatch.specs.declared.calls.OpenFault.TheVariants as open_faults
use Rattle.boc_dispatch.specs.declared.calls.Started.TheVariants as started
use Rattle.boc_dispatch.specs.declared.live.Live.{Live}
use Rattle.boc_dispatch.specs.declared.roster.Enqueue.{Enqueue}
use Rattle.boc_dispatch.specs.Underway.{Underway}
use Rattle.boc_dispatch.specs.Calls.{in_state, IsHandedOut, Begins, BeginsFrame, IsNextWish, MayAsk, OpensWish, AdvancesChild, FinishesRow, LeavesCown}
use Rattle.boc_dispatch.specs.Inside.{Parts, state, underway, open_of, behaviour_of, IsKept, IsAtStage, IsNew, Stays}
use Rattle.boc_dispatch.specs.Moves.{StartsFrame, IsFoundEnqueue, SettlesNext, EndsBehaviour, ReleasesNext}
use Rattle.boc_dispatch.proofs.Homes.{counts_there}
use Rattle.boc_dispatch.proofs.Tables.{at_slot, behaviours_length}

-- another state of the same program
pub moved : (d e : Parts) → e.program ≡ d.program → underway e ≡ in_state (underway d) (state e)
moved d e same = λ i. record { program = same i; state = state e }

-- ---- start

pub none_ready : (d e : Parts) → Stays d e → (state d).ready ≡ [] → (IsQuiet (state e) → ⊥) → Begins (underway d) started.NoneReady (underway e)
none_ready d e stays none busy = (stays, none, λ quiet. busy (subst (λ (u : Underway). IsQuiet u.state) (sym stays) quiet))

pub begins_frame : (d e : Parts) (r : Option (ℕ × Framed)) → StartsFrame d r e → BeginsFrame (underway d) r (underway e)
begins_frame d e None s = s
begins_frame d e (Some (row, f)) s = (s.0.0, state e, s.0.1, moved d e s.0.2, s.0.3, s.1)

-- ---- open

-- numbers below a bound are below a greater one
below_all : (n m : ℕ) (cs : List ℕ) → m ≤ n → AllBelow m cs → All (λ c. c < n) cs
below_all n m [] le h k d l = absurd (omega arith)
below_all n m (c ∷ cs) le h zero d l = omega (arith, le, h.0)
below_all n m (c ∷ cs) le h (suc k) d l = below_all n m cs le h.1 k d (omega (arith, l))

-- it was handed out with what equals this
pub handed_as : (u : Underway) (row : ℕ) (b c : Body) (xs ys : List ℤ) (i j : List Input) → b ≡ c → xs ≡ ys → i ≡ j → IsHandedOut u row b xs i
    → IsHandedOut u row c ys j
handed_as u row b c xs ys i j same_body same_args same_inputs h = record {
  member = h.member;
  is = h.is;
  runs = h.runs;
  body_is = h.body_is ∙ ap Some same_body;
  args_are = sym same_args ∙ h.args_are;
  inputs_are = sym same_inputs ∙ h.inputs_are;
}

-- a frame may ask that was handed out so, and has a wish next
pub may_ask : (u : Underway) (f : Framed) (row : ℕ) (b : Body) (xs : List ℤ) (i : List Input) → b ≡ f.body → xs ≡ f.args → i ≡ f.inputs
    → IsHandedOut u row b xs i → IsNextWish u row f.made → MayAsk u f row
may_ask u f row b xs i body args inputs h next = record { handed = handed_as u row b f.body xs f.args i f.inputs body args inputs h; next = next }

-- the last wish of a frame that may ask is the next of its row
pub next_is : (u : Underway) (f : Framed) (row : ℕ) (w : Wish) → MayAsk u f row → Some w ≡ last_wish_of f
    → next_wish u.program (slice_get (members u.program u.state) row) ≡ Some w
next_is u f row w may last =
    let h = may.handed in
    let n = may.next in
    let same : n.member ≡ h.member = (let e : Some n.member ≡ Some h.member = sym n.is ∙ h.is in cc) in
    let meant : meaning_of u.program h.member ≡ Some (meaning f.body f.args f.inputs) =
    ap (λ o. option_map (λ body. meaning body h.member.behaviour.args h.member.inputs) o) h.body_is
    ∙ ap (λ xs. Some (meaning f.body xs h.member.inputs)) (sym h.args_are) ∙ ap (λ xs. Some (meaning f.body f.args xs)) (sym h.inputs_are) in
    let made : f.made ≡ suc h.member.spawned = n.next ∙ ap (λ (m : Member). m.spawned + 1) same ∙ add-one h.member.spawned in
    ap (next_wish u.program) h.is ∙ ap (λ o. wish_at o h.member.spawned) meant ∙ sym (last ∙ ap (λ k. last_of k (wishes_of f)) made)

-- that wish fits the program, so its kind and its cowns are small
pub wish_fits : (u : Underway) (f : Framed) (row : ℕ) (w : Wish) → IsSound u.program u.state → MayAsk u f row → Some w ≡ last_wish_of f
    → WishFits (map signature_of u.program.bodies) (cown_count u.program.cowns) w
wish_fits u f row w sound may last =
    let h = may.handed in
    next_fits u.program h.member w (all_fit u.program u.state.log sound.run row h.member h.is) h.runs
    (ap (next_wish u.program) (sym h.is) ∙ next_is u f row w may last)

pub kind_small : (u : Underway) (f : Framed) (row : ℕ) (w : Wish) → IsSound u.program u.state → MayAsk u f row → Some w ≡ last_wish_of f → w.kind < 2 ^ 32
kind_small u f row w sound may last =
    let below = counts_there u.program.bodies w.kind (length w.args) (length w.cowns) (wish_fits u f row w sound may last).counts in
    omega (arith, below, u.program.few_defs)

pub cowns_small : (u : Underway) (f : Framed) (row : ℕ) (w : Wish) → IsSound u.program u.state → MayAsk u f row → Some w ≡ last_wish_of f
    → All (λ c. c < MOST_COWNS) w.cowns
cowns_small u f row w sound may last =
    below_all MOST_COWNS (cown_count u.program.cowns) w.cowns u.program.few_cowns (wish_fits u f row w sound may last).below

-- what is opened for the next wish of a row is new
pub new_is : (d : Parts) (f : Framed) (row : ℕ) (wish : SpawnWish) (l : Live) → MayAsk (underway d) f row → Some (wish_of wish) ≡ last_wish_of f
    → behaviour_of l ≡ record { kind = wish.kind; args = wish.args.items; cowns = wish.cowns.items }
    → open_of l ≡ record { parent = row; offset = wish.offset; cowns = rising wish.cowns.items; stage = Asking 0 false }
    → l.number ≡ d.opened → l.awaited ≡ length l.cowns.items + 1 → (l.spawned ≡ 0) × (l.child ≡ None) → IsNew d row l
new_is d f row wish l may last same_behaviour same_state number awaited fresh =
    let parent : l.parent ≡ row = ap (λ (b : OpenBehaviour). b.parent) same_state in
    let params : l.params.items ≡ wish.cowns.items = ap (λ (b : Behaviour). b.cowns) same_behaviour in
    record {
      number_is = number;
      parent_is = parent;
      wished = record {
        wish = wish_of wish;
        next = ap (λ r. next_wish d.program (slice_get (members d.program (state d)) r)) parent ∙ next_is (underway d) f row (wish_of wish) may last;
        kind_is = sym (ap (λ (b : Behaviour). b.kind) same_behaviour);
        args_are = sym (ap (λ (b : Behaviour). b.args) same_behaviour);
        cowns_are = sym params;
        new = fresh.0;
      };
      offset_is = ap (λ (b : OpenBehaviour). b.offset) same_state;
      rising_is = ap (λ (b : OpenBehaviour). b.cowns) same_state ∙ ap rising (sym params);
      stage_is = ap (λ (b : OpenBehaviour). b.stage) same_state;
      awaited_is = awaited;
      childless = fresh.1;
    }

module _ (d : Parts) (k : IsKept d) where
  pub opened_is : opened (state d) ≡ d.opened
  opened_is = behaviours_length d.live d.opened

  -- the row of a frame that may ask runs
  runs : (f : Framed) (row : ℕ) → MayAsk (underway d) f row → state_of (members d.program (state d)) row ≡ Some Running
  runs f row may =
      let h = may.handed in
      life_there (members d.program (state d)) row h.member h.is ∙ ap (λ z. Some z) h.runs

  pub full : (f : Framed) (row : ℕ) (w : Wish) → MayAsk (underway d) f row → Some w ≡ last_wish_of f → MOST_ROWS ≤ d.opened
      → OpensWish (underway d) f row (Err open_faults.Behaviours) (underway d)
  full f row w may last many =
      let counted = k.sound.counted in
      let few = k.sound.few in
      let o = opened_is in (
        refl,
        may,
        record {
          served = row;
          serves = refl;
          runs = runs f row may;
          none_open = may.next.none_open;
          wish = w;
          next = next_is (underway d) f row w may last;
          full = omega arith;
        },
      )

  pub opens : (e : Parts) (f : Framed) (row : ℕ) (child : Child) → MayAsk (underway d) f row
      → Opens d.program (state d) row (state e) × (e.program ≡ d.program) × (child.number ≡ d.opened) × (child.row ≡ row)
      → OpensWish (underway d) f row (Ok child) (underway e)
  opens e f row child may o = (may, o.2 ∙ sym opened_is, o.3, state e, o.0, moved d e o.1)

  pub no_memory : (e : Parts) (f : Framed) (row : ℕ) (w : Wish) → MayAsk (underway d) f row → Some w ≡ last_wish_of f → d.opened < MOST_ROWS
      → Stays d e → OpensWish (underway d) f row (Err open_faults.Memory) (underway e)
  no_memory e f row w may last room stays =
      let counted = k.sound.counted in
      let o = opened_is in (
        stays,
        may,
        (
          w,
          record {
            runs = runs f row may;
            none_open = may.next.none_open;
            next = next_is (underway d) f row w may last;
            room = omega arith;
          },
        ),
      )

  -- ---- advance

  pub enqueue_is : (number row : ℕ) (found : Enqueue) (f : IsFoundEnqueue d number row found) → IsEnqueueOf (state d) number row
  enqueue_is number row found f =
      let is = at_slot d.live d.opened found.slot f.this k.numbered f.is.is in
      let there : at (state d) number ≡ Some (open_of f.this) = ap (at (state d)) (sym f.number_is) ∙ is in
      record {
        is_open = ap enqueues there ∙ ap enqueues_at f.is.stage_is ∙ f.enqueued;
        parent = ap parent_of there ∙ f.parent_is;
      }

  pub found_at : (number row : ℕ) (found : Enqueue) (f : IsFoundEnqueue d number row found) (stage : Stage) → found.stage ≡ stage
      → IsAtStage d found.slot f.this stage
  found_at number row found f stage is = record { is = f.is.is; stage_is = f.is.stage_is ∙ is }

  pub step_made : (e : Parts) (child : Child) (found : Enqueue) (f : IsFoundEnqueue d child.number child.row found) (step : Step) → step ≢ Own
      → Advances d.program (state d) f.this.number step (state e) → e.program ≡ d.program → AdvancesChild (underway d) child (advanced.Moved step) (underway e)
  step_made e child found f step other makes same = (
    enqueue_is child.number child.row found f,
    other,
    state e,
    subst (λ (n : ℕ). Advances d.program (state d) n step (state e)) f.number_is makes,
    moved d e same,
  )

  pub own_made : (e : Parts) (child : Child) (found : Enqueue) (f : IsFoundEnqueue d child.number child.row found)
      → Owns (state d) f.this.number (state e) → e.program ≡ d.program → AdvancesChild (underway d) child advanced.Enqueued (underway e)
  own_made e child found f makes same =
      (enqueue_is child.number child.row found f, state e, subst (λ (n : ℕ). Owns (state d) n (state e)) f.number_is makes, moved d e same)

  pub settled_or_not : (e : Parts) (child : Child) (found : Enqueue) (f : IsFoundEnqueue d child.number child.row found) (request : ℕ) (result : Advanced)
      → SettlesNext d f.this.number request result e → AdvancesChild (underway d) child result (underway e)
  settled_or_not e child found f request (advanced.Moved step) s =
      subst (λ (x : Step). AdvancesChild (underway d) child (advanced.Moved x) (underway e)) (sym s.0)
      (step_made e child found f (Settle request) (λ own. absurd (let h : Settle request ≡ Own = own in cc)) s.1 s.2)
  settled_or_not e child found f request advanced.Blocked s =
      (s.0, enqueue_is child.number child.row found f, subst (λ (n : ℕ). IsBlockedAsking (state d) n) f.number_is s.1)
  settled_or_not e child found f request advanced.Enqueued s = absurd s
  settled_or_not e child found f request advanced.Unknown s = absurd s

-- as it is answered, and seen from outside
pub seen_so : (d e : Parts) (u : Underway) (child : Child) (told made : Advanced) → underway d ≡ u → told ≡ made
    → AdvancesChild (underway d) child made (underway e) → AdvancesChild u child told (underway e)
seen_so d e u child told made is same h = subst (λ (x : Underway). AdvancesChild x child told (underway e)) is
    (subst (λ (a : Advanced). AdvancesChild (underway d) child a (underway e)) (sym same) h)

pub step_seen : (d e : Parts) (k : IsKept d) (u : Underway) (child : Child) (found : Enqueue) (f : IsFoundEnqueue d child.number child.row found) (step : Step)
    (told : Advanced) → step ≢ Own
    → Advances d.program (state d) f.this.number step (state e) × (e.program ≡ d.program) → underway d ≡ u → told ≡ advanced.Moved step
    → AdvancesChild u child told (underway e)
step_seen d e k u child found f step told other makes is same =
    seen_so d e u child told (advanced.Moved step) is same (step_made d k e child found f step other makes.0 makes.1)

-- an open enqueue that is recorded and flags no more owns
pub owning : (row : ℕ) (phase : Phase) → enqueues_at (Recorded row phase) ≡ true → ((request : ℕ) → phase ≡ phases.Flagging request → ⊥) → phase ≡ phases.Owning
owning row (phases.Flagging request) open_is other = absurd (other request refl)
owning row phases.Owning open_is other = refl
owning row _ open_is other = absurd (let h : false ≡ true = open_is in cc)

-- ---- finish

-- the row ends, and this is answered; there is a token where it is left
ends_so : (d e : Parts) (who row : ℕ) (o : Ran) (left : Bool) (token : Option Leaving) → IsHandedOut (underway d) row o.body o.args o.inputs
    → EndsBehaviour d who row left e
    → (token ≡ None → left ≡ false) → ((t : Leaving) → token ≡ Some t → (t.row ≡ row) × (left ≡ true)) → FinishesRow (underway d) row o (Ok token) (underway e)
ends_so d e who row o left token handed ends none some = (
  handed,
  record {
    who = who;
    state = state e;
    finishes = ends.finishes;
    same = moved d e ends.same;
    gone = λ is. ends.gone (none is);
    left = λ t is. ((some t is).0, ends.left (some t is).1);
  },
)

pub ends_leaving : (d e : Parts) (who row : ℕ) (o : Ran) → IsHandedOut (underway d) row o.body o.args o.inputs → EndsBehaviour d who row true e
    → FinishesRow (underway d) row o (Ok (Some (record { row = row }))) (underway e)
ends_leaving d e who row o handed ends =
    let own : Leaving = record { row = row } in
    ends_so d e who row o true (Some own) handed ends (λ none. let h : Some own ≡ None = none in cc)
    (λ token is. (let h : Some own ≡ Some token = is in let same : token ≡ own = cc in ap (λ (t : Leaving). t.row) same, refl))

pub ends_gone : (d e : Parts) (who row : ℕ) (o : Ran) → IsHandedOut (underway d) row o.body o.args o.inputs → EndsBehaviour d who row false e
    → FinishesRow (underway d) row o (Ok None) (underway e)
ends_gone d e who row o handed ends = ends_so d e who row o false None handed ends (λ none. refl) (λ token is. absurd (let h : None ≡ Some token = is in cc))

-- ---- leave

pub leaves : (d e : Parts) (leaving : Leaving) (who : ℕ) (result : Left) → ReleasesNext d who leaving.row result e
    → LeavesCown (underway d) leaving result (underway e)
leaves d e leaving who (left.Moved step) r = (who, state e, r.0, r.1, moved d e r.2)
leaves d e leaving who (left.Gone step) r = (who, state e, r.0, r.1, moved d e r.2)
leaves d e leaving who left.Blocked r = (r.0, (who, r.1))
leaves d e leaving who left.Unknown r = absurd r
