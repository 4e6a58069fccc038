-- Rows, and the slots of their behaviours.
use Rattle.std.proofs.Common.{◌≡◌, ◌≢◌, ℕ, zero, suc, ◌+◌, ◌<◌, ◌≤◌, true, false, eqb, List, [], ◌∷◌, length, map, get_or, add-one, refl, sym, ◌∙◌, ap, subst}
use Rattle.std.proofs.Common.{arith}
use Rattle.std.specs.Prelude.{slice_get, ℤ, Option, Some, None}
use Rattle.std.specs.Option.{option_eq}
use Rattle.std.proofs.lemmas.Bool.Decides.{Decides-eqb}
use Rattle.boc_program.specs.declared.body.Body.{Body}
use Rattle.boc_program.specs.declared.short.Input.{Input}
use Rattle.boc_runs.specs.Serial.{Behaviour, inputs_of}
use Rattle.boc_runs.specs.machine.Turns.{IsEnqueueOf}
use Rattle.boc_program.specs.Programs.{cown_count}
use Rattle.boc_program.specs.Signatures.{signature_of, AllBelow, CountsAre}
use Rattle.boc_machine_laws.proofs.Members.{MemberFits, all_fit, values_length}
use Rattle.boc_dispatch.proofs.Present.{inputs_present}
use Rattle.boc_program.proofs.ChangedItems.{item_at, place_below}
use Rattle.boc_eval.specs.Frames.{UnderWay as Framed, last_of, last_wish_of, wishes_of}
use Rattle.boc_dispatch.specs.Calls.{IsHandedOut, IsNextWish, IsLeaving}
use Rattle.boc_runs.specs.declared.stage.Phase.TheVariants as phases
use Rattle.boc_runs.specs.declared.stage.Stage.TheVariants.{Recorded}
use Rattle.boc_runs.specs.Lives.{Running, Ended}
use Rattle.boc_runs.specs.Run.{Member}
use Rattle.boc_runs.specs.machine.Stages.{OpenBehaviour, row_at, row_of, life_at, life, enqueues, enqueues_at, parent_of}
use Rattle.boc_runs.specs.machine.Steps.{at, members, HasNoEnqueue}
use Rattle.boc_dispatch.specs.declared.live.Live.{Live}
use Rattle.boc_dispatch.specs.Inside.{Parts, state, underway, live_at, open_of, behaviour_of, IsKept, IsOfRow}
use Rattle.boc_dispatch.proofs.Tables.{live_there, at_slot, slot_of_open}
use Rattle.boc_machine_laws.proofs.Allowing.{running_stage}

-- the row of a behaviour, as the run has it
pub record IsRowAt (d : Parts) (l : Live) (row : ℕ) : Type 0 where
  pub member : Member
  pub is : slice_get (members d.program (state d)) row ≡ Some member
  pub life_is : member.life ≡ life_at l.stage
  pub behaviour_is : member.behaviour ≡ behaviour_of l
  pub spawned_is : member.spawned ≡ l.spawned

-- the behaviour at a slot has this number
pub record IsNumbered (d : Parts) (slot number : ℕ) : Type 0 where
  pub this : Live
  pub is : live_at d.live slot ≡ Some this
  pub number_is : this.number ≡ number

-- an open behaviour with a row is there
open_with_row : (o : Option OpenBehaviour) (row : ℕ) → row_of o ≡ Some row → (b : OpenBehaviour) × (o ≡ Some b) × (row_at b.stage ≡ Some row)
open_with_row None row e = absurd (let h : None ≡ Some row = e in cc)
open_with_row (Some b) row e = (b, refl, e)

open_enqueuing : (o : Option OpenBehaviour) → enqueues o ≡ true → (b : OpenBehaviour) × (o ≡ Some b) × (enqueues_at b.stage ≡ true)
open_enqueuing None e = absurd (let h : false ≡ true = e in cc)
open_enqueuing (Some b) e = (b, refl, e)

-- a body of which the counts are known is there
pub counts_there : (bodies : List Body) (kind args cowns : ℕ) → CountsAre (slice_get (map signature_of bodies) kind) args cowns → kind < length bodies
counts_there [] kind args cowns h = absurd h
counts_there (b ∷ bodies) zero args cowns h = omega arith
counts_there (b ∷ bodies) (suc kind) args cowns h = let below = counts_there bodies kind args cowns h in omega arith

module _ (d : Parts) (k : IsKept d) where
  pub row_at_slot : (slot row : ℕ) (l : Live) → live_at d.live slot ≡ Some l → row_at l.stage ≡ Some row → IsRowAt d l row
  row_at_slot slot row l is e =
      let open_is : at (state d) l.number ≡ Some (open_of l) = at_slot d.live d.opened slot l k.numbered is in
      let has = k.sound.fits.has_row l.number row (ap row_of open_is ∙ e) in
      let mem = k.of_run.recorded slot row l is e in
      let same : mem.member ≡ has.member = (let f : Some mem.member ≡ Some has.member = sym mem.is ∙ has.is in cc) in
      record {
        member = mem.member;
        is = mem.is;
        life_is = ap (λ (m : Member). m.life) same ∙ has.life_is ∙ ap life open_is;
        behaviour_is = mem.behaviour_is;
        spawned_is = mem.spawned_is;
      }

  -- the slot of an open behaviour with a row
  pub slot_of_row : (who row : ℕ) → row_of (at (state d) who) ≡ Some row → (slot : ℕ) × IsOfRow d slot row
  slot_of_row who row e =
      let b = open_with_row (at (state d) who) row e in
      let s = slot_of_open d.live d.opened who b.0 k.numbered b.1 in
      (s.0, record { this = s.1; is = s.2; row_is = ap (λ (x : OpenBehaviour). row_at x.stage) s.4 ∙ b.2 })

  -- a row that hasn't ended has its behaviour at a slot
  pub slot_of_member : (row : ℕ) (m : Member) → slice_get (members d.program (state d)) row ≡ Some m → m.life ≢ Ended → (slot : ℕ) × IsOfRow d slot row
  slot_of_member row m is alive = let open_row = k.sound.fits.open_rows row m is alive in slot_of_row open_row.0 row open_row.1

  -- a row has one slot, and one behaviour
  pub one_slot : (slot other row : ℕ) (x : IsOfRow d slot row) (y : IsOfRow d other row) → slot ≡ other
  one_slot slot other row x y =
      (let e : Some slot ≡ Some other = sym (k.at_home slot row x.this x.is x.row_is) ∙ k.at_home other row y.this y.is y.row_is in cc)

  pub one_behaviour : (slot other row : ℕ) (x : IsOfRow d slot row) (y : IsOfRow d other row) → x.this ≡ y.this
  one_behaviour slot other row x y =
      (let e : Some x.this ≡ Some y.this = sym x.is ∙ ap (live_at d.live) (one_slot slot other row x y) ∙ y.is in cc)

  -- a behaviour with no child in hand has no open enqueue, and the other way round
  pub none_open : (slot row : ℕ) (x : IsOfRow d slot row) → x.this.child ≡ None → HasNoEnqueue (state d) row
  none_open slot row x none who open_is parent =
      let b = open_enqueuing (at (state d) who) open_is in
      let s = slot_of_open d.live d.opened who b.0 k.numbered b.1 in
      let up = k.in_hand.parents s.0 s.1 s.2 (ap (λ (o : OpenBehaviour). enqueues_at o.stage) s.4 ∙ b.2) in
      let own : s.1.parent ≡ row = ap (λ (o : OpenBehaviour). o.parent) s.4 ∙ ap parent_of (sym b.1) ∙ parent in
      let home : IsOfRow d up.home row = record { this = up.parent; is = up.is; row_is = up.row_is ∙ ap Some own } in
      let same = one_behaviour slot up.home row x home in
      (let e : None ≡ Some s.0 = sym none ∙ ap (λ (l : Live). l.child) same ∙ up.knows in absurd cc)

  no_child : (slot row : ℕ) (x : IsOfRow d slot row) → HasNoEnqueue (state d) row → (child : Option ℕ) → x.this.child ≡ child → child ≡ None
  no_child slot row x none None is = refl
  no_child slot row x none (Some c) is =
      let down = k.in_hand.children slot c x.this x.is is in
      let open_is : at (state d) down.child.number ≡ Some (open_of down.child) = at_slot d.live d.opened c down.child k.numbered down.is in
      let own : down.child.parent ≡ row = (let e : Some down.child.parent ≡ Some row = sym down.parent_is ∙ x.row_is in cc) in
      absurd (none down.child.number (ap enqueues open_is ∙ down.enqueued) (ap parent_of open_is ∙ own))

  pub childless : (slot row : ℕ) (x : IsOfRow d slot row) → HasNoEnqueue (state d) row → x.this.child ≡ None
  childless slot row x none = no_child slot row x none x.this.child refl

  -- ---- looking a row up

  pub no_home : (row : ℕ) → length d.homes ≤ row → (slot : ℕ) → IsOfRow d slot row → ⊥
  no_home row short slot x = let below = place_below d.homes row slot (k.at_home slot row x.this x.is x.row_is) in omega arith

  pub home_is : (row home : ℕ) → slice_get d.homes row ≡ Some home → (slot : ℕ) (x : IsOfRow d slot row) → slot ≡ home
  home_is row home is slot x = (let e : Some slot ≡ Some home = sym (k.at_home slot row x.this x.is x.row_is) ∙ is in cc)

  pub home_beyond : (row home : ℕ) → slice_get d.homes row ≡ Some home → length d.live ≤ home → (slot : ℕ) → IsOfRow d slot row → ⊥
  home_beyond row home is short slot x =
      let same = home_is row home is slot x in
      let below = live_there d.live slot x.this x.is in
      omega arith

  pub home_other : (row home : ℕ) (place : Option Live) → slice_get d.homes row ≡ Some home → live_at d.live home ≡ place
      → ((l : Live) → place ≡ Some l → row_at l.stage ≡ Some row → ⊥) → (slot : ℕ) → IsOfRow d slot row → ⊥
  home_other row home place is at_home other slot x =
      other x.this (sym at_home ∙ ap (live_at d.live) (sym (home_is row home is slot x)) ∙ x.is) x.row_is

  -- ---- wishes and ends of a running row

  pub has_next_wish : (slot row made : ℕ) (x : IsOfRow d slot row) → x.this.child ≡ None → made ≡ x.this.spawned + 1 → IsNextWish (underway d) row made
  has_next_wish slot row made x none next =
      let r = row_at_slot slot row x.this x.is x.row_is in
      record { none_open = none_open slot row x none; member = r.member; is = r.is; next = next ∙ ap (λ n. n + 1) (sym r.spawned_is) }

  pub next_wish_means : (slot row made : ℕ) (x : IsOfRow d slot row) → IsNextWish (underway d) row made → (x.this.child ≡ None) × (made ≡ x.this.spawned + 1)
  next_wish_means slot row made x n =
      let r = row_at_slot slot row x.this x.is x.row_is in
      let same : n.member ≡ r.member = (let e : Some n.member ≡ Some r.member = sym n.is ∙ r.is in cc) in
      (childless slot row x n.none_open, n.next ∙ ap (λ (m : Member). m.spawned + 1) same ∙ ap (λ n. n + 1) r.spawned_is)

  -- ---- who was handed out runs

  -- the inputs of a running row are the values that its cowns have now
  present : (slot row : ℕ) (x : IsOfRow d slot row) → x.this.stage ≡ Recorded row phases.Running
      → (row_at_slot slot row x.this x.is x.row_is).member.inputs ≡ inputs_of x.this.params.items d.values
  present slot row x runs =
      let r = row_at_slot slot row x.this x.is x.row_is in
      inputs_present d.program d.log.events k.sound.run row r.member r.is (r.life_is ∙ ap life_at runs)
      ∙ (λ i. inputs_of ((r.behaviour_is i).cowns) (sym k.values_are i))

  pub hands_out : (slot row : ℕ) (x : IsOfRow d slot row) (body : Body) (args : List ℤ) (inputs : List Input) → x.this.stage ≡ Recorded row phases.Running
      → slice_get d.program.bodies x.this.kind ≡ Some body → args ≡ x.this.args.items → inputs ≡ inputs_of x.this.params.items d.values
      → IsHandedOut (underway d) row body args inputs
  hands_out slot row x body args inputs runs body_is args_are inputs_are =
      let r = row_at_slot slot row x.this x.is x.row_is in
      record {
        member = r.member;
        is = r.is;
        runs = r.life_is ∙ ap life_at runs;
        body_is = ap (λ (b : Behaviour). slice_get d.program.bodies b.kind) r.behaviour_is ∙ body_is;
        args_are = args_are ∙ sym (ap (λ (b : Behaviour). b.args) r.behaviour_is);
        inputs_are = inputs_are ∙ sym (present slot row x runs);
      }

  pub handed_slot : (row : ℕ) (body : Body) (args : List ℤ) (inputs : List Input) → IsHandedOut (underway d) row body args inputs
      → (slot : ℕ) × IsOfRow d slot row
  handed_slot row body args inputs h =
      slot_of_member row h.member h.is (λ ended. absurd (let e : Running ≡ Ended = sym h.runs ∙ ended in cc))

  pub handed_means : (slot row : ℕ) (x : IsOfRow d slot row) (body : Body) (args : List ℤ) (inputs : List Input) → IsHandedOut (underway d) row body args inputs
      → (x.this.stage ≡ Recorded row phases.Running) × (slice_get d.program.bodies x.this.kind ≡ Some body) × (args ≡ x.this.args.items)
      × (inputs ≡ inputs_of x.this.params.items d.values)
  handed_means slot row x body args inputs h =
      let r = row_at_slot slot row x.this x.is x.row_is in
      let same : h.member ≡ r.member = (let e : Some h.member ≡ Some r.member = sym h.is ∙ r.is in cc) in
      let behaviour : h.member.behaviour ≡ behaviour_of x.this = ap (λ (m : Member). m.behaviour) same ∙ r.behaviour_is in
      let runs = running_stage x.this.stage row x.row_is (sym r.life_is ∙ ap (λ (m : Member). m.life) (sym same) ∙ h.runs) in (
        runs,
        ap (λ (b : Behaviour). slice_get d.program.bodies b.kind) (sym behaviour) ∙ h.body_is,
        h.args_are ∙ ap (λ (b : Behaviour). b.args) behaviour,
        h.inputs_are ∙ ap (λ (m : Member). m.inputs) same ∙ present slot row x runs,
      )

  -- ---- a behaviour with a row fits the program

  pub fits_row : (slot row : ℕ) (x : IsOfRow d slot row) → MemberFits d.program (row_at_slot slot row x.this x.is x.row_is).member
  fits_row slot row x = let r = row_at_slot slot row x.this x.is x.row_is in all_fit d.program d.log.events k.sound.run row r.member r.is

  pub counts_of : (slot row : ℕ) (x : IsOfRow d slot row)
      → CountsAre (slice_get (map signature_of d.program.bodies) x.this.kind) (length x.this.args.items) (length x.this.params.items)
  counts_of slot row x =
      let r = row_at_slot slot row x.this x.is x.row_is in
      let P : Behaviour → Type 0 = λ b. CountsAre (slice_get (map signature_of d.program.bodies) b.kind) (length b.args) (length b.cowns) in
      subst P r.behaviour_is (fits_row slot row x).counts

  pub kind_there : (slot row : ℕ) (x : IsOfRow d slot row) → x.this.kind < length d.program.bodies
  kind_there slot row x =
      let r = row_at_slot slot row x.this x.is x.row_is in
      let fits = fits_row slot row x in
      let kind = ap (λ (b : Behaviour). b.kind) r.behaviour_is in
      let below = counts_there d.program.bodies r.member.behaviour.kind (length r.member.behaviour.args) (length r.member.behaviour.cowns) fits.counts in
      subst (λ (n : ℕ). n < length d.program.bodies) kind below

  pub params_below : (slot row : ℕ) (x : IsOfRow d slot row) → AllBelow (length d.values) x.this.params.items
  params_below slot row x =
      let r = row_at_slot slot row x.this x.is x.row_is in
      let fits = fits_row slot row x in
      let many : length d.values ≡ cown_count d.program.cowns = ap length k.values_are ∙ values_length d.program d.log.events in
      subst (λ (n : ℕ). AllBelow n x.this.params.items) (sym many)
      (subst (AllBelow (cown_count d.program.cowns)) (ap (λ (b : Behaviour). b.cowns) r.behaviour_is) fits.below)

  -- ---- the open enqueue of a row

  pub enqueue_found : (row number : ℕ) → IsEnqueueOf (state d) number row
      → (slot : ℕ) × (home : ℕ) × (c : IsNumbered d slot number) × (x : IsOfRow d home row) × (x.this.child ≡ Some slot)
  enqueue_found row number q =
      let b = open_enqueuing (at (state d) number) q.is_open in
      let s = slot_of_open d.live d.opened number b.0 k.numbered b.1 in
      let up = k.in_hand.parents s.0 s.1 s.2 (ap (λ (o : OpenBehaviour). enqueues_at o.stage) s.4 ∙ b.2) in
      let own : s.1.parent ≡ row = ap (λ (o : OpenBehaviour). o.parent) s.4 ∙ ap parent_of (sym b.1) ∙ q.parent in
      (s.0, up.home, record { this = s.1; is = s.2; number_is = s.3 }, record { this = up.parent; is = up.is; row_is = up.row_is ∙ ap Some own }, up.knows)

  -- ---- who leaves

  pub leaving_slot : (row : ℕ) (q : IsLeaving (state d) row) → (slot : ℕ) × (x : IsOfRow d slot row) × (x.this.stage ≡ Recorded row (phases.Leaving q.request))
  leaving_slot row q =
      let s = slot_of_open d.live d.opened q.who (record {
        parent = q.parent;
        offset = q.offset;
        cowns = q.cowns;
        stage = Recorded row (phases.Leaving q.request);
      }) k.numbered q.is in
      let stage = ap (λ (o : OpenBehaviour). o.stage) s.4 in
      (s.0, record { this = s.1; is = s.2; row_is = ap row_at stage }, stage)

-- ---- reading

-- a number that was read with a default
pub number_read : (xs : List ℕ) (i x : ℕ) → i < length xs → x ≡ get_or xs i x → slice_get xs i ≡ Some x
number_read [] i x below is = absurd (omega arith)
number_read (y ∷ xs) zero x below is = ap Some (sym is)
number_read (y ∷ xs) (suc i) x below is = number_read xs i x (omega arith) is

pub place_read : (live : List (Option Live)) (slot : ℕ) (place : Option Live) → slot < length live → place ≡ get_or live slot place → live_at live slot ≡ place
place_read [] slot place below is = absurd (omega arith)
place_read (p ∷ live) zero place below is = sym is
place_read (p ∷ live) (suc slot) place below is = place_read live slot place (omega arith) is

-- the same of lists that are read by their slices
pub home_read : (xs homes : List ℕ) (i x : ℕ) → xs ≡ homes → i < length xs → x ≡ get_or xs i x → slice_get homes i ≡ Some x
home_read xs homes i x same below is = subst (λ (ys : List ℕ). slice_get ys i ≡ Some x) same (number_read xs i x below is)

pub live_read : (xs live : List (Option Live)) (slot : ℕ) (place : Option Live) → xs ≡ live → slot < length xs → place ≡ get_or xs slot place
    → live_at live slot ≡ place
live_read xs live slot place same below is = subst (λ (ys : List (Option Live)). live_at ys slot ≡ place) same (place_read xs slot place below is)

-- a test of a row that failed
pub another_row : (o : Option ℕ) (row : ℕ) → option_eq eqb o (Some row) ≡ false → o ≡ Some row → ⊥
another_row o row failed is =
    let yes : eqb row row ≡ true = (Decides-eqb row row).1 refl in
    let e : false ≡ true = sym failed ∙ ap (λ p. option_eq eqb p (Some row)) is ∙ yes in absurd cc

-- the last wish is there where the frame has made one
pub last_there : (f : Framed) (n : ℕ) → f.made ≡ n + 1 → f.made ≤ length (wishes_of f) → last_wish_of f ≡ None → ⊥
last_there f n made few none =
    let w = item_at (wishes_of f) n (omega arith) in
    let e : Some w.0 ≡ None = sym w.1 ∙ ap (λ k. last_of k (wishes_of f)) (sym (made ∙ add-one n)) ∙ none in absurd cc
