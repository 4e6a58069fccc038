-- Hands that fit the dispatcher fit it still after another worker's turn, and after their own thinking.
use Rattle.std.proofs.Common.{◌≡◌, ◌≢◌, ℕ, ◌+◌, inl, inr, cond, List, ℤ, refl, sym, ◌∙◌, ap, subst}
use Rattle.std.specs.Prelude.{slice_get, Some, None, Result, Ok, Err}
use Rattle.std.specs.Option.{option_map}
use Rattle.std.specs.declared.alloc.AllocError.{AllocError}
use Rattle.boc_program.specs.declared.body.Body.{Body}
use Rattle.boc_program.specs.declared.short.Input.{Input}
use Rattle.boc_program.specs.declared.program.Program.{Program}
use Rattle.boc_program.specs.Meaning.{Wish, meaning}
use Rattle.boc_runs.specs.Lives.{Pending, Running, Ended}
use Rattle.boc_runs.specs.Run.{Member, meaning_of, wish_at, next_wish}
use Rattle.boc_runs.specs.machine.Stages.{parent_of, enqueues, asks, life, life_at, row_of, row_at}
use Rattle.boc_runs.specs.machine.Steps.{State, members, HasNoEnqueue, Starts}
use Rattle.boc_runs.specs.machine.Sound.{IsSound}
use Rattle.boc_eval.specs.Frames.{UnderWay as Framed, Ran, wishes_of}
use Rattle.boc_eval.specs.Stops.{WishComes}
use Rattle.boc_dispatch.specs.declared.worker.Hand.{Hand}
use Rattle.boc_dispatch.specs.declared.worker.Due.TheVariants as dues
use Rattle.boc_dispatch.specs.declared.worker.Hand.TheVariants as hands
use Rattle.boc_dispatch.specs.Underway.{Underway}
use Rattle.boc_dispatch.specs.Calls.{in_state, IsHandedOut, HasSpawnedAll, IsLeaving}
use Rattle.boc_dispatch.specs.Working.{row_in, frame_of, EndsAs, HasGoneOn, HasThought}
use Rattle.boc_dispatch.specs.Driving.{IsFrameOf, IsWishing, IsEnqueuing, IsOutcomeOf, HandFits}
use Rattle.boc_dispatch.proofs.Elsewhere.{SameFor}

-- ---- to a state that is the same for the row

module _ (u : Underway) (t : State) (row : ℕ) (same : SameFor u.program row u.state t) where
  abbrev handed_on : (body : Body) (args : List ℤ) (inputs : List Input) → IsHandedOut u row body args inputs → IsHandedOut (in_state u t) row body args inputs
  handed_on body args inputs h = record {
    member = h.member;
    is = same.member h.member h.is;
    runs = h.runs;
    body_is = h.body_is;
    args_are = h.args_are;
    inputs_are = h.inputs_are;
  }

  none_open_on : HasNoEnqueue u.state row → HasNoEnqueue t row
  none_open_on none who enqueued parent =
      let there = same.no_new who (inl (enqueued, parent)) in
      none who (sym (ap enqueues there) ∙ enqueued) (sym (ap parent_of there) ∙ parent)

  spawned_on : (wishes : ℕ) → HasSpawnedAll u row wishes → HasSpawnedAll (in_state u t) row wishes
  spawned_on wishes h = record {
    none_open = none_open_on h.none_open;
    member = h.member;
    is = same.member h.member h.is;
    all = h.all;
  }

  frame_on : (f : Framed) → IsFrameOf u row f → IsFrameOf (in_state u t) row f
  frame_on f h = record { handed = handed_on f.body f.args f.inputs h.handed; spawned = spawned_on f.made h.spawned }

  wishing_on : (f : Framed) → IsWishing u row f → IsWishing (in_state u t) row f
  wishing_on f h =
      let n = h.may.next in
      record {
        may = record {
          handed = handed_on f.body f.args f.inputs h.may.handed;
          next = record {
            none_open = none_open_on n.none_open;
            member = n.member;
            is = same.member n.member n.is;
            next = n.next;
          };
        };
        wish = h.wish;
        next = ap (next_wish u.program) (same.member n.member n.is ∙ sym n.is) ∙ h.next;
      }

  enqueuing_on : (f : Framed) (number : ℕ) → IsEnqueuing u f number row → IsEnqueuing (in_state u t) f number row
  enqueuing_on f number h =
      let there = same.kept number (inl (h.enqueue.is_open, h.enqueue.parent)) in
      record {
        handed = handed_on f.body f.args f.inputs h.handed;
        enqueue = record { is_open = ap enqueues there ∙ h.enqueue.is_open; parent = ap parent_of there ∙ h.enqueue.parent };
        came = h.came ∙ ap (λ b. h.handed.member.spawned + cond (asks b) 1 0) (sym there);
      }

  outcome_on : (o : Ran) → IsOutcomeOf u row o → IsOutcomeOf (in_state u t) row o
  outcome_on o h = record { handed = handed_on o.body o.args o.inputs h.handed; spawned = spawned_on o.wishes h.spawned }

  pub releases_on : IsLeaving u.state row → IsLeaving t row
  releases_on h = record {
    who = h.who;
    request = h.request;
    parent = h.parent;
    offset = h.offset;
    cowns = h.cowns;
    is = same.kept h.who (inr (ap life h.is, ap row_of h.is)) ∙ h.is;
  }

pub hand_on : (u : Underway) (t : State) (h : Hand) → ((row : ℕ) → row_in h ≡ Some row → SameFor u.program row u.state t) → HandFits u h
    → HandFits (in_state u t) h
hand_on u t hands.Nothing same fits = fits
hand_on u t (hands.Started job) same fits = frame_on u t job.row (same job.row refl) (frame_of job) fits
hand_on u t (hands.Framed row f dues.Going) same fits = frame_on u t row (same row refl) f fits
hand_on u t (hands.Framed row f dues.Wishing) same fits = wishing_on u t row (same row refl) f fits
hand_on u t (hands.Framed row f (dues.Enqueuing child)) same fits = enqueuing_on u t child.row (same child.row refl) f child.number fits
hand_on u t (hands.Done row o) same fits = outcome_on u t row (same row refl) o fits
hand_on u t (hands.Leaving l) same fits = releases_on u t l.row (same l.row refl) fits

-- ---- thinking

-- what a body means is what its member does
pub meant : (p : Program) (m : Member) (f : Framed) → slice_get p.bodies m.behaviour.kind ≡ Some f.body → f.args ≡ m.behaviour.args → f.inputs ≡ m.inputs
    → meaning_of p m ≡ Some (meaning f.body f.args f.inputs)
meant p m f body args inputs =
    ap (λ o. option_map (λ b. meaning b m.behaviour.args m.inputs) o) body
    ∙ ap (λ xs. Some (meaning f.body xs m.inputs)) (sym args)
    ∙ ap (λ xs. Some (meaning f.body f.args xs)) (sym inputs)

pub same_member : (u : Underway) (row : ℕ) (m n : Member) → slice_get (members u.program u.state) row ≡ Some m
    → slice_get (members u.program u.state) row ≡ Some n → m ≡ n
same_member u row m n e f = (let g : Some m ≡ Some n = sym e ∙ f in cc)

wish_came : (u : Underway) (row : ℕ) (f g : Framed) (w : Wish) → IsFrameOf u row f → WishComes w f g → IsWishing u row g
wish_came u row f g w h c =
    let m = h.handed.member in
    let same = same_member u row m h.spawned.member h.handed.is h.spawned.is in
    let spawned : f.made ≡ m.spawned = h.spawned.all ∙ ap (λ (x : Member). x.spawned) (sym same) in
    record {
      may = record {
        handed = record {
          member = m;
          is = h.handed.is;
          runs = h.handed.runs;
          body_is = h.handed.body_is ∙ ap (λ (x : Framed). Some x.body) (sym c.counted);
          args_are = ap (λ (x : Framed). x.args) c.counted ∙ h.handed.args_are;
          inputs_are = ap (λ (x : Framed). x.inputs) c.counted ∙ h.handed.inputs_are;
        };
        next = record {
          none_open = h.spawned.none_open;
          member = m;
          is = h.handed.is;
          next = ap (λ (x : Framed). x.made) c.counted ∙ ap (λ n. n + 1) spawned;
        };
      };
      wish = w;
      next = ap (next_wish u.program) h.handed.is
          ∙ ap (λ o. wish_at o m.spawned) (meant u.program m f h.handed.body_is h.handed.args_are h.handed.inputs_are)
          ∙ ap (λ n. slice_get (wishes_of f) n) (sym spawned) ∙ c.next;
    }

body_ended : (u : Underway) (row : ℕ) (f : Framed) (o : Ran) → IsFrameOf u row f → EndsAs f o → IsOutcomeOf u row o
body_ended u row f o h e = record {
  handed = record {
    member = h.handed.member;
    is = h.handed.is;
    runs = h.handed.runs;
    body_is = h.handed.body_is ∙ ap (λ x. Some x) (sym e.body);
    args_are = e.args ∙ h.handed.args_are;
    inputs_are = e.inputs ∙ h.handed.inputs_are;
  };
  spawned = record {
    none_open = h.spawned.none_open;
    member = h.spawned.member;
    is = h.spawned.is;
    all = e.wishes ∙ h.spawned.all;
  };
}

gone_on_fits : (u : Underway) (row : ℕ) (f : Framed) (k : Hand) → IsFrameOf u row f → HasGoneOn row f k → HandFits u k
gone_on_fits u row f (hands.Framed own g dues.Wishing) h t = subst (λ r. IsWishing u r g) (sym t.0) (wish_came u row f g t.1.0 h t.1.1)
gone_on_fits u row f (hands.Done own o) h t = subst (λ r. IsOutcomeOf u r o) (sym t.0) (body_ended u row f o h t.1)
gone_on_fits u row f _ h t = absurd t

pub thought_fits : (u : Underway) (h k : Hand) (r : Result (Unit {0}) AllocError) → HandFits u h → HasThought h r k → HandFits u k
thought_fits u (hands.Started job) k (Ok x) fits t = gone_on_fits u job.row (frame_of job) k fits t
thought_fits u (hands.Framed row f dues.Going) k (Ok x) fits t = gone_on_fits u row f k fits t
thought_fits u hands.Nothing k (Ok x) fits t = subst (HandFits u) (sym t) fits
thought_fits u (hands.Framed row f dues.Wishing) k (Ok x) fits t = subst (HandFits u) (sym t) fits
thought_fits u (hands.Framed row f (dues.Enqueuing child)) k (Ok x) fits t = subst (HandFits u) (sym t) fits
thought_fits u (hands.Done row o) k (Ok x) fits t = subst (HandFits u) (sym t) fits
thought_fits u (hands.Leaving l) k (Ok x) fits t = subst (HandFits u) (sym t) fits
thought_fits u (hands.Started job) k (Err x) fits t = subst (HandFits u) (sym t) fits
thought_fits u (hands.Framed row f dues.Going) k (Err x) fits t = absurd t
thought_fits u hands.Nothing k (Err x) fits t = absurd t
thought_fits u (hands.Framed row f dues.Wishing) k (Err x) fits t = absurd t
thought_fits u (hands.Framed row f (dues.Enqueuing child)) k (Err x) fits t = absurd t
thought_fits u (hands.Done row o) k (Err x) fits t = absurd t
thought_fits u (hands.Leaving l) k (Err x) fits t = absurd t

-- ---- the rows that are served

-- a row that is there, and not pending
abbrev pub IsUnderWay : Underway → ℕ → Type 0
IsUnderWay u row = (m : Member) × (slice_get (members u.program u.state) row ≡ Some m) × (m.life ≢ Pending)

handed_lives : (u : Underway) (own row : ℕ) (body : Body) (args : List ℤ) (inputs : List Input) → Some own ≡ Some row → IsHandedOut u own body args inputs
    → IsUnderWay u row
handed_lives u own row body args inputs e h =
    let same : own ≡ row = cc in
    subst (IsUnderWay u) same (h.member, h.is, λ f. (let g : Running ≡ Pending = sym h.runs ∙ f in cc))

leaving_lives : (u : Underway) (own row : ℕ) → IsSound u.program u.state → Some own ≡ Some row → IsLeaving u.state own → IsUnderWay u row
leaving_lives u own row sound e l =
    let same : own ≡ row = cc in
    let h = sound.fits.has_row l.who own (ap row_of l.is) in
    let ended : h.member.life ≡ Ended = h.life_is ∙ ap life l.is in
    subst (IsUnderWay u) same (h.member, h.is, λ f. (let g : Ended ≡ Pending = sym ended ∙ f in cc))

-- the row of a hand that fits is under way
pub served_lives : (u : Underway) (h : Hand) (row : ℕ) → IsSound u.program u.state → HandFits u h → row_in h ≡ Some row → IsUnderWay u row
served_lives u hands.Nothing row sound fits e = absurd (let f : None ≡ Some row = e in cc)
served_lives u (hands.Started job) row sound fits e = handed_lives u job.row row job.body job.args.items job.inputs.items e fits.handed
served_lives u (hands.Framed own f dues.Going) row sound fits e = handed_lives u own row f.body f.args f.inputs e fits.handed
served_lives u (hands.Framed own f dues.Wishing) row sound fits e = handed_lives u own row f.body f.args f.inputs e fits.may.handed
served_lives u (hands.Framed served f (dues.Enqueuing child)) row sound fits e = handed_lives u child.row row f.body f.args f.inputs e fits.handed
served_lives u (hands.Done own o) row sound fits e = handed_lives u own row o.body o.args o.inputs e fits.handed
served_lives u (hands.Leaving l) row sound fits e = leaving_lives u l.row row sound e fits

-- the row that starts isn't
pub starting_waits : (p : Program) (s : State) (who row : ℕ) (t : State) → IsSound p s → Starts s who row t
    → (m : Member) × (slice_get (members p s) row ≡ Some m) × (m.life ≡ Pending)
starting_waits p s who row t sound m =
    let h = sound.fits.has_row who row (ap row_of m.is ∙ ap row_at m.stage_is) in
    (h.member, h.is, h.life_is ∙ ap life m.is ∙ ap life_at m.stage_is)
