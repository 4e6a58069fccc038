-- The behaviours of a run fit their program.
use Rattle.std.proofs.Common.{◌≡◌, ℕ, zero, suc, ◌+◌, ◌≤◌, List, [], ◌∷◌, ◌++◌, length, map, refl, sym, ◌∙◌, ap, subst, arith}
use Rattle.std.specs.Prelude.{slice_get, ℤ, Option, Some, None}
use Rattle.std.specs.Option.{option_map}
use Rattle.boc_program.specs.declared.body.EndStatus.TheVariants as statuses
use Rattle.boc_program.specs.declared.program.Program.{Program}
use Rattle.boc_runs.specs.declared.event.Event.{Event}
use Rattle.boc_runs.specs.declared.event.Event.TheVariants.{Spawn, Start, End}
use Rattle.boc_program.specs.Meaning.{Wish, Meaning, cowns_held}
use Rattle.boc_program.specs.Programs.{cown_count}
use Rattle.boc_program.specs.Rising.{rising}
use Rattle.boc_program.specs.Signatures.{Signature, signature_of, AllBelow, CountsAre, WishFits, WishesFit}
use Rattle.boc_program.specs.Changed.{changed}
use Rattle.boc_runs.specs.Lives.{Life, Pending, Running, Ended}
use Rattle.boc_runs.specs.Serial.{Behaviour, behaviour_of, main_behaviour}
use Rattle.boc_runs.specs.Legal.{Entry}
use Rattle.boc_runs.specs.Run.{Member, Config, config_after, config_after_all, config_of, opening, next_wish, wish_at, meaning_of, waiting, spawned_by}
use Rattle.boc_runs.specs.Run.{started_on, members_after_spawn, values_after_end, values_written, state_of, MaySpawn, MayHappen, IsRunFrom, IsRun}
use Rattle.boc_runs.proofs.Behaviours.{cowns_of_inputs, main_fits, length-after_outputs, initial-length}
use Rattle.boc_runs.proofs.RunsAreLegal.{Twins, last_offset, whole_meaning, is_meant, meant_fits}
use Rattle.boc_program.proofs.ChangedItems.{place_below}
use Rattle.boc_machine_laws.proofs.Rows.{changed_later}

-- a behaviour fits the program, runs on its own cowns, and has spawned no more than its wishes
pub record MemberFits (p : Program) (m : Member) : Type 0 where
  pub counts : CountsAre (slice_get (map signature_of p.bodies) m.behaviour.kind) (length m.behaviour.args) (length m.behaviour.cowns)
  pub below : AllBelow (cown_count p.cowns) m.behaviour.cowns
  pub holds : m.life ≡ Running → cowns_held m.inputs ≡ m.behaviour.cowns
  pub fresh : m.life ≡ Pending → m.spawned ≡ 0
  pub spent : (means : Meaning) → meaning_of p m ≡ Some means → m.spawned ≤ length means.wishes

abbrev pub AllFit : Program → List Member → Type 0
AllFit p ms = (r : ℕ) (m : Member) → slice_get ms r ≡ Some m → MemberFits p m

-- ---- lists of which one item is changed, or that have one more

all_changed : (p : Program) (ms : List Member) (i : ℕ) (f : Member → Member) → AllFit p ms
    → ((m : Member) → slice_get ms i ≡ Some m → MemberFits p m → MemberFits p (f m))
    → AllFit p (changed ms i f (slice_get ms i))
all_changed p [] i f all keeps r m e = absurd (let h : None ≡ Some m = e in cc)
all_changed p (x ∷ ms) zero f all keeps zero m e =
    let same : f x ≡ m = (let h : Some (f x) ≡ Some m = e in cc) in
    subst (MemberFits p) same (keeps x refl (all zero x refl))
all_changed p (x ∷ ms) zero f all keeps (suc r) m e = all (suc r) m e
all_changed p (x ∷ ms) (suc i) f all keeps zero m e =
    all zero m (ap (λ ys. slice_get ys zero) (sym (changed_later x ms i f (slice_get ms i))) ∙ e)
all_changed p (x ∷ ms) (suc i) f all keeps (suc r) m e =
    all_changed p ms i f (λ q n is. all (suc q) n is) keeps r m (ap (λ ys. slice_get ys (suc r)) (sym (changed_later x ms i f (slice_get ms i))) ∙ e)

all_more : (p : Program) (ms : List Member) (x : Member) → AllFit p ms → MemberFits p x → AllFit p (ms ++ x ∷ [])
all_more p [] x all fits zero m e = (let same : x ≡ m = (let h : Some x ≡ Some m = e in cc) in subst (MemberFits p) same fits)
all_more p [] x all fits (suc r) m e = absurd (let h : None ≡ Some m = e in cc)
all_more p (y ∷ ms) x all fits zero m e = all zero m e
all_more p (y ∷ ms) x all fits (suc r) m e = all_more p ms x (λ q n is. all (suc q) n is) fits r m e

-- ---- what a running behaviour wishes for

-- the row that would be a behaviour's
entry_of : Program → Member → Entry
entry_of p m = record {
  parent = 0;
  offset = 0;
  cowns = rising m.behaviour.cowns;
  life = m.life;
  last = last_offset (meaning_of p m) m.spawned;
  ticks = 0;
  status = statuses.Done;
  written = [];
}

twins : (p : Program) (m : Member) → MemberFits p m → Twins p m (entry_of p m)
unfolding entry_of
twins p m fits = record {
  counts = fits.counts;
  below = fits.below;
  life = refl;
  cowns = refl;
  holds = fits.holds;
  fresh = fits.fresh;
  last = refl;
}

wish_fits : (sigs : List Signature) (n : ℕ) (ws : List Wish) (k : ℕ) (w : Wish) → WishesFit sigs n ws → slice_get ws k ≡ Some w → WishFits sigs n w
wish_fits sigs n [] k w h e = absurd (let f : None ≡ Some w = e in cc)
wish_fits sigs n (v ∷ ws) zero w h e = (let same : v ≡ w = (let f : Some v ≡ Some w = e in cc) in subst (WishFits sigs n) same h.0)
wish_fits sigs n (v ∷ ws) (suc k) w h e = wish_fits sigs n ws k w h.1 e

-- the next wish of a running behaviour fits
pub next_fits : (p : Program) (m : Member) (w : Wish) → MemberFits p m → m.life ≡ Running → next_wish p (Some m) ≡ Some w
    → WishFits (map signature_of p.bodies) (cown_count p.cowns) w
next_fits p m w fits runs next =
    let t = twins p m fits in
    let means : Meaning = whole_meaning p m (entry_of p m) t in
    wish_fits (map signature_of p.bodies) (cown_count p.cowns) means.wishes m.spawned w (meant_fits p m (entry_of p m) t runs)
    (ap (λ o. wish_at o m.spawned) (sym (is_meant p m (entry_of p m) t)) ∙ next)

-- what a behaviour means that fits
pub means_there : (p : Program) (m : Member) → MemberFits p m → (means : Meaning) × (meaning_of p m ≡ Some means)
means_there p m fits = let t = twins p m fits in (whole_meaning p m (entry_of p m) t, is_meant p m (entry_of p m) t)

-- one whose wish was next has spawned one more of its wishes then
one_spent : (p : Program) (m : Member) (w : Wish) (means : Meaning) → next_wish p (Some m) ≡ Some w → meaning_of p m ≡ Some means
    → m.spawned + 1 ≤ length means.wishes
one_spent p m w means next meant =
    let below = place_below means.wishes m.spawned w (ap (λ o. wish_at o m.spawned) (sym meant) ∙ next) in
    omega (arith, below)

-- ---- along a run

waiting_fits : (p : Program) (b : Behaviour) → CountsAre (slice_get (map signature_of p.bodies) b.kind) (length b.args) (length b.cowns)
    → AllBelow (cown_count p.cowns) b.cowns → MemberFits p (waiting b)
waiting_fits p b counts below = record {
  counts = counts;
  below = below;
  holds = λ q. absurd (let h : Pending ≡ Running = q in cc);
  fresh = λ q. refl;
  spent = λ means is. omega arith;
}

running_is : (ms : List Member) (r : ℕ) (m : Member) (life : Life) → slice_get ms r ≡ Some m → state_of ms r ≡ Some life → m.life ≡ life
running_is ms r m life is state = (let e : Some m.life ≡ Some life = sym (ap (λ o. option_map (λ (x : Member). x.life) o) is) ∙ state in cc)

member_there : (o : Option Member) (life : Life) → option_map (λ (m : Member). m.life) o ≡ Some life → (m : Member) × (o ≡ Some m)
member_there None life e = absurd (let h : None ≡ Some life = e in cc)
member_there (Some m) life e = (m, refl)

spawn_fits : (p : Program) (ms : List Member) (parent offset : ℕ) (cowns : List ℕ) → MaySpawn p ms parent offset cowns → AllFit p ms
    → AllFit p (members_after_spawn p ms parent)
spawn_fits p [] parent offset cowns may all = all_more p [] (waiting main_behaviour) all (waiting_fits p main_behaviour (main_fits p.bodies p.main) tt)
spawn_fits p (m ∷ ms) parent offset cowns may all =
    let rows = m ∷ ms in
    let by = member_there (slice_get rows parent) Running may.runs in
    let w = next_fits p by.0 may.wish (all parent by.0 by.1) (running_is rows parent by.0 Running by.1 may.runs) (ap (next_wish p) (sym by.1) ∙ may.next) in
    let more : Member → Member = λ x. record x { spawned = x.spawned + 1 } in
    subst (AllFit p) (sym (ap (λ o. spawned_by rows parent o) may.next))
    (all_more p (changed rows parent more (slice_get rows parent)) (waiting (behaviour_of may.wish))
    (all_changed p rows parent more all (λ x is fits. record {
      counts = fits.counts;
      below = fits.below;
      holds = fits.holds;
      fresh = λ q. absurd (let h : Running ≡ Pending = sym (running_is rows parent x Running is may.runs) ∙ q in cc);
      spent = λ means meant. one_spent p x may.wish means (ap (next_wish p) (sym is) ∙ may.next) meant;
    }))
    (waiting_fits p (behaviour_of may.wish) w.counts w.below))

event_fits : (p : Program) (c : Config) (event : Event) → MayHappen p c event → AllFit p c.members → AllFit p (config_after p c event).members
event_fits p c (Spawn row parent offset cowns) may all = spawn_fits p c.members parent offset cowns.items may.2 all
event_fits p c (Start row) may all = all_changed p c.members row (started_on c.values) all (λ x is fits. record {
  counts = fits.counts;
  below = fits.below;
  holds = λ q. cowns_of_inputs x.behaviour.cowns c.values;
  fresh = λ q. fits.fresh (running_is c.members row x Pending is may.waits);
  spent = λ means meant. let none = fits.fresh (running_is c.members row x Pending is may.waits) in omega (arith, none);
})
event_fits p c (End row ticks status written) may all = all_changed p c.members row (λ m. record m { life = Ended }) all (λ x is fits. record {
  counts = fits.counts;
  below = fits.below;
  holds = λ q. absurd (let h : Ended ≡ Running = q in cc);
  fresh = λ q. absurd (let h : Ended ≡ Pending = q in cc);
  spent = λ means meant. fits.spent means meant;
})

all_fit_from : (p : Program) (c : Config) (log : List Event) → IsRunFrom p c log → AllFit p c.members → AllFit p (config_after_all p c log).members
all_fit_from p c [] run all = all
all_fit_from p c (event ∷ log) run all = all_fit_from p (config_after p c event) log run.1 (event_fits p c event run.0 all)

-- every behaviour of a run fits
pub all_fit : (p : Program) (log : List Event) → IsRun p log → AllFit p (config_of p log).members
all_fit p log run = all_fit_from p (opening p) log run (λ r m e. absurd (let h : None ≡ Some m = e in cc))

-- ---- as many values as cowns

written_length : (values : List ℤ) (cowns : List ℕ) (o : Option Meaning) → length (values_written values cowns o) ≡ length values
written_length values cowns None = refl
written_length values cowns (Some m) = length-after_outputs values cowns m.outputs

ended_length : (p : Program) (values : List ℤ) (o : Option Member) → length (values_after_end p values o) ≡ length values
ended_length p values None = refl
ended_length p values (Some m) = written_length values m.behaviour.cowns (meaning_of p m)

values_from : (p : Program) (c : Config) (log : List Event) → length (config_after_all p c log).values ≡ length c.values
values_from p c [] = refl
values_from p c (Spawn row parent offset cowns ∷ log) = values_from p (config_after p c (Spawn row parent offset cowns)) log
values_from p c (Start row ∷ log) = values_from p (config_after p c (Start row)) log
values_from p c (End row ticks status written ∷ log) =
    values_from p (config_after p c (End row ticks status written)) log ∙ ended_length p c.values (slice_get c.members row)

pub values_length : (p : Program) (log : List Event) → length (config_of p log).values ≡ cown_count p.cowns
values_length p log = values_from p (opening p) log ∙ initial-length p.cowns
