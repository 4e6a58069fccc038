-- What a row of a run is, it stays as the run goes on.
use Rattle.std.proofs.Common.{◌≡◌, ◌∙◌, ℕ, inl, inr, List, [], ◌∷◌, ◌++◌, Option, Some, None, refl, sym, ap, subst}
use Rattle.std.specs.Prelude.{slice_get}
use Rattle.std.specs.Option.{option_map}
use Rattle.boc_program.specs.declared.program.Program.{Program}
use Rattle.boc_program.specs.Changed.{changed}
use Rattle.boc_program.specs.Meaning.{Wish}
use Rattle.boc_program.proofs.ChangedItems.{front_item, place_below}
use Rattle.boc_runs.specs.declared.event.Event.{Event}
use Rattle.boc_runs.specs.declared.event.Event.TheVariants.{Spawn, Start, End}
use Rattle.boc_runs.specs.Lives.{Ended}
use Rattle.boc_runs.specs.Serial.{behaviour_of}
use Rattle.boc_runs.specs.Run.{Config, Member, config_after, config_after_all, config_of, members_after_spawn, next_wish, opening}
use Rattle.boc_runs.specs.Run.{spawned_by, started_on, waiting}
use Rattle.boc_runs.specs.machine.Steps.{members}
use Rattle.boc_machine_laws.proofs.Lists.{same_or_not}
use Rattle.boc_machine_laws.proofs.Rows.{changed_other, changed_same, with_one_more}
use Rattle.boc_eval.specs.declared.instance.ToldRow.{ToldRow}
use Rattle.boc_eval.specs.Instances.{AreTrueOf, IsTrueOf}
use Rattle.boc_dispatch.specs.Underway.{Underway}
use Rattle.boc_dispatch.proofs.Growing.{Grows}

-- each row of a run is a row of another, with the same behaviour
abbrev pub Stay : List Member → List Member → Type 0
Stay run later =
    (row : ℕ) (m : Member) → slice_get run row ≡ Some m → (n : Member) × (slice_get later row ≡ Some n) × (n.behaviour ≡ m.behaviour)

stay_same : (run : List Member) → Stay run run
stay_same run row m is = (m, is, refl)

stay_on : (run then later : List Member) → Stay run then → Stay then later → Stay run later
stay_on run then later first second row m is =
    let a = first row m is in
    let b = second row a.0 a.1 in
    (b.0, b.1, b.2 ∙ a.2)

-- ---- what events do to the rows

stay_changed : (run : List Member) (i : ℕ) (f : Member → Member) → ((m : Member) → (f m).behaviour ≡ m.behaviour)
    → Stay run (changed run i f (slice_get run i))
stay_changed run i f keeps row m is =
    elim (same_or_not row i) [
      | inl same ↦
          let here : slice_get run i ≡ Some m = ap (slice_get run) (sym same) ∙ is in (
            f m,
            ap (slice_get (changed run i f (slice_get run i))) same ∙ changed_same run i f ∙ ap (option_map f) here,
            keeps m,
          )
      | inr other ↦ (m, changed_other run i row f (slice_get run i) other ∙ is, refl)
    ]

stay_more : (run : List Member) (new : Member) → Stay run (run ++ new ∷ [])
stay_more run new row m is = (m, front_item run new row (place_below run row m is) ∙ is, refl)

stay_spawned : (run : List Member) (parent : ℕ) (o : Option Wish) → Stay run (spawned_by run parent o)
stay_spawned run parent None = stay_same run
stay_spawned run parent (Some w) =
    let spawner : List Member = changed run parent with_one_more (slice_get run parent) in
    stay_on run spawner (spawner ++ waiting (behaviour_of w) ∷ []) (stay_changed run parent with_one_more (λ m. refl))
    (stay_more spawner (waiting (behaviour_of w)))

stay_spawn : (p : Program) (run : List Member) (parent : ℕ) → Stay run (members_after_spawn p run parent)
stay_spawn p [] parent = λ row m is. absurd (let none : None ≡ Some m = is in cc)
stay_spawn p (main ∷ others) parent = stay_spawned (main ∷ others) parent (next_wish p (slice_get (main ∷ others) parent))

stay_event : (p : Program) (c : Config) (event : Event) → Stay c.members (config_after p c event).members
stay_event p c (Spawn row parent offset cowns) = stay_spawn p c.members parent
stay_event p c (Start row) = stay_changed c.members row (started_on c.values) (λ m. refl)
stay_event p c (End row ticks status written) = stay_changed c.members row (λ m. record m { life = Ended }) (λ m. refl)

stay_events : (p : Program) (c : Config) (since : List Event) → Stay c.members (config_after_all p c since).members
stay_events p c [] = stay_same c.members
stay_events p c (event ∷ since) =
    stay_on c.members (config_after p c event).members (config_after_all p c (event ∷ since)).members (stay_event p c event)
    (stay_events p (config_after p c event) since)

after_both : (p : Program) (c : Config) (log since : List Event)
    → config_after_all p c (log ++ since) ≡ config_after_all p (config_after_all p c log) since
after_both p c [] since = refl
after_both p c (event ∷ log) since = after_both p (config_after p c event) log since

-- ---- what is reported of rows

told_on : (run later : List Member) → Stay run later → (t : ToldRow) → IsTrueOf run t → IsTrueOf later t
told_on run later stay t told =
    let there = stay t.row told.member told.is in
    record { member = there.0; is = there.1; behaviour_is = there.2 ∙ told.behaviour_is }

all_told_on : (run later : List Member) → Stay run later → (told : List ToldRow) → AreTrueOf run told → AreTrueOf later told
all_told_on run later stay [] are = tt
all_told_on run later stay (t ∷ told) are = (told_on run later stay t are.0, all_told_on run later stay told are.1)

-- the rows of a program whose log has grown
rows_stay : (u v : Underway) → v.program ≡ u.program → Grows u.state v.state → Stay (members u.program u.state) (members v.program v.state)
rows_stay u v same grows =
    let log : members v.program v.state ≡ (config_after_all u.program (config_of u.program u.state.log) grows.0).members =
    (λ i. (config_of (same i) (grows.1 i)).members)
    ∙ ap (λ (c : Config). c.members) (after_both u.program (opening u.program) u.state.log grows.0) in
    subst (Stay (members u.program u.state)) (sym log) (stay_events u.program (config_of u.program u.state.log) grows.0)

pub all_told_stay : (u v : Underway) → v.program ≡ u.program → Grows u.state v.state → (told : List ToldRow) → AreTrueOf (members u.program u.state) told
    → AreTrueOf (members v.program v.state) told
all_told_stay u v same grows = all_told_on (members u.program u.state) (members v.program v.state) (rows_stay u v same grows)
