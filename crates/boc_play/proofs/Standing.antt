-- What is kept of the rows of a run says how they go on.
use Rattle.std.proofs.Common.{◌≡◌, ℕ, zero, suc, ◌<◌, ◌≤◌, List, [], ◌∷◌, length, map, refl, sym, ◌∙◌, ap, subst, arith}
use Rattle.std.specs.Prelude.{slice_get, Option, Some, None, option_map}
use Rattle.std.proofs.lemmas.Option.{slice_get-map}
use Rattle.std.specs.Option.{option_and_then}
use Rattle.boc_program.specs.declared.program.Program.{Program}
use Rattle.boc_program.specs.Meaning.{Wish, Meaning}
use Rattle.boc_program.specs.Rising.{rising}
use Rattle.boc_runs.specs.declared.event.Event.{Event}
use Rattle.boc_runs.specs.Lives.{Life, Pending, Running, Ended}
use Rattle.boc_runs.specs.Run.{Member, config_of, meaning_of, wish_at, next_wish, SpawnsWish, MayHappen, IsRun}
use Rattle.boc_machine_laws.proofs.Members.{all_fit, means_there}
use Rattle.boc_machine_laws.proofs.Rows.{life_there}
use Rattle.boc_machine_laws.proofs.Twins.{mapped}
use Rattle.boc_follow.specs.Following.{Following}
use Rattle.boc_follow.specs.Standings.{Standing, Underway, standing_of, underway_if, next_if, next_of, next_at}
use Rattle.boc_follow.specs.Takes.{MayCome, IsEndOf, IsIdle}

abbrev pub members : Following → List Member
members f = (config_of f.program f.log).members

abbrev pub standings : Following → List Standing
standings f = map (standing_of f.program) (members f)

-- what is under way is that of a row that runs
running_if : (l : Life) (o : Option Meaning) (n : ℕ) (u : Underway) → underway_if l o n ≡ Some u → (l ≡ Running) × (o ≡ Some u.means) × (n ≡ u.spawned)
running_if Running (Some means) n u e =
    let f : Some (record { means = means; spawned = n }) ≡ Some u = e in
    let same : record { means = means; spawned = n } ≡ u = cc in
    (refl, ap (λ (z : Underway). Some z.means) same, ap (λ (z : Underway). z.spawned) same)
running_if Running None n u e = absurd (let f : None ≡ Some u = e in cc)
running_if Pending o n u e = absurd (let f : None ≡ Some u = e in cc)
running_if Ended o n u e = absurd (let f : None ≡ Some u = e in cc)

idle_if : (l : Life) (o : Option Meaning) (n : ℕ) (means : Meaning) → underway_if l o n ≡ None → o ≡ Some means → l ≡ Running → ⊥
idle_if Running (Some m) n means e some runs = (let f : Some (record { means = m; spawned = n }) ≡ None = e in cc)
idle_if Running None n means e some runs = (let f : None ≡ Some means = some in cc)
idle_if Pending o n means e some runs = (let f : Pending ≡ Running = runs in cc)
idle_if Ended o n means e some runs = (let f : Ended ≡ Running = runs in cc)

-- a row with a next wish runs
next_runs : (l : Life) (o : Option Meaning) (n : ℕ) (w : Wish) → next_if (underway_if l o n) ≡ Some w → (l ≡ Running) × (wish_at o n ≡ Some w)
next_runs Running (Some means) n w e = (refl, e)
next_runs Running None n w e = absurd (let f : None ≡ Some w = e in cc)
next_runs Pending o n w e = absurd (let f : None ≡ Some w = e in cc)
next_runs Ended o n w e = absurd (let f : None ≡ Some w = e in cc)

runs_next : (l : Life) (o : Option Meaning) (n : ℕ) (w : Wish) → l ≡ Running → wish_at o n ≡ Some w → next_if (underway_if l o n) ≡ Some w
runs_next Running (Some means) n w runs e = e
runs_next Running None n w runs e = absurd (let f : None ≡ Some w = e in cc)
runs_next Pending o n w runs e = absurd (let f : Pending ≡ Running = runs in cc)
runs_next Ended o n w runs e = absurd (let f : Ended ≡ Running = runs in cc)

past_end : {A : Type 0} (xs : List A) (i : ℕ) → slice_get xs i ≡ None → length xs ≤ i
past_end [] i e = omega arith
past_end (x ∷ xs) zero e = absurd (let f : Some x ≡ None = e in cc)
past_end (x ∷ xs) (suc i) e = omega (arith, past_end xs i e)

-- the standing of a row that is there
there_at : (f : Following) (r : ℕ) (m : Member) → slice_get (members f) r ≡ Some m → slice_get (standings f) r ≡ Some (standing_of f.program m)
there_at f r m there = slice_get-map (standing_of f.program) (members f) r ∙ ap (option_map (standing_of f.program)) there

next_there : (f : Following) (r : ℕ) (m : Member) → slice_get (members f) r ≡ Some m → next_at (standings f) r ≡ next_of (standing_of f.program m)
next_there f r m there = ap (option_and_then next_of) (there_at f r m there)

-- the member of a row with a next wish
has_next : (o : Option Standing) (w : Wish) → option_and_then next_of o ≡ Some w → (s : Standing) × (o ≡ Some s)
has_next None w e = absurd (let f : None ≡ Some w = e in cc)
has_next (Some s) w e = (s, refl)

-- a row that has a wish left may spawn it
pub next_spawns : (f : Following) (r : ℕ) (w : Wish) → next_at (standings f) r ≡ Some w → SpawnsWish f.program (members f) r w.offset (rising w.cowns)
next_spawns f r w e =
    let s = has_next (slice_get (standings f) r) w e in
    let m = mapped (standing_of f.program) (slice_get (members f) r) s.0 (sym (slice_get-map (standing_of f.program) (members f) r) ∙ s.1) in
    let p : Program = f.program in
    let h = next_runs m.0.life (meaning_of p m.0) m.0.spawned w (sym (next_there f r m.0 m.1) ∙ e) in
    record {
      runs = life_there (members f) r m.0 m.1 ∙ ap (λ l. Some l) h.0;
      wish = w;
      next = ap (next_wish p) m.1 ∙ h.1;
      offset_is = refl;
      cowns_are = refl;
    }

-- and a row that may spawn a wish has it left
pub spawns_next : (f : Following) (r offset : ℕ) (cowns : List ℕ) (s : SpawnsWish f.program (members f) r offset cowns) (m : Member)
    → slice_get (members f) r ≡ Some m → next_at (standings f) r ≡ Some s.wish
spawns_next f r offset cowns s m there =
    let runs : m.life ≡ Running = (let q : Some m.life ≡ Some Running = sym (life_there (members f) r m there) ∙ s.runs in cc) in
    next_there f r m there ∙ runs_next m.life (meaning_of f.program m) m.spawned s.wish runs (sym (ap (next_wish f.program) there) ∙ s.next)

-- a row that runs and has no wish left may end as its body ends
pub may_end : (f : Following) (r : ℕ) (e : Event) → IsRun f.program f.log → IsEndOf (standings f) r e → next_at (standings f) r ≡ None → MayCome f e
may_end f r e run end spent =
    let p : Program = f.program in
    let u = end.underway in
    let m = mapped (standing_of p) (slice_get (members f) r) end.standing (sym (slice_get-map (standing_of p) (members f) r) ∙ end.is) in
    let h = running_if m.0.life (meaning_of p m.0) m.0.spawned u (ap (λ (s : Standing). s.underway) m.2 ∙ end.runs) in
    let none : slice_get u.means.wishes u.spawned ≡ None =
    sym (ap (λ o. next_if o) end.runs) ∙ sym (ap (option_and_then next_of) end.is) ∙ spent in
    let fits = all_fit p f.log run r m.0 m.1 in
    subst (MayHappen p (config_of p f.log)) (sym end.ends.is) (record {
      member = m.0;
      is = m.1;
      runs = h.0;
      means = u.means;
      meant = h.1;
      all_spawned = omega (arith, past_end u.means.wishes u.spawned none, h.2, fits.spent u.means h.1);
      ticks_are = refl;
      status_is = refl;
      written_is = end.ends.written_is;
    })

-- a row of which nothing is under way doesn't run
pub idle_rests : (f : Following) (r : ℕ) (m : Member) → IsRun f.program f.log → IsIdle (standings f) r → slice_get (members f) r ≡ Some m
    → m.life ≡ Running → ⊥
idle_rests f r m run idle there runs =
    let means = means_there f.program m (all_fit f.program f.log run r m there) in
    idle_if m.life (meaning_of f.program m) m.spawned means.0 (idle (standing_of f.program m) (there_at f r m there)) means.1 runs
