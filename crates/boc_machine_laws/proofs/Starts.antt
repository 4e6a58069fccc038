-- Why the first of the ready list may start.
use Rattle.std.proofs.Common.{◌≡◌, ◌≢◌, ℕ, zero, suc, ◌<◌, true, List, [], ◌∷◌, ◌++◌, length, get_or, refl, sym, ◌∙◌, ap, subst, arith}
use Rattle.std.specs.Prelude.{slice_get, Option, Some, None}
use Rattle.std.specs.Option.{option_map_or}
use Rattle.std.specs.List.{Contains}
use Rattle.boc_program.specs.declared.program.Program.{Program}
use Rattle.boc_runs.specs.declared.stage.Phase.TheVariants.{Ready, Running as RunningPhase, Leaving}
use Rattle.boc_runs.specs.declared.stage.Stage.{Stage}
use Rattle.boc_runs.specs.declared.stage.Stage.TheVariants.{Asking, Recorded}
use Rattle.boc_program.specs.Rising.{rising}
use Rattle.boc_runs.specs.Lives.{Pending, Running, Ended, MayStart}
use Rattle.boc_runs.specs.Run.{Member, state_of, member_cowns}
use Rattle.boc_runs.specs.machine.Stages.{OpenBehaviour, standing, standing_at, row_of, row_at, holds, holds_at, cowns_of, life, life_at}
use Rattle.boc_runs.specs.machine.Queues.{times, InOrder}
use Rattle.boc_runs.specs.machine.Sound.{Fits}
use Rattle.boc_program.proofs.RisingNumbers.{rising_has}
use Rattle.boc_machine_laws.proofs.Lists.{times-here, times-other, found}
use Rattle.boc_machine_laws.proofs.Lawful.{Laws}
use Rattle.boc_machine_laws.proofs.Rows.{with_life, life_there}

stands_at_all : (s : Stage) (cs : List ℕ) (r : ℕ) → row_at s ≡ Some r → life_at s ≢ Ended → standing_at s cs ≡ cs
stands_at_all (Asking i e) cs r h n = absurd (let f : None ≡ Some r = h in cc)
stands_at_all (Recorded q (Leaving i)) cs r h n = absurd (n refl)
stands_at_all _ cs r h n = refl

-- a recorded behaviour that has not ended stands for all its cowns
pub stands_for_all : (b : Option OpenBehaviour) (r : ℕ) → row_of b ≡ Some r → life b ≢ Ended → standing b ≡ cowns_of b
stands_for_all None r h n = absurd (let f : None ≡ Some r = h in cc)
stands_for_all (Some b) r h n = stands_at_all b.stage b.cowns r h n

running_holds_at : (s : Stage) → life_at s ≡ Running → holds_at s ≡ true
running_holds_at (Recorded q Ready) h = refl
running_holds_at (Recorded q RunningPhase) h = refl
running_holds_at (Recorded q (Leaving i)) h = absurd (let f : Ended ≡ Running = h in cc)
running_holds_at _ h = absurd (let f : Pending ≡ Running = h in cc)

pub running_holds : (b : Option OpenBehaviour) → life b ≡ Running → holds b ≡ true
running_holds None h = absurd (let f : Ended ≡ Running = h in cc)
running_holds (Some b) h = running_holds_at b.stage h

behind_first : (xs : List ℕ) (x y : ℕ) → slice_get xs 0 ≡ Some x → 0 < times y xs → y ≢ x → (mid : List ℕ)
    × (behind : List ℕ) × (xs ≡ x ∷ (mid ++ (y ∷ behind)))
behind_first [] x y e h n = absurd (omega arith)
behind_first (z ∷ xs) x y e h n =
    let is : z ≡ x = (let f : Some z ≡ Some x = e in cc) in
    let s = found y xs (subst (λ (k : ℕ). 0 < k) (times-other y z xs (λ f. n (sym f ∙ is))) h) in
    (s.0, s.1, ap (λ w. w ∷ xs) is ∙ ap (λ zs. x ∷ zs) s.2)

-- what a list contains stands there
times_at : (xs : List ℕ) (k c d : ℕ) → k < length xs → get_or xs k d ≡ c → 0 < times c xs
times_at [] k c d l e = absurd (omega arith)
times_at (x ∷ xs) zero c d l e = omega (arith, ap (λ z. times c (z ∷ xs)) e, times-here c xs)
times_at (x ∷ xs) (suc k) c d l e = omega (arith, times_at xs k c d (omega arith) e)

pub times_contains : (xs : List ℕ) (c : ℕ) → Contains xs c → 0 < times c xs
times_contains xs c (k, l, e) = times_at xs k c c l e

-- a cown of a row, among those of its behaviour
rising_times : (rows : List Member) (r : ℕ) (m : Member) (c : ℕ) → slice_get rows r ≡ Some m
    → Contains (member_cowns rows r) c → 0 < times c (rising m.behaviour.cowns)
rising_times rows r m c e h =
    times_contains (rising m.behaviour.cowns) c
    (rising_has m.behaviour.cowns c (subst (λ (cs : List ℕ). Contains cs c)
    (ap (λ o. option_map_or (λ (x : Member). x.behaviour.cowns) o []) e) h))

-- whoever is first in all its lists shares no cown with a running row or an earlier pending one
pub may_start : (p : Program) (rows : List Member) (at : ℕ → Option OpenBehaviour) (queue : ℕ → List ℕ)
    → Laws at queue → Fits p rows at
    → (who r : ℕ) → row_of (at who) ≡ Some r → holds (at who) ≡ true → life (at who) ≡ Pending
    → MayStart (state_of rows) (member_cowns rows) r
may_start p rows at queue l f who r is held pending =
    let x = f.has_row who r is in
    let mine : standing (at who) ≡ cowns_of (at who) =
    stands_for_all (at who) r is (λ e. let g : Pending ≡ Ended = sym pending ∙ e in cc) in
    let front : (c : ℕ) → Contains (member_cowns rows r) c → slice_get (queue c) 0 ≡ Some who =
    λ c h. l.first who c held (subst (λ (cs : List ℕ). 0 < times c cs) (sym (mine ∙ x.cowns_are))
    (rising_times rows r x.member c x.is h)) in
    let theirs : (s : ℕ) (y : Member) (v : ℕ) → slice_get rows s ≡ Some y → y.life ≢ Ended → row_of (at v) ≡ Some s
    → (c : ℕ) → Contains (member_cowns rows s) c → 0 < times c (standing (at v)) =
    λ s y v e n g c h.
    let z = f.has_row v s g in
    let same : z.member ≡ y = (let k : Some z.member ≡ Some y = sym z.is ∙ e in cc) in
    let all : standing (at v) ≡ cowns_of (at v) =
    stands_for_all (at v) s g (λ k. n (ap (λ w. w.life) (sym same) ∙ z.life_is ∙ k)) in
    subst (λ (cs : List ℕ). 0 < times c cs) (sym (all ∙ z.cowns_are)) (rising_times rows s z.member c z.is h) in
    record {
      waits = life_there rows r x.member x.is ∙ ap (λ k. Some k) (x.life_is ∙ pending);
      none_running = λ s t share.
          let y = with_life rows s Running t in
          let open_one : y.0.life ≢ Ended = λ g. let q : Running ≡ Ended = sym y.2 ∙ g in cc in
          let v = f.open_rows s y.0 y.1 open_one in
          let z = f.has_row v.0 s v.1 in
          let same : z.member ≡ y.0 = (let q : Some z.member ≡ Some y.0 = sym z.is ∙ y.1 in cc) in
          let runs : life (at v.0) ≡ Running = sym z.life_is ∙ ap (λ w. w.life) same ∙ y.2 in
          let there = l.first v.0 share.0 (running_holds (at v.0) runs)
          (theirs s y.0 v.0 y.1 open_one v.1 share.0 share.2) in
          let one : who ≡ v.0 = (let q : Some who ≡ Some v.0 = sym (front share.0 share.1) ∙ there in cc) in
          let q : Pending ≡ Running = sym pending ∙ ap (λ w. life (at w)) one ∙ runs in cc;
      none_earlier = λ s lt t share.
          let y = with_life rows s Pending t in
          let open_one : y.0.life ≢ Ended = λ g. let q : Pending ≡ Ended = sym y.2 ∙ g in cc in
          let v = f.open_rows s y.0 y.1 open_one in
          let c = share.0 in
          let inside : 0 < times v.0 (queue c) =
          subst (λ (m : ℕ). 0 < m) (sym (l.stands v.0 c)) (theirs s y.0 v.0 y.1 open_one v.1 c share.2) in
          let other : v.0 ≢ who = λ g. let q : Some s ≡ Some r = sym v.1 ∙ ap (λ w. row_of (at w)) g
          ∙ is in let m : s ≡ r = cc in omega arith in
          let b = behind_first (queue c) who v.0 (front c share.1) inside other in
          let o : InOrder (Some r) (row_of (at v.0)) =
          subst (λ (q : Option ℕ). InOrder q (row_of (at v.0))) is (l.ordered c [] b.0 b.1 who v.0 b.2) in
          let m : r < s = subst (λ (q : Option ℕ). InOrder (Some r) q) v.1 o in
          omega arith;
    }
