-- With one worker there is one run.
use Rattle.std.proofs.Common.{◌≡◌, ℕ, zero, suc, ◌<◌, true, false, List, [], ◌∷◌, length, refl, sym, ◌∙◌, ap, subst, arith}
use Rattle.std.specs.Prelude.{slice_get, slice_set, Option, Some, None}
use Rattle.std.proofs.lemmas.List.{length-replicate, length-set}
use Rattle.boc_program.specs.declared.program.Program.{Program}
use Rattle.boc_program.proofs.ChangedItems.{place_below}
use Rattle.boc_runs.specs.machine.Stages.{OpenBehaviour, enqueues}
use Rattle.boc_runs.specs.machine.Steps.{IsQuiet, State, at}
use Rattle.boc_runs.specs.machine.Sound.{IsSound}
use Rattle.boc_runs.specs.machine.Turns.{Driven, TakesTurn, Turn, Turns, opening_driven}
use Rattle.boc_runs.specs.machine.Turns.{Advanced, Begins, Finished, Left, NoneReady, Opened, WaitsToLeave, WaitsToSettle}
use Rattle.boc_machine_laws.proofs.Every.{opening_sound}
use Rattle.boc_machine_laws.proofs.Moving.{body_not_quiet}
use Rattle.boc_machine_laws.proofs.OneTurn.{leaves_leaving, one_turn, turn_keeps}
use Rattle.boc_clock.specs.Clocks.{first_clocks}
use Rattle.boc_timed.specs.declared.timing.TimedRun.{TimedRun}
use Rattle.boc_timed.specs.Timed.{IsTimedRun}
use Rattle.boc_timed.proofs.OneTimed.{are_turns}

-- what is put where it is already changes nothing
set_there : (xs : List (Option ℕ)) (i : ℕ) (x : Option ℕ) → slice_get xs i ≡ Some x → slice_set xs i x ≡ xs
set_there [] i x e = refl
set_there (y ∷ xs) zero x e = (let same : y ≡ x = (let f : Some y ≡ Some x = e in cc) in ap (λ z. z ∷ xs) (sym same))
set_there (y ∷ xs) (suc i) x e = ap (λ zs. y ∷ zs) (set_there xs i x e)

-- where all is over, a turn changes nothing
module _ (p : Program) (s : State) (k : IsSound p s) (quiet : IsQuiet s) where
  gone : (who : ℕ) (b : OpenBehaviour) → at s who ≡ Some b → ⊥
  gone who b is = let f : None ≡ Some b = sym (quiet who) ∙ is in cc

  takes_nothing : (row : Option ℕ) (t : State) (after : Option ℕ) → TakesTurn p s row t after → (t ≡ s) × (after ≡ row)
  takes_nothing row t after (Begins who r u m) = absurd (gone who m.this m.is)
  takes_nothing row t after (NoneReady e) = (refl, refl)
  takes_nothing row t after (Advanced r who step u q m) = absurd (let f : false ≡ true = sym (ap enqueues (quiet who)) ∙ q.is_open in cc)
  takes_nothing row t after (WaitsToSettle r who q m) = (refl, refl)
  takes_nothing row t after (Opened r u m) = absurd (body_not_quiet p s k r (record { runs = m.may.runs; none_open = m.may.none_open }) quiet)
  takes_nothing row t after (Finished r who u m) = absurd (gone who m.this m.is)
  takes_nothing row t after (Left r who step u m) = absurd (let l = leaves_leaving s who r step t m in gone who l.this l.is)
  takes_nothing row t after (WaitsToLeave r who m) = (refl, refl)

stays_over : (p : Program) (d e : Driven) (worker : ℕ) → IsSound p d.state → IsQuiet d.state → Turn p d worker e → e ≡ d
stays_over p d e worker k quiet turn =
    let same = takes_nothing p d.state k quiet turn.before e.state turn.after turn.takes in
    let serves : e.serves ≡ d.serves =
    turn.serves_are ∙ ap (slice_set d.serves worker) same.1 ∙ set_there d.serves worker turn.before turn.is in
    λ i. record { state = same.0 i; serves = serves i }

over_stays : (p : Program) (d : Driven) (ys : List ℕ) (f : Driven) → IsSound p d.state → IsQuiet d.state → Turns p d ys f → f ≡ d
over_stays p d [] f k quiet turns = turns
over_stays p d (y ∷ ys) f k quiet turns =
    let same = stays_over p d turns.0 y k quiet turns.1 in
    over_stays p d ys f k quiet (subst (λ (z : Driven). Turns p z ys f) same turns.2)

-- of one worker, turns that go on until all is over come to one end
one_comes : (p : Program) (d : Driven) (xs ys : List ℕ) (e f : Driven) → IsSound p d.state → length d.serves ≡ 1 → Turns p d xs e → Turns p d ys f
    → IsQuiet e.state → IsQuiet f.state → e ≡ f
one_comes p d [] ys e f k one a b over other = a ∙ sym (over_stays p d ys f k (subst (λ (z : Driven). IsQuiet z.state) a over) b)
one_comes p d (x ∷ xs) [] e f k one a b over other = over_stays p d (x ∷ xs) e k (subst (λ (z : Driven). IsQuiet z.state) b other) a ∙ sym b
one_comes p d (x ∷ xs) (y ∷ ys) e f k one a b over other =
    let first : x < 1 = omega (arith, place_below d.serves x a.1.before a.1.is, one) in
    let second : y < 1 = omega (arith, place_below d.serves y b.1.before b.1.is, one) in
    let same : y ≡ x = omega arith in
    let next : b.0 ≡ a.0 = one_turn p d b.0 a.0 x k (subst (λ (w : ℕ). Turn p d w b.0) same b.1) a.1 in
    one_comes p a.0 xs ys e f (turn_keeps p d a.0 x k a.1)
    (ap (λ (os : List (Option ℕ)). length os) a.1.serves_are ∙ length-set d.serves x a.1.after ∙ one) a.2
    (subst (λ (z : Driven). Turns p z ys f) next b.2) over other

pub comes_by_one : (p : Program) (timed : TimedRun) → (is : IsTimedRun p 1 timed) → (choices : List ℕ) (end : Driven)
    → Turns p (opening_driven p 1) choices end → IsQuiet end.state → is.end ≡ end
comes_by_one p timed is choices end turns quiet =
    one_comes p (opening_driven p 1) is.choices choices is.end end (opening_sound p) (length-replicate {A = Option ℕ} 1 None)
    (are_turns p (opening_driven p 1) first_clocks is.choices is.end is.later is.turns) turns is.quiet quiet
