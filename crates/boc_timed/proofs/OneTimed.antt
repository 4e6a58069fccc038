-- A timed run is a function of the program and the workers.
use Rattle.std.proofs.Common.{◌≡◌, ℕ, List, [], ◌∷◌, refl, sym, ◌∙◌, ap, subst}
use Rattle.std.specs.Prelude.{slice_get, Option, Some, None}
use Rattle.std.specs.Option.{is_some}
use Rattle.boc_program.specs.declared.program.Program.{Program}
use Rattle.boc_program.specs.Meaning.{Meaning}
use Rattle.boc_runs.specs.Run.{Member, meaning_of}
use Rattle.boc_runs.specs.machine.Steps.{State, IsQuiet}
use Rattle.boc_runs.specs.machine.Sound.{IsSound}
use Rattle.boc_runs.specs.machine.Turns.{Driven, Turn, Turns, opening_driven}
use Rattle.boc_machine_laws.proofs.Every.{opening_sound}
use Rattle.boc_machine_laws.proofs.OneTurn.{one_turn, turn_keeps}
use Rattle.boc_dispatch.specs.NextCalls.{CallsAt, TellsCall, TellsCallOf, call_at}
use Rattle.boc_draws.proofs.Moving.{same_movers, nobody_turns}
use Rattle.boc_clock.specs.declared.clocks.Clocks.{Clocks}
use Rattle.boc_clock.specs.Clocks.{IsDueFirst, first_clocks, moved_on}
use Rattle.boc_clock.proofs.OneFirst.{one_first}
use Rattle.boc_timed.specs.declared.timing.TimedRun.{TimedRun}
use Rattle.boc_timed.specs.Timed.{IsDue, IsTimedRun, MovesOn, RunsOut, TimedTurns}
use Rattle.boc_timed.proofs.Playing.{due_is_there}

-- the turns of those that are due first are turns
pub are_turns : (p : Program) (d : Driven) (c : Clocks) (xs : List ℕ) (e : Driven) (later : Clocks) → TimedTurns p d c xs e later → Turns p d xs e
are_turns p d c [] e later t = t.0
are_turns p d c (x ∷ xs) e later t = (t.0, t.3, are_turns p t.0 t.1 xs e later t.5)

-- ---- one is due, and one thing is told of it

some_same : (x y : ℕ) → Some x ≡ Some y → x ≡ y
some_same x y e = cc

one_due : (p : Program) (d : Driven) (c : Clocks) (v w : ℕ) → IsDue p d c v → IsDue p d c w → v ≡ w
one_due p d c v w a b =
    let movers : a.movers ≡ b.movers = same_movers p d a.movers b.movers a.are b.are in
    let place : a.place ≡ b.place = one_first c b.movers a.place b.place (subst (λ (ms : List ℕ). IsDueFirst c ms a.place) movers a.first) b.first in
    some_same v w (sym a.is ∙ (λ i. slice_get (movers i) (place i)) ∙ b.is)

same_member : (a b : Member) → Some a ≡ Some b → a ≡ b
same_member a b e = cc

same_meaning : (a b : Meaning) → Some a ≡ Some b → a ≡ b
same_meaning a b e = cc

one_call : (p : Program) (s : State) (row m n : ℕ) → CallsAt p s row m → CallsAt p s row n → m ≡ n
one_call p s row m n a b =
    let member : a.member ≡ b.member = same_member a.member b.member (sym a.is ∙ b.is) in
    let means : a.means ≡ b.means = same_meaning a.means b.means (sym a.meant ∙ ap (meaning_of p) member ∙ b.meant) in
    a.ticks_are ∙ (λ i. call_at (means i) (slice_get (means i).wishes (member i).spawned)) ∙ sym b.ticks_are

same_call : (p : Program) (s : State) (row : ℕ) (m n : Option ℕ) → TellsCall p s row m → TellsCall p s row n → m ≡ n
same_call p s row (Some m) (Some n) a b = ap (λ (k : ℕ). Some k) (one_call p s row m n a b)
same_call p s row (Some m) None a b = absurd (b m a)
same_call p s row None (Some n) a b = absurd (a n b)
same_call p s row None None a b = refl

one_told : (p : Program) (s : State) (row m n : Option ℕ) → TellsCallOf p s row m → TellsCallOf p s row n → m ≡ n
one_told p s None m n a b = a ∙ sym b
one_told p s (Some row) m n a b = same_call p s row m n a b

same_row : (r q : Option ℕ) → Some r ≡ Some q → r ≡ q
same_row r q e = cc

pub one_moved : (p : Program) (d : Driven) (c : Clocks) (w : ℕ) (a b : Clocks) → MovesOn p d c w a → MovesOn p d c w b → a ≡ b
one_moved p d c w a b x y =
    let row : x.row ≡ y.row = same_row x.row y.row (sym x.serves ∙ y.serves) in
    let call : x.call ≡ y.call =
    one_told p d.state y.row x.call y.call (subst (λ (r : Option ℕ). TellsCallOf p d.state r x.call) row x.tells) y.tells in
    x.clocks ∙ (λ i. moved_on c w (is_some (row i)) (call i)) ∙ sym y.clocks

-- ---- one run

-- where all is over, nobody is due
none_due : (p : Program) (d : Driven) (c : Clocks) (x : ℕ) → IsSound p d.state → IsQuiet d.state → IsDue p d c x → ⊥
none_due p d c x k quiet a =
    let can = a.are.can x (due_is_there a.movers a.place x a.is) in
    nobody_turns p d.state k quiet can.row can.turns

-- two that go on until all is over come to one end, by the same workers
one_end : (p : Program) (d : Driven) (c : Clocks) (xs ys : List ℕ) (e f : Driven) (later more : Clocks) → IsSound p d.state → TimedTurns p d c xs e later
    → TimedTurns p d c ys f more → IsQuiet e.state → IsQuiet f.state → (e ≡ f) × (xs ≡ ys)
one_end p d c [] [] e f later more k a b over other = (a.0 ∙ sym b.0, refl)
one_end p d c [] (y ∷ ys) e f later more k a b over other = absurd (none_due p d c y k (subst (λ (z : Driven). IsQuiet z.state) a.0 over) b.2)
one_end p d c (x ∷ xs) [] e f later more k a b over other = absurd (none_due p d c x k (subst (λ (z : Driven). IsQuiet z.state) b.0 other) a.2)
one_end p d c (x ∷ xs) (y ∷ ys) e f later more k a b over other =
    let same = one_due p d c x y a.2 b.2 in
    let next : b.0 ≡ a.0 = one_turn p d b.0 a.0 x k (subst (λ (w : ℕ). Turn p d w b.0) (sym same) b.3) a.3 in
    let on : b.1 ≡ a.1 =
    one_moved p a.0 c x b.1 a.1 (subst (λ (z : Driven). MovesOn p z c x b.1) next (subst (λ (w : ℕ). MovesOn p b.0 c w b.1) (sym same) b.4)) a.4 in
    let rest =
    one_end p a.0 a.1 xs ys e f later more (turn_keeps p d a.0 x k a.3) a.5
    (subst (λ (z : Driven). TimedTurns p z a.1 ys f more) next (subst (λ (q : Clocks). TimedTurns p b.0 q ys f more) on b.5)) over other in
    (rest.0, λ i. same i ∷ rest.1 i)

-- and where one does, the next one that is due never lacks its turn
over_or_full : (p : Program) (d : Driven) (c : Clocks) (xs ys : List ℕ) (e f : Driven) (later more : Clocks) → IsSound p d.state → TimedTurns p d c xs e later
    → TimedTurns p d c ys f more → IsQuiet e.state → (w : ℕ) → IsDue p f more w → ((after : Driven) → Turn p f w after → ⊥) → ⊥
over_or_full p d c [] [] e f later more k a b over w due none =
    none_due p d c w k (subst (λ (z : Driven). IsQuiet z.state) a.0 over)
    (subst (λ (z : Driven). IsDue p z c w) b.0 (subst (λ (q : Clocks). IsDue p f q w) b.1 due))
over_or_full p d c [] (y ∷ ys) e f later more k a b over w due none = none_due p d c y k (subst (λ (z : Driven). IsQuiet z.state) a.0 over) b.2
over_or_full p d c (x ∷ xs) [] e f later more k a b over w due none =
    let own = subst (λ (z : Driven). IsDue p z c w) b.0 (subst (λ (q : Clocks). IsDue p f q w) b.1 due) in
    let same = one_due p d c x w a.2 own in
    none a.0 (subst (λ (z : Driven). Turn p z w a.0) (sym b.0) (subst (λ (v : ℕ). Turn p d v a.0) same a.3))
over_or_full p d c (x ∷ xs) (y ∷ ys) e f later more k a b over w due none =
    let same = one_due p d c x y a.2 b.2 in
    let next : b.0 ≡ a.0 = one_turn p d b.0 a.0 x k (subst (λ (v : ℕ). Turn p d v b.0) (sym same) b.3) a.3 in
    let on : b.1 ≡ a.1 =
    one_moved p a.0 c x b.1 a.1 (subst (λ (z : Driven). MovesOn p z c x b.1) next (subst (λ (v : ℕ). MovesOn p b.0 c v b.1) (sym same) b.4)) a.4 in
    over_or_full p a.0 a.1 xs ys e f later more (turn_keeps p d a.0 x k a.3) a.5
    (subst (λ (z : Driven). TimedTurns p z a.1 ys f more) next (subst (λ (q : Clocks). TimedTurns p b.0 q ys f more) on b.5)) over w due none

-- two timed runs have one end, by the same workers
module _ (p : Program) (workers : ℕ) (a b : TimedRun) (x : IsTimedRun p workers a) (y : IsTimedRun p workers b) where
  both : (x.end ≡ y.end) × (x.choices ≡ y.choices)
  both = one_end p (opening_driven p workers) first_clocks x.choices y.choices x.end y.end x.later y.later (opening_sound p) x.turns y.turns x.quiet y.quiet

  pub one_run : x.end ≡ y.end
  one_run = both.0

  pub one_order : x.choices ≡ y.choices
  one_order = both.1

pub run_or_full : (p : Program) (workers : ℕ) (a : TimedRun) → IsTimedRun p workers a → RunsOut p workers → ⊥
run_or_full p workers a x y =
    over_or_full p (opening_driven p workers) first_clocks x.choices y.choices x.end y.before x.later y.later (opening_sound p) x.turns y.turns x.quiet
    y.worker y.due y.none
