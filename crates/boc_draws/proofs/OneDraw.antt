-- A draw is a function of the program, the workers, the way and the seed.
use Rattle.std.proofs.Common.{◌≡◌, ℕ, List, [], ◌∷◌, sym, ◌∙◌, ap, subst}
use Rattle.std.specs.Prelude.{Option, Some}
use Rattle.boc_program.specs.declared.program.Program.{Program}
use Rattle.boc_runs.specs.machine.Steps.{IsQuiet}
use Rattle.boc_runs.specs.machine.Sound.{IsSound}
use Rattle.boc_runs.specs.machine.Turns.{Driven, Turn, Turns, opening_driven}
use Rattle.boc_machine_laws.proofs.Every.{opening_sound}
use Rattle.boc_machine_laws.proofs.OneTurn.{one_turn, turn_keeps}
use Rattle.boc_draws.specs.declared.drawing.Drawn.{Drawn}
use Rattle.boc_draws.specs.declared.picker.Picker.{Picker}
use Rattle.boc_draws.specs.declared.way.Way.{Way}
use Rattle.boc_draws.specs.Picks.{picked, picker_of}
use Rattle.boc_draws.specs.Draws.{Picks, PickedTurns, IsDrawn, RunsOut}
use Rattle.boc_draws.proofs.Moving.{same_movers, nobody_turns}
use Rattle.boc_draws.proofs.Picking.{picked_is_there}

-- the turns of those that are picked are turns
pub are_turns : (p : Program) (d : Driven) (picker : Picker) (xs : List ℕ) (e : Driven) (later : Picker) → PickedTurns p d picker xs e later → Turns p d xs e
are_turns p d picker [] e later t = t.0
are_turns p d picker (x ∷ xs) e later t = (t.0, t.3, are_turns p t.0 t.1 xs e later t.4)

some_same : (x y : ℕ) → Some x ≡ Some y → x ≡ y
some_same x y e = cc

-- one is picked
pub same_pick : (p : Program) (d : Driven) (picker : Picker) (x y : ℕ) (on more : Picker) → Picks p d picker x on → Picks p d picker y more
    → (x ≡ y) × (on ≡ more)
same_pick p d picker x y on more a b =
    let movers : a.movers ≡ b.movers = same_movers p d a.movers b.movers a.are b.are in
    let same : (Some x, on) ≡ (Some y, more) = sym a.pick ∙ ap (picked picker d.state.steps) movers ∙ b.pick in
    let first : Some x ≡ Some y = ap (λ (r : Option ℕ × Picker). r.0) same in
    (some_same x y first, ap (λ (r : Option ℕ × Picker). r.1) same)

-- where all is over, nobody is picked
pub none_picked : (p : Program) (d : Driven) (picker : Picker) (x : ℕ) (on : Picker) → IsSound p d.state → IsQuiet d.state → Picks p d picker x on → ⊥
none_picked p d picker x on k quiet a =
    let can = a.are.can x (picked_is_there picker d.state.steps a.movers x on a.pick) in
    nobody_turns p d.state k quiet can.row can.turns

-- two that go on until all is over come to one end
pub one_end : (p : Program) (d : Driven) (picker : Picker) (xs ys : List ℕ) (e f : Driven) (later more : Picker) → IsSound p d.state
    → PickedTurns p d picker xs e later → PickedTurns p d picker ys f more → IsQuiet e.state → IsQuiet f.state → e ≡ f
one_end p d picker [] [] e f later more k a b over other = a.0 ∙ sym b.0
one_end p d picker [] (y ∷ ys) e f later more k a b over other =
    absurd (none_picked p d picker y b.1 k (subst (λ (z : Driven). IsQuiet z.state) a.0 over) b.2)
one_end p d picker (x ∷ xs) [] e f later more k a b over other =
    absurd (none_picked p d picker x a.1 k (subst (λ (z : Driven). IsQuiet z.state) b.0 other) a.2)
one_end p d picker (x ∷ xs) (y ∷ ys) e f later more k a b over other =
    let same = same_pick p d picker x y a.1 b.1 a.2 b.2 in
    let next : b.0 ≡ a.0 = one_turn p d b.0 a.0 x k (subst (λ (w : ℕ). Turn p d w b.0) (sym same.0) b.3) a.3 in
    one_end p a.0 a.1 xs ys e f later more (turn_keeps p d a.0 x k a.3) a.4
    (subst (λ (z : Driven). PickedTurns p z a.1 ys f more) next (subst (λ (r : Picker). PickedTurns p b.0 r ys f more) (sym same.1) b.4)) over other

-- and where one does, the next one that is picked never lacks its turn
pub over_or_full : (p : Program) (d : Driven) (picker : Picker) (xs ys : List ℕ) (e f : Driven) (later more : Picker) → IsSound p d.state
    → PickedTurns p d picker xs e later → PickedTurns p d picker ys f more → IsQuiet e.state
    → (w : ℕ) (on : Picker) → Picks p f more w on → ((after : Driven) → Turn p f w after → ⊥) → ⊥
over_or_full p d picker [] [] e f later more k a b over w on picks none =
    none_picked p d picker w on k (subst (λ (z : Driven). IsQuiet z.state) a.0 over)
    (subst (λ (z : Driven). Picks p z picker w on) b.0 (subst (λ (r : Picker). Picks p f r w on) b.1 picks))
over_or_full p d picker [] (y ∷ ys) e f later more k a b over w on picks none =
    none_picked p d picker y b.1 k (subst (λ (z : Driven). IsQuiet z.state) a.0 over) b.2
over_or_full p d picker (x ∷ xs) [] e f later more k a b over w on picks none =
    let own = subst (λ (z : Driven). Picks p z picker w on) b.0 (subst (λ (r : Picker). Picks p f r w on) b.1 picks) in
    let same = same_pick p d picker x w a.1 on a.2 own in
    none a.0 (subst (λ (z : Driven). Turn p z w a.0) (sym b.0) (subst (λ (v : ℕ). Turn p d v a.0) same.0 a.3))
over_or_full p d picker (x ∷ xs) (y ∷ ys) e f later more k a b over w on picks none =
    let same = same_pick p d picker x y a.1 b.1 a.2 b.2 in
    let next : b.0 ≡ a.0 = one_turn p d b.0 a.0 x k (subst (λ (v : ℕ). Turn p d v b.0) (sym same.0) b.3) a.3 in
    over_or_full p a.0 a.1 xs ys e f later more (turn_keeps p d a.0 x k a.3) a.4
    (subst (λ (z : Driven). PickedTurns p z a.1 ys f more) next (subst (λ (r : Picker). PickedTurns p b.0 r ys f more) (sym same.1) b.4)) over w on picks none

-- two draws have one end
pub one_drawn : (p : Program) (workers : ℕ) (way : Way) (seed : ℕ) (a b : Drawn) (x : IsDrawn p workers way seed a) (y : IsDrawn p workers way seed b)
    → x.end ≡ y.end
one_drawn p workers way seed a b x y =
    one_end p (opening_driven p workers) (picker_of way workers seed) x.choices y.choices x.end y.end x.later y.later (opening_sound p)
    x.turns y.turns x.quiet y.quiet

pub drawn_or_full : (p : Program) (workers : ℕ) (way : Way) (seed : ℕ) (a : Drawn) → IsDrawn p workers way seed a → RunsOut p workers way seed → ⊥
drawn_or_full p workers way seed a x y =
    over_or_full p (opening_driven p workers) (picker_of way workers seed) x.choices y.choices x.end y.before x.later y.later (opening_sound p)
    x.turns y.turns x.quiet y.worker y.on y.picks y.none
