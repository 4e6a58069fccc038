-- Rows of a run of a program, taken one after another.
use Rattle.std.proofs.Common.{◌≡◌, ℕ, zero, suc, ◌+◌, ◌≤◌, ◌<◌, List, [], ◌∷◌, Some, None, ℤ, true, false, refl, sym, ap, ◌∙◌, subst, length, map, drop, get_or, sum}
use Rattle.std.specs.Prelude.{Option}
use Rattle.std.proofs.Math.Seq.{drop-cons}
use Rattle.std.proofs.Math.ListN.{drop_of_length-le}
use Rattle.std.proofs.lemmas.List.{length-map}
use Rattle.std.proofs.lemmas.List.Sums.{sum-map}
use Rattle.boc_program.specs.declared.program.Program.{Program}
use Rattle.boc_program.specs.Programs.{initial_values}
use Rattle.boc_runs.specs.declared.rows.Row.{Row}
use Rattle.boc_runs.specs.Serial.{Behaviour, SerialRow, Serial, next_behaviour, run_at_once, after_turn, after_turns, serial_along}
use Rattle.boc_plans.specs.Plans.{work_of}
use Rattle.boc_eval.specs.Instances.{behaviour_in}
use Rattle.boc_lines.specs.declared.along.Along.{Along}
use Rattle.boc_lines.specs.Charges.{total}
use Rattle.boc_lines.specs.Replays.{AllFit, Fits, charges_along}
use Rattle.boc_lines.specs.SerialRuns.{AreBehavioursOf, AreRun, AreWished, IsRowOf, IsWished, behaviours_of, parents}
use Rattle.boc_lines.specs.Wished.{Stands, Took}
use Rattle.boc_lines.proofs.Places.{next_place}
use Rattle.boc_lines.proofs.Serially.{charged_serially, rows_are, rows_from, totals_serially}

-- ---- one row after another

-- A serial run so far, along the first `i` rows: what comes is the run along all rows, and its rows are those of a run just where the others are.
pub record OnTheWay (p : Program) (rows : List Row) (i : ℕ) (values : List ℤ) (along : Along) : Type 0 where
  pub s : Serial
  pub stands : Stands s values along
  pub turns : after_turns p s (parents (drop i rows)) ≡ serial_along p (parents rows)
  pub forth : AreRun p s (drop i rows) → AreRun p (serial_along p []) rows
  pub back : AreRun p (serial_along p []) rows → AreRun p s (drop i rows)

pub way_begun : (p : Program) (rows : List Row) (values : List ℤ) (along : Along) → Stands (serial_along p []) values along → OnTheWay p rows 0 values along
way_begun p rows values along h = record { s = serial_along p []; stands = h; turns = refl; forth = λ r. r; back = λ r. r }

row_on : (rows : List Row) (i : ℕ) (x : Row) → i < length rows → x ≡ get_or rows i x → drop i rows ≡ x ∷ drop (i + 1) rows
row_on rows i x h is = drop-cons rows i x h ∙ ap (λ y. y ∷ drop (suc i) rows) (sym is) ∙ ap (λ n. x ∷ drop n rows) (next_place i)

pub way_more : (p : Program) (rows : List Row) (i : ℕ) (x : Row) (before after : List ℤ) (old new : Along) → i < length rows → x ≡ get_or rows i x
    → (w : OnTheWay p rows i before old) → Took p w.s x true after new → OnTheWay p rows (i + 1) after new
way_more p rows i x before after old new h is w took =
    let on = row_on rows i x h is in
    record {
      s = after_turn p w.s x.parent;
      stands = took.1;
      turns = ap (λ xs. after_turns p w.s (parents xs)) (sym on) ∙ w.turns;
      forth = λ r. w.forth (subst (AreRun p w.s) (sym on) (took.0, r));
      back = λ r. (subst (AreRun p w.s) on (w.back r)).1;
    }

pub way_off : (p : Program) (rows : List Row) (i : ℕ) (x : Row) (before after : List ℤ) (old new : Along) → i < length rows → x ≡ get_or rows i x
    → (w : OnTheWay p rows i before old) → Took p w.s x false after new → AreRun p (serial_along p []) rows → ⊥
way_off p rows i x before after old new h is w took run = took (subst (AreRun p w.s) (row_on rows i x h is) (w.back run)).0

pub way_done : (p : Program) (rows : List Row) (i : ℕ) (values : List ℤ) (along : Along) → length rows ≤ i → OnTheWay p rows i values along
    → AreBehavioursOf p rows (map behaviour_in along.behaviours.items)
way_done p rows i values along h w =
    let none : drop i rows ≡ [] = drop_of_length-le rows h in
    record {
      run = w.forth (subst (AreRun p w.s) (sym none) tt);
      are = w.stands.behaviours
          ∙ ap (λ (s : Serial). map (λ r. r.behaviour) s.rows) (ap (λ xs. after_turns p w.s (parents xs)) (sym none) ∙ w.turns);
    }

-- ---- all rows

was_wished : (p : Program) (s : Serial) (row : Row) (o : Option Behaviour) → IsRowOf p s row o → IsWished o
was_wished p s row None h = absurd h
was_wished p s row (Some b) h = tt

pub are_wished : (p : Program) (s : Serial) (rows : List Row) → AreRun p s rows → AreWished p s (parents rows)
are_wished p s [] h = tt
are_wished p s (row ∷ rows) h = (was_wished p s row (next_behaviour s.rows row.parent) h.0, are_wished p (after_turn p s row.parent) rows h.1)

took_ticks : (p : Program) (s : Serial) (row : Row) (o : Option Behaviour) → IsRowOf p s row o → (run_at_once p s.values row.parent o).means.ticks ≡ row.ticks
took_ticks p s row None h = absurd h
took_ticks p s row (Some b) h = h.1

ticks_from : (p : Program) (s : Serial) (rows : List Row) → AreRun p s rows
    → map (λ r. r.means.ticks) (rows_from p s (parents rows)) ≡ map (λ (x : Row). x.ticks) rows
ticks_from p s [] h = refl
ticks_from p s (row ∷ rows) h =
    ap (λ n. n ∷ map (λ r. r.means.ticks) (rows_from p (after_turn p s row.parent) (parents rows)))
    (took_ticks p s row (next_behaviour s.rows row.parent) h.0)
    ∙ ap (λ ns. row.ticks ∷ ns) (ticks_from p (after_turn p s row.parent) rows h.1)

pub own_ticks : (p : Program) (rows : List Row) → AreRun p (serial_along p []) rows
    → map total (charges_along p (initial_values p.cowns) (behaviours_of p rows)) ≡ map (λ (x : Row). x.ticks) rows
own_ticks p rows h =
    ap (map total) (sym (charged_serially p (parents rows) (are_wished p (serial_along p []) rows h)))
    ∙ totals_serially p (parents rows) (are_wished p (serial_along p []) rows h)
    ∙ ap (map (λ (r : SerialRow). r.means.ticks)) (rows_are p (serial_along p []) (parents rows))
    ∙ ticks_from p (serial_along p []) rows h

pub own_work : (p : Program) (rows : List Row) → AreRun p (serial_along p []) rows
    → sum (map total (charges_along p (initial_values p.cowns) (behaviours_of p rows))) ≡ work_of rows
own_work p rows h = ap sum (own_ticks p rows h) ∙ sum-map (λ (x : Row). x.ticks) rows

it_fits : (p : Program) (s : Serial) (row : Row) (o : Option Behaviour) → IsRowOf p s row o → Fits p (run_at_once p s.values row.parent o).behaviour
it_fits p s row None h = absurd h
it_fits p s row (Some b) h = h.0

same_some : {A : Type 0} (x y : A) → Some x ≡ Some y → x ≡ y
same_some x y e = cc

fit_from : (p : Program) (s : Serial) (rows : List Row) → AreRun p s rows → AllFit p (map (λ (r : SerialRow). r.behaviour) (rows_from p s (parents rows)))
fit_from p s [] h k b is = absurd cc
fit_from p s (row ∷ rows) h zero b is =
    subst (Fits p) (same_some (run_at_once p s.values row.parent (next_behaviour s.rows row.parent)).behaviour b is)
    (it_fits p s row (next_behaviour s.rows row.parent) h.0)
fit_from p s (row ∷ rows) h (suc k) b is = fit_from p (after_turn p s row.parent) rows h.1 k b is

pub all_fit : (p : Program) (rows : List Row) → AreRun p (serial_along p []) rows → AllFit p (behaviours_of p rows)
all_fit p rows h =
    subst (λ (rs : List SerialRow). AllFit p (map (λ r. r.behaviour) rs)) (sym (rows_are p (serial_along p []) (parents rows)))
    (fit_from p (serial_along p []) rows h)

length_from : (p : Program) (s : Serial) (qs : List ℕ) → length (rows_from p s qs) ≡ length qs
length_from p s [] = refl
length_from p s (q ∷ qs) = ap suc (length_from p (after_turn p s q) qs)

pub length_behaviours : (p : Program) (rows : List Row) → length (behaviours_of p rows) ≡ length rows
length_behaviours p rows =
    length-map (serial_along p (parents rows)).rows (λ (r : SerialRow). r.behaviour)
    ∙ ap (length {A = SerialRow}) (rows_are p (serial_along p []) (parents rows)) ∙ length_from p (serial_along p []) (parents rows)
    ∙ length-map rows (λ (x : Row). x.parent)
