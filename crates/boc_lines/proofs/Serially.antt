-- The serial run of a program along rows, and what its rows are charged.
use Rattle.std.proofs.Common.{◌≡◌, ℕ, List, [], ◌∷◌, ◌++◌, Some, None, ℤ, refl, sym, ap, ◌∙◌, map, append-nil, append_assoc, ◌+◌, arith}
use Rattle.std.specs.Prelude.{Option, slice_get}
use Rattle.boc_program.specs.declared.body.Body.{Body}
use Rattle.boc_program.specs.declared.program.Program.{Program}
use Rattle.boc_program.specs.declared.short.Input.{Input}
use Rattle.boc_program.specs.Programs.{initial_values}
use Rattle.boc_program.specs.Syntax.{code_size}
use Rattle.boc_runs.specs.Serial.{Behaviour, SerialRow, Serial, inputs_of, after_outputs, meaning_if, next_behaviour, run_at_once, after_turn, after_turns, serial_along}
use Rattle.boc_lines.specs.Charges.{total}
use Rattle.boc_lines.specs.Replays.{bill_if, start_of, charges_of, values_after, charges_along}
use Rattle.boc_lines.specs.SerialRuns.{IsWished, AreWished, charges_of_row}
use Rattle.boc_lines.proofs.Agreeing.{body_agrees}

-- the rows that come next
abbrev pub rows_from : Program → Serial → List ℕ → List SerialRow
rows_from p s [] = []
rows_from p s (q ∷ qs) = run_at_once p s.values q (next_behaviour s.rows q) ∷ rows_from p (after_turn p s q) qs

pub rows_are : (p : Program) (s : Serial) (qs : List ℕ) → (after_turns p s qs).rows ≡ s.rows ++ rows_from p s qs
rows_are p s [] = sym (append-nil s.rows)
rows_are p s (q ∷ qs) =
    rows_are p (after_turn p s q) qs
    ∙ append_assoc s.rows (run_at_once p s.values q (next_behaviour s.rows q) ∷ []) (rows_from p (after_turn p s q) qs)

-- a row that was wished for runs on the values that its cowns have
row_true : (p : Program) (values : List ℤ) (q : ℕ) (o : Option Behaviour) → IsWished o
    → ((run_at_once p values q o).inputs ≡ inputs_of (run_at_once p values q o).behaviour.cowns values)
    × (after_outputs values (run_at_once p values q o).behaviour.cowns (run_at_once p values q o).means.outputs
    ≡ values_after p (run_at_once p values q o).behaviour values)
row_true p values q None h = absurd h
row_true p values q (Some b) h = (refl, refl)

charged_from : (p : Program) (s : Serial) (qs : List ℕ) → AreWished p s qs
    → map (charges_of_row p) (rows_from p s qs) ≡ charges_along p s.values (map (λ r. r.behaviour) (rows_from p s qs))
charged_from p s [] h = refl
charged_from p s (q ∷ qs) h =
    let row : SerialRow = run_at_once p s.values q (next_behaviour s.rows q) in
    let own = row_true p s.values q (next_behaviour s.rows q) h.0 in
    ap (λ cs. cs ∷ map (charges_of_row p) (rows_from p (after_turn p s q) qs)) (ap (charges_of p row.behaviour) own.0)
    ∙ ap (λ rest. charges_of p row.behaviour (inputs_of row.behaviour.cowns s.values) ∷ rest)
    (charged_from p (after_turn p s q) qs h.1
    ∙ ap (λ values. charges_along p values (map (λ r. r.behaviour) (rows_from p (after_turn p s q) qs))) own.1)

pub charged_serially : (p : Program) (parents : List ℕ) → AreWished p (serial_along p []) parents
    → map (charges_of_row p) (serial_along p parents).rows ≡ charges_along p (initial_values p.cowns) (map (λ r. r.behaviour) (serial_along p parents).rows)
charged_serially p parents h =
    ap (map (charges_of_row p)) (rows_are p (serial_along p []) parents) ∙ charged_from p (serial_along p []) parents h
    ∙ ap (λ rows. charges_along p (initial_values p.cowns) (map (λ r. r.behaviour) rows)) (sym (rows_are p (serial_along p []) parents))

-- ---- ticks

bill_total : (first : ℕ) (o : Option Body) (args : List ℤ) (inputs : List Input) → total (bill_if first o args inputs) ≡ (meaning_if o args inputs).ticks
bill_total first None args inputs = refl
bill_total first (Some body) args inputs = (body_agrees (first + 1 + code_size body.block) first body args inputs (omega arith)).0

row_total : (p : Program) (values : List ℤ) (q : ℕ) (o : Option Behaviour) → IsWished o
    → total (charges_of_row p (run_at_once p values q o)) ≡ (run_at_once p values q o).means.ticks
row_total p values q None h = absurd h
row_total p values q (Some b) h = bill_total (start_of p.bodies b.kind) (slice_get p.bodies b.kind) b.args (inputs_of b.cowns values)

totals_from : (p : Program) (s : Serial) (qs : List ℕ) → AreWished p s qs
    → map total (map (charges_of_row p) (rows_from p s qs)) ≡ map (λ r. r.means.ticks) (rows_from p s qs)
totals_from p s [] h = refl
totals_from p s (q ∷ qs) h =
    ap (λ n. n ∷ map total (map (charges_of_row p) (rows_from p (after_turn p s q) qs))) (row_total p s.values q (next_behaviour s.rows q) h.0)
    ∙ ap (λ ns. (run_at_once p s.values q (next_behaviour s.rows q)).means.ticks ∷ ns) (totals_from p (after_turn p s q) qs h.1)

pub totals_serially : (p : Program) (parents : List ℕ) → AreWished p (serial_along p []) parents
    → map total (map (charges_of_row p) (serial_along p parents).rows) ≡ map (λ r. r.means.ticks) (serial_along p parents).rows
totals_serially p parents h =
    ap (λ rows. map total (map (charges_of_row p) rows)) (rows_are p (serial_along p []) parents) ∙ totals_from p (serial_along p []) parents h
    ∙ ap (map (λ r. r.means.ticks)) (sym (rows_are p (serial_along p []) parents))
