-- The uses of the rows of a run are for each of their cowns, and lie within the rows' ticks.
use Rattle.std.proofs.Common.{◌≡◌, ◌∙◌, ℕ, zero, suc, ◌+◌, Bool, true, false, cond, List, [], ◌∷◌, ◌++◌, length, map, take, drop, Option, Some, None, refl}
use Rattle.std.proofs.Common.{sym, ap, subst, arith, ℤ, length-append}
use Rattle.std.specs.Prelude.{◌==◌, slice_get}
use Rattle.std.specs.List.{sum_by}
use Rattle.std.specs.Option.{option_map, option_map_or}
use Rattle.std.proofs.Math.Seq.{drop-append-add}
use Rattle.std.proofs.lemmas.List.{length-map, take_all}
use Rattle.std.proofs.lemmas.List.Sums.{sum_by-cons}
use Rattle.boc_program.specs.declared.body.Body.{Body}
use Rattle.boc_program.specs.declared.program.Program.{Program}
use Rattle.boc_program.specs.declared.short.Input.{Input}
use Rattle.boc_program.specs.Meaning.{Meaning, meaning}
use Rattle.boc_program.specs.Rising.{rising}
use Rattle.boc_program.proofs.ChangedItems.{item_at, place_below}
use Rattle.boc_runs.specs.declared.rows.Row.{Row}
use Rattle.boc_runs.specs.Legal.{entries}
use Rattle.boc_runs.specs.Records.{IsRecord, IsRecordOf, Recorded}
use Rattle.boc_runs.specs.Rows.{cowns_of, ticks_of}
use Rattle.boc_runs.specs.Run.{Member, config_of}
use Rattle.boc_runs.proofs.RunsAreLegal.{run_twins}
use Rattle.boc_machine_laws.proofs.Members.{all_fit, means_there}
use Rattle.boc_uses.specs.declared.uses.Use.{Use}
use Rattle.boc_uses.specs.Uses.{cown_uses}
use Rattle.boc_uses.specs.Laws.{LiesWithin}
use Rattle.boc_uses.proofs.Within.{uses_lie_within}
use Rattle.boc_turns.specs.Turns.{AreUses, IsWithin, cowns_before, use_at, use_of}
use Rattle.boc_row_uses.specs.RowUses.{behaviour_uses, parameter_uses, row_uses}
use Rattle.boc_row_uses.proofs.InTurn.{all_ended}
use Rattle.boc_row_uses.proofs.Ticks.{run_ticks}

-- ---- uses that lie within ticks

-- a use, if there is one, lies within so many ticks
abbrev IfWithin : ℕ → Option Use → Type 0
IfWithin ticks None = Unit {0}
IfWithin ticks (Some u) = IsWithin ticks u

abbrev AllWithin : ℕ → List (Option Use) → Type 0
AllWithin ticks [] = Unit {0}
AllWithin ticks (u ∷ uses) = IfWithin ticks u × AllWithin ticks uses

if_within : (ticks : ℕ) (o : Option Use) → ((u : Use) → o ≡ Some u → LiesWithin ticks u) → IfWithin ticks o
if_within ticks None h = tt
if_within ticks (Some u) h = let w = h u refl in record { from_one = w.from_one; rises = w.rises; ends = w.ends }

all_within : (ticks : ℕ) (uses : List (Option Use)) → ((place : ℕ) (u : Use) → slice_get uses place ≡ Some (Some u) → LiesWithin ticks u) → AllWithin ticks uses
all_within ticks [] h = tt
all_within ticks (o ∷ uses) h = (if_within ticks o (λ u e. h 0 u (ap Some e)), all_within ticks uses (λ place u e. h (suc place) u e))

within_if : (ticks : ℕ) (same : Bool) (u v : Option Use) → IfWithin ticks u → IfWithin ticks v → IfWithin ticks (cond same u v)
within_if ticks true u v f g = f
within_if ticks false u v f g = g

-- the use at a cown is one of those
within_at : (ticks : ℕ) (cowns : List ℕ) (uses : List (Option Use)) (c : ℕ) → AllWithin ticks uses → IfWithin ticks (use_at cowns uses c)
within_at ticks [] uses c h = tt
within_at ticks (x ∷ cowns) [] c h = tt
within_at ticks (x ∷ cowns) (u ∷ uses) c h = within_if ticks (x == c) u (use_at cowns uses c) h.0 (within_at ticks cowns uses c h.1)

within_map : (ticks : ℕ) (cowns : List ℕ) (uses : List (Option Use)) (cs : List ℕ) → AllWithin ticks uses → AllWithin ticks (map (use_at cowns uses) cs)
within_map ticks cowns uses [] h = tt
within_map ticks cowns uses (c ∷ cs) h = (within_at ticks cowns uses c h, within_map ticks cowns uses cs h)

is_within : (ticks : ℕ) (o : Option Use) (u : Use) → IfWithin ticks o → o ≡ Some u → IsWithin ticks u
is_within ticks o u h e = subst (IfWithin ticks) e h

-- the uses of as many cowns, and then others
use_of_own : (cowns : List ℕ) (uses rest : List (Option Use)) (c : ℕ) → length uses ≡ length cowns → use_at cowns (uses ++ rest) c ≡ use_at cowns uses c
use_of_own [] uses rest c h = refl
use_of_own (x ∷ cowns) [] rest c h = absurd (omega (arith, h))
use_of_own (x ∷ cowns) (u ∷ uses) rest c h = ap (λ o. cond (x == c) u o) (use_of_own cowns uses rest c (omega (arith, h)))

-- ---- rows beside the behaviours of a run

-- a row has the cowns of its behaviour, and the behaviour's uses lie within the row's ticks
record Beside (p : Program) (x : Row) (m : Member) : Type 0 where
  cowns_are : x.cowns.items ≡ rising m.behaviour.cowns
  uses_within : AllWithin x.ticks (behaviour_uses p m.behaviour m.inputs)

abbrev AreBeside : Program → List Row → List Member → Type 0
AreBeside p [] [] = Unit {0}
AreBeside p (x ∷ rows) (m ∷ ms) = Beside p x m × AreBeside p rows ms
AreBeside p [] (m ∷ ms) = ⊥
AreBeside p (x ∷ rows) [] = ⊥

abbrev count_of : Row → ℕ
count_of x = length x.cowns.items

own_count : (p : Program) (x : Row) (m : Member) → Beside p x m → length (behaviour_uses p m.behaviour m.inputs) ≡ length x.cowns.items
own_count p x m b =
    length-map (rising m.behaviour.cowns) (use_at m.behaviour.cowns (parameter_uses p m.behaviour m.inputs))
    ∙ ap (length {A = ℕ}) (sym b.cowns_are)

whole : (p : Program) (rows : List Row) (ms : List Member) → AreBeside p rows ms → length (row_uses p ms) ≡ sum_by count_of rows
whole p [] [] h = refl
whole p [] (m ∷ ms) h = absurd h
whole p (x ∷ rows) [] h = absurd h
whole p (x ∷ rows) (m ∷ ms) h =
    length-append (behaviour_uses p m.behaviour m.inputs) (row_uses p ms)
    ∙ ap (λ (n : ℕ). n + length (row_uses p ms)) (own_count p x m h.0)
    ∙ ap (λ (n : ℕ). length x.cowns.items + n) (whole p rows ms h.1)
    ∙ sym (sum_by-cons count_of x rows)

before_later : (x : Row) (rows : List Row) (r : ℕ) → cowns_before (x ∷ rows) (suc r) ≡ length x.cowns.items + cowns_before rows r
before_later x rows r = sum_by-cons count_of x (take r rows)

within : (p : Program) (rows : List Row) (ms : List Member) → AreBeside p rows ms → (r c : ℕ) → IfWithin (ticks_of rows r) (use_of rows (row_uses p ms) r c)
within p [] [] h r c = tt
within p [] (m ∷ ms) h r c = absurd h
within p (x ∷ rows) [] h r c = absurd h
within p (x ∷ rows) (m ∷ ms) h zero c =
    let own = behaviour_uses p m.behaviour m.inputs in
    subst (IfWithin x.ticks) (sym (use_of_own x.cowns.items own (row_uses p ms) c (own_count p x m h.0)))
    (within_at x.ticks x.cowns.items own c h.0.uses_within)
within p (x ∷ rows) (m ∷ ms) h (suc r) c =
    let own = behaviour_uses p m.behaviour m.inputs in
    let passed : drop (cowns_before (x ∷ rows) (suc r)) (own ++ row_uses p ms) ≡ drop (cowns_before rows r) (row_uses p ms) =
    ap (λ (n : ℕ). drop n (own ++ row_uses p ms)) (before_later x rows r ∙ ap (λ (n : ℕ). n + cowns_before rows r) (sym (own_count p x m h.0)))
    ∙ drop-append-add own (row_uses p ms) (cowns_before rows r) in
    subst (λ (uses : List (Option Use)). IfWithin (ticks_of rows r) (use_at (cowns_of rows r) uses c)) (sym passed) (within p rows ms h.1 r c)

are_beside : (p : Program) (rows : List Row) (ms : List Member) → length rows ≡ length ms
    → ((r : ℕ) (x : Row) (m : Member) → slice_get rows r ≡ Some x → slice_get ms r ≡ Some m → Beside p x m) → AreBeside p rows ms
are_beside p [] [] same h = tt
are_beside p [] (m ∷ ms) same h = absurd (omega (arith, same))
are_beside p (x ∷ rows) [] same h = absurd (omega (arith, same))
are_beside p (x ∷ rows) (m ∷ ms) same h = (h 0 x m refl refl, are_beside p rows ms (omega (arith, same)) (λ r y n at_y at_n. h (suc r) y n at_y at_n))

fit_beside : (p : Program) (rows : List Row) (ms : List Member) → AreBeside p rows ms → AreUses rows (row_uses p ms)
fit_beside p rows ms h = record {
  whole = whole p rows ms h ∙ sym (ap (sum_by count_of) (take_all (length rows) rows (omega arith)));
  within = λ r c u e. is_within (ticks_of rows r) (use_of rows (row_uses p ms) r c) u (within p rows ms h r c) e;
}

-- ---- the rows of a run

-- the uses of a body's parameters, if it is there, lie within the ticks that it means
means_within : (o : Option Body) (args : List ℤ) (inputs : List Input) (means : Meaning) → option_map (λ body. meaning body args inputs) o ≡ Some means
    → AllWithin means.ticks (option_map_or (λ body. cown_uses body args inputs) o [])
means_within None args inputs means e = tt
means_within (Some body) args inputs means e =
    let same : meaning body args inputs ≡ means = (let q : Some (meaning body args inputs) ≡ Some means = e in cc) in
    subst (λ (m : Meaning). AllWithin m.ticks (cown_uses body args inputs)) same
    (all_within (meaning body args inputs).ticks (cown_uses body args inputs) (uses_lie_within body args inputs))

module _ (p : Program) (r : Recorded) (is : IsRecord r) (made : IsRecordOf p r) where
  abbrev ms : List Member
  ms = (config_of p r.events).members

  beside : (n : ℕ) (x : Row) (m : Member) → slice_get r.rows n ≡ Some x → slice_get ms n ≡ Some m → Beside p x m
  beside n x m at_x at_m =
      let twins = run_twins p r.events made.run.run in
      let e = item_at (entries r.events) n (omega (arith, place_below ms n m at_m, twins.same)) in
      let row = is.rows_are.each n e.0 x e.1 at_x in
      let means = means_there p m (all_fit p r.events made.run.run n m at_m) in
      let ticks : x.ticks ≡ means.0.ticks =
      row.ticks ∙ (run_ticks p r.events made.run.run).ticks_are n m e.0 means.0 at_m e.1 (all_ended p r.events made.run n m at_m) means.1 in
      record {
        cowns_are = row.cowns ∙ (twins.each n m e.0 at_m e.1).cowns;
        uses_within =
            within_map x.ticks m.behaviour.cowns (parameter_uses p m.behaviour m.inputs) (rising m.behaviour.cowns)
            (subst (λ (t : ℕ). AllWithin t (parameter_uses p m.behaviour m.inputs)) (sym ticks)
            (means_within (slice_get p.bodies m.behaviour.kind) m.behaviour.args m.inputs means.0 means.1));
      }

  pub uses_fit : AreUses r.rows (row_uses p ms)
  uses_fit = fit_beside p r.rows ms (are_beside p r.rows ms (is.rows_are.all ∙ (run_twins p r.events made.run.run).same) beside)
