-- What a judge's answer says of a row's life.
use Rattle.std.proofs.Common.{◌≡◌, ℕ, ◌<◌, ◌≤◌, ◌↔◌, List, [], length, refl, sym, ◌∙◌, ap, subst, inl, inr, arith}
use Rattle.std.proofs.Common.{rules as usual}
use Rattle.std.proofs.lemmas.List.Elements.{All-nil}
use Rattle.std.specs.Prelude.{Result, Ok, Err, Option, Some, Bool, true, false, not, IsTrue, is_ok, slice_get}
use Rattle.std.specs.List.{Contains}
use Rattle.boc_program.proofs.ChangedItems.{item_at, place_below, none_past}
use Rattle.std.specs.Option.{option_map_or}
use Rattle.arrayvec.specs.ArrayVec.{ArrayVec}
use Rattle.boc_program.specs.declared.body.EndStatus.TheVariants as statuses
use Rattle.boc_program.specs.declared.limits.TheConstants.{MOST_TICKS}
use Rattle.boc_program.specs.Cowns.{AreAmong}
use Rattle.boc_runs.specs.declared.event.Event.{Event}
use Rattle.boc_runs.specs.declared.event.Event.TheVariants.{Start, End}
use Rattle.boc_runs.specs.declared.event.BrokenRule.{BrokenRule}
use Rattle.boc_runs.specs.declared.event.BrokenRule.TheVariants as rules
use Rattle.boc_runs.specs.declared.rows.Row.{Row}
use Rattle.boc_runs.specs.Lives.{Life, Pending, Running, MayStart}
use Rattle.boc_runs.specs.Legal.{Entry, life_of, entry_cowns, KeepsRule, MayEnd}
use Rattle.boc_runs.specs.Records.{AreRowsOf}
use Rattle.boc_rules.specs.Course.{AreLegal}
use Rattle.boc_rules.specs.Judges.{Judges}
use Rattle.boc_rules.proofs.Next.{living, life_at, last_at, life_cases, not_pending_running, not_pending_ended}
use Rattle.boc_rules.proofs.Judging.{well_rows}
use Rattle.boc_stalled.proofs.Sound.{IsSound, sound_rows}

start_keeps : (count : ℕ) (rows : List Entry) (r : ℕ) (rule : BrokenRule) → MayStart (life_of rows) (entry_cowns rows) r → KeepsRule count rows (Start r) rule
start_keeps count rows r rules.NumberNotNext may = tt
start_keeps count rows r rules.TooMany may = tt
start_keeps count rows r rules.ParentNotRunning may = tt
start_keeps count rows r rules.Offset may = tt
start_keeps count rows r rules.Cowns may = tt
start_keeps count rows r rules.StartNotAllowed may = may
start_keeps count rows r rules.EndNotAllowed may = tt

-- a start is allowed where its row may start
pub start_judged : (count : ℕ) (rows : List Entry) (r : ℕ) (result : Result (Unit {0}) BrokenRule) → Judges count rows (Start r) result
    → IsTrue (is_ok result) ↔ MayStart (life_of rows) (entry_cowns rows) r
start_judged count rows r (Ok u) j = ((λ _. j.keeps rules.StartNotAllowed), (λ _. refl))
start_judged count rows r (Err rule) j = ((λ f. absurd (let g : false ≡ true = f in cc)), (λ may. absurd (j.broken (start_keeps count rows r rule may))))

-- the end of a row after the most ticks, with no cown written
abbrev pub last_end : ℕ → ArrayVec ℕ → Event
last_end r none = End r MOST_TICKS statuses.Done none

end_keeps : (count : ℕ) (rows : List Entry) (r : ℕ) (none : ArrayVec ℕ) (rule : BrokenRule) → MayEnd rows r MOST_TICKS none.items
    → KeepsRule count rows (last_end r none) rule
end_keeps count rows r none rules.NumberNotNext may = tt
end_keeps count rows r none rules.TooMany may = tt
end_keeps count rows r none rules.ParentNotRunning may = tt
end_keeps count rows r none rules.Offset may = tt
end_keeps count rows r none rules.Cowns may = tt
end_keeps count rows r none rules.StartNotAllowed may = tt
end_keeps count rows r none rules.EndNotAllowed may = may

none_among : (own none : List ℕ) → none ≡ [] → AreAmong own none
none_among own none e = subst (AreAmong own) (sym e) (record { rise = search usual; own = All-nil (λ (c : ℕ). Contains own c) })

may_end : (cowns : ℕ) (rows : List Entry) (r : ℕ) (none : List ℕ) → AreLegal cowns rows → none ≡ [] → life_of rows r ≡ Some Running
    → MayEnd rows r MOST_TICKS none
may_end cowns rows r none l e runs =
    let h = living rows r Running runs in
    let s : IsSound h.0 = (sound_rows cowns rows l).each r h.0 h.1 in
    record {
      runs = runs;
      low = omega arith;
      high = omega arith;
      covers = subst (λ (n : ℕ). n ≤ MOST_TICKS) (sym (last_at rows r h.0 h.1)) s.short;
      own = none_among (entry_cowns rows r) none e;
    }

-- such an end is allowed where its row runs
pub end_judged : (cowns : ℕ) (rows : List Entry) (r : ℕ) (none : ArrayVec ℕ) (result : Result (Unit {0}) BrokenRule) → AreLegal cowns rows → none.items ≡ []
    → Judges cowns rows (last_end r none) result → IsTrue (is_ok result) ↔ (life_of rows r ≡ Some Running)
end_judged cowns rows r none (Ok u) l e j = ((λ _. (j.keeps rules.EndNotAllowed).runs), (λ _. refl))
end_judged cowns rows r none (Err rule) l e j =
    ((λ f. absurd (let g : false ≡ true = f in cc)), (λ runs. absurd (j.broken (end_keeps cowns rows r none rule (may_end cowns rows r none.items l e runs)))))

-- a row with no ticks that doesn't run is pending
pub is_pending_row : (cowns : ℕ) (run : List Entry) (rows : List Row) (r : ℕ) (row : Row) → AreLegal cowns run → AreRowsOf run rows
    → slice_get rows r ≡ Some row → row.ticks ≡ 0 → (life_of run r ≡ Some Running → ⊥) → life_of run r ≡ Some Pending
is_pending_row cowns run rows r row l are at none runs =
    let x = item_at run r (omega (arith, are.all, place_below rows r row at)) in
    let i = are.each r x.0 row x.1 at in
    let life = life_at run r x.0 x.1 in
    elim (life_cases x.0.life) [
      | inl p ↦ life ∙ ap (λ (l : Life). Some l) p
      | inr p ↦ elim p [
        | inl q ↦ absurd (runs (life ∙ ap (λ (l : Life). Some l) q))
        | inr q ↦ absurd (omega (arith, (((well_rows cowns run l).ended r x.0 x.1 q).low), i.ticks, none))
      ]
    ]

-- and a pending row is there, has no ticks and doesn't run
pub pending_row_is : (cowns : ℕ) (run : List Entry) (rows : List Row) (r : ℕ) (row : Row) → AreLegal cowns run → AreRowsOf run rows
    → slice_get rows r ≡ Some row → life_of run r ≡ Some Pending → (row.ticks ≡ 0) × (life_of run r ≡ Some Running → ⊥)
pending_row_is cowns run rows r row l are at waits =
    let h = living run r Pending waits in
    let s : IsSound h.0 = (sound_rows cowns run l).each r h.0 h.1 in (
      (are.each r h.0 row h.1 at).ticks ∙ s.unended (λ f. not_pending_ended (sym h.2 ∙ f)),
      (λ runs. let f : Some Pending ≡ Some Running = sym waits ∙ runs in not_pending_running cc),
    )

-- a row that isn't there isn't pending
pub none_pending : (run : List Entry) (rows : List Row) (r : ℕ) → AreRowsOf run rows → length rows ≤ r → life_of run r ≡ Some Pending → ⊥
none_pending run rows r are past waits =
    let h = living run r Pending waits in
    omega (arith, are.all, past, place_below run r h.0 h.1)

-- no row runs where none does of those that are there
pub none_of_all : (run : List Entry) (n : ℕ) → n ≡ length run → ((r : ℕ) → r < n → life_of run r ≡ Some Running → ⊥) → (r : ℕ)
    → life_of run r ≡ Some Running → ⊥
none_of_all run n all none r runs =
    let h = living run r Running runs in
    none r (omega (arith, all, place_below run r h.0 h.1)) runs

-- a row that isn't there has no cowns
pub no_cowns : (run : List Entry) (r : ℕ) → length run ≤ r → entry_cowns run r ≡ []
no_cowns run r past = ap (λ (o : Option Entry). option_map_or (λ (x : Entry). x.cowns) o []) (none_past run r past)

-- what a negation says
pub not_true : (b : Bool) → IsTrue (not b) → IsTrue b → ⊥
not_true true f e = let g : false ≡ true = f in cc
not_true false f e = let g : false ≡ true = e in cc

pub true_not : (b : Bool) → (IsTrue b → ⊥) → IsTrue (not b)
true_not true n = absurd (n refl)
true_not false n = refl
