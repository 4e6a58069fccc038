-- The fronts of a layer can make their steps.
use Rattle.std.proofs.Common.{◌≡◌, ◌≢◌, ◌↔◌, ℕ, zero, suc, ◌+◌, ◌<◌, List, [], ◌∷◌, length, map, refl, sym, ◌∙◌, ap, subst, arith, ℤ}
use Rattle.std.specs.Prelude.{slice_get, slice_index_or, Some, None}
use Rattle.std.specs.List.{Contains, All}
use Rattle.std.proofs.lemmas.List.{length-map}
use Rattle.boc_program.specs.declared.program.Program.{Program}
use Rattle.boc_program.specs.Programs.{cown_count}
use Rattle.boc_program.proofs.RisingNumbers.{has_first}
use Rattle.boc_runs.specs.Serial.{serial_along}
use Rattle.boc_runs.proofs.Behaviours.{initial-length}
use Rattle.boc_machine_laws.proofs.Twins.{values_length}
use Rattle.boc_fronts.specs.Fronts as fronts
use Rattle.boc_closed_sets.specs.Covers.{Covers}
use Rattle.boc_front_rows.specs.declared.row.Front.{Front}
use Rattle.boc_front_rows.specs.Lists.{list_at}
use Rattle.boc_front_rows.specs.Rows.{Plain, plain, plains, AreLow}
use Rattle.boc_front_rows.specs.Seen.{shown, front_of}
use Rattle.boc_front_rows.proofs.Mapped.{at_mapped, has_mapped, mapped_at}
use Rattle.boc_all_ends.specs.Stepping.{CanStep, Grows}
use Rattle.boc_all_ends.specs.Spreading.{seen, AreKept, IsReady}
use Rattle.boc_all_ends.proofs.Seeing.{Lists, all_if, kept_on, same_list}

-- a front has as many live rows as are seen
pub same_many : (lists : Lists) (f : Front) → length (front_of lists f).live ≡ length f.live.items
same_many lists f = length-map (plains f.live.items) (shown lists) ∙ length-map f.live.items plain

-- a front of a layer is ready
pub ready : (p : Program) (lists : Lists) (rows : ℕ) (fs : List Front) (f : Front) → Covers p rows (seen lists fs)
    → AreKept lists rows fs → Contains fs f → IsReady p lists rows f
ready p lists rows fs f covers kept among =
    let x = covers.each (front_of lists f) (has_mapped (front_of lists) fs f among) in
    let stands = x.4 in
    record {
      kept = kept f among;
      low = λ i r is. all_if (length f.live.items) r.before
          (λ j h. omega (
            arith,
            stands.loosely.before_low i j (shown lists r) (at_mapped (shown lists) (plains f.live.items) i r is) h,
            same_many lists f,
          ));
      long = sym (ap (length {A = ℤ}) stands.loosely.values_are) ∙ values_length p (serial_along p []) x.0 ∙ initial-length p.cowns;
      some = λ i r is. stands.some i (shown lists r) (at_mapped (shown lists) (plains f.live.items) i r is);
    }

pub can_step : (p : Program) (lists : Lists) (rows : ℕ) (f : Front) (i : ℕ) (r : Plain) → IsReady p lists rows f
    → slice_get (plains f.live.items) i ≡ Some r → CanStep p lists f i
can_step p lists rows f i r h is = record {
  there = h.kept.there;
  low = h.low;
  long = h.long;
  row = r;
  is = is;
  some = h.some i r is;
}

-- a free row can make a step
pub can_try : (p : Program) (lists : Lists) (rows : ℕ) (f : Front) (i : ℕ) → IsReady p lists rows f → fronts.IsFree (front_of lists f) i
    → CanStep p lists f i
can_try p lists rows f i ready free =
    let r = mapped_at (shown lists) (plains f.live.items) i free.row free.is in
    can_step p lists rows f i r.0 ready r.1

-- a row is free if no row is before it
pub free_if : (lists : Lists) (f : Front) (i : ℕ) (r : Plain) → slice_get (plains f.live.items) i ≡ Some r → r.before ≡ []
    → fronts.IsFree (front_of lists f) i
free_if lists f i r is none = record {
  row = shown lists r;
  is = at_mapped (shown lists) (plains f.live.items) i r is;
  none = λ j low h. none_in (r.before) j none h;
}
  where
    none_in : (xs : List ℕ) (j : ℕ) → xs ≡ [] → Contains xs j → ⊥
    none_in xs j e h = omega (arith, ap (length {A = ℕ}) e, h.1)

-- and only then
pub not_free : (lists : Lists) (f : Front) (i : ℕ) (r : Plain) → AreLow (length f.live.items) (plains f.live.items)
    → slice_get (plains f.live.items) i ≡ Some r → fronts.IsFree (front_of lists f) i → length r.before ≡ 0
not_free lists f i r lows is free = cases r.before refl
  where
    low_at : (xs : List ℕ) (j : ℕ) → All (λ x. x < length f.live.items) xs → Contains xs j → j < length f.live.items
    low_at xs j all h = subst (λ z. z < length f.live.items) h.2 (all h.0 j h.1)

    same : shown lists r ≡ free.row
    same = (let g : Some (shown lists r) ≡ Some free.row = sym (at_mapped (shown lists) (plains f.live.items) i r is) ∙ free.is in cc)

    cases : (xs : List ℕ) → r.before ≡ xs → length r.before ≡ 0
    cases [] e = ap (length {A = ℕ}) e
    cases (j ∷ js) e =
        let h : Contains r.before j = subst (λ ys. Contains ys j) (sym e) (has_first j js) in
        absurd (free.none j
        (omega (arith, low_at r.before j (lows i r is) h, same_many lists f))
        (subst (λ (z : fronts.LiveRow). Contains z.before j) same h))

-- a front stays ready while lists are added
pub ready_on : (p : Program) (a b : Lists) (rows : ℕ) (f : Front) → Grows a b → IsReady p a rows f → IsReady p b rows f
ready_on p a b rows f g h = record {
  kept = kept_on a b rows f g h.kept;
  low = h.low;
  long = h.long;
  some = λ i r is e. h.some i r is (sym (same_list a b r.wishes g (h.kept.there i r is)) ∙ e);
}
