-- The rows of a complete legal log have the shape of a record's rows.
use Rattle.std.proofs.Common.{◌≡◌, ℕ, zero, suc, ◌<◌, ◌≤◌, List, [], ◌∷◌, length, refl, sym, ◌∙◌, ap, subst, arith}
use Rattle.std.specs.Prelude.{slice_get, Option, Some, All}
use Rattle.std.specs.Option.{option_map_or}
use Rattle.std.specs.List.Sorted.{IsStrictlyIncreasing}
use Rattle.boc_runs.specs.declared.rows.Row.{Row}
use Rattle.boc_program.specs.declared.limits.TheConstants.{MOST_COWNS}
use Rattle.boc_program.specs.Cowns.{AreAmong}
use Rattle.boc_runs.specs.Lives.{Life, Pending, Running, Ended, AreOver}
use Rattle.boc_runs.specs.Legal.{Entry, life_of}
use Rattle.boc_runs.specs.Records.{IsRowOf, AreRowsOf}
use Rattle.boc_runs.specs.Rows.{parent_of, offset_of, ticks_of, cowns_of, written_of, IsRows}
use Rattle.boc_rules.specs.SoFar.{over_one, over}
use Rattle.boc_rules.proofs.Lists.{one_got, got_at}
use Rattle.boc_rules.proofs.Well.{HasEnded, IsWell}
use Rattle.boc_rules.proofs.Next.{living}
use Rattle.boc_program.proofs.ChangedItems.{item_at}

-- row r of the record, with its entry
pub record IsAt (run : List Entry) (rows : List Row) (r : ℕ) : Type 0 where
  pub entry : Entry
  pub row : Row
  pub was : slice_get run r ≡ Some entry
  pub is : slice_get rows r ≡ Some row
  pub that : IsRowOf entry row

at : (run : List Entry) (rows : List Row) (r : ℕ) → AreRowsOf run rows → r < length rows → IsAt run rows r
at run rows r are less =
    let x = item_at rows r less in
    let e = item_at run r (omega (arith, are.all, less)) in
    record { entry = e.0; row = x.0; was = e.1; is = x.1; that = are.each r e.0 x.0 e.1 x.1 }

parent_at : (run : List Entry) (rows : List Row) (r : ℕ) (h : IsAt run rows r) → parent_of rows r ≡ h.entry.parent
parent_at run rows r h = ap (λ (o : Option Row). option_map_or (λ (x : Row). x.parent) o 0) h.is ∙ h.that.parent

offset_at : (run : List Entry) (rows : List Row) (r : ℕ) (h : IsAt run rows r) → offset_of rows r ≡ h.entry.offset
offset_at run rows r h = ap (λ (o : Option Row). option_map_or (λ (x : Row). x.offset) o 0) h.is ∙ h.that.offset

ticks_at : (run : List Entry) (rows : List Row) (r : ℕ) (h : IsAt run rows r) → ticks_of rows r ≡ h.entry.ticks
ticks_at run rows r h = ap (λ (o : Option Row). option_map_or (λ (x : Row). x.ticks) o 0) h.is ∙ h.that.ticks

cowns_at : (run : List Entry) (rows : List Row) (r : ℕ) (h : IsAt run rows r) → cowns_of rows r ≡ h.entry.cowns
cowns_at run rows r h = ap (λ (o : Option Row). option_map_or (λ (x : Row). x.cowns.items) o []) h.is ∙ h.that.cowns

written_at : (run : List Entry) (rows : List Row) (r : ℕ) (h : IsAt run rows r) → written_of rows r ≡ h.entry.written
written_at run rows r h = ap (λ (o : Option Row). option_map_or (λ (x : Row). x.written.items) o []) h.is ∙ h.that.written

-- a row of a run that is over
ended_in : (count : ℕ) (run : List Entry) (r : ℕ) (e : Entry) → IsWell count run → AreOver (length run) (life_of run) → slice_get run r ≡ Some e
    → r < length run → HasEnded e
ended_in count run r e w o g less =
    let x = living run r Ended (o.ended r less) in
    w.ended r e g (ap (λ (z : Entry). z.life) (one_got run r e x.0 g x.1) ∙ x.2)

pub is_rows : (count : ℕ) (run : List Entry) (rows : List Row) → count ≤ MOST_COWNS → IsWell count run → AreOver (length run) (life_of run) → AreRowsOf run rows
    → IsRows rows
is_rows count run rows few w o are = record {
  not_empty = omega (arith, o.some, are.all);
  not_many = omega (arith, w.few, are.all);
  cowns_rise = λ r less.
      let h = at run rows r are less in
      subst (λ (cs : List ℕ). IsStrictlyIncreasing cs) (sym (cowns_at run rows r h)) (w.cowned r h.entry h.was).rise;
  cowns_below = λ r less.
      let h = at run rows r are less in
      subst (λ (cs : List ℕ). All (λ c. c < MOST_COWNS) cs) (sym (cowns_at run rows r h))
      (λ k d inside. omega (arith, (w.cowned r h.entry h.was).below k d inside, few));
  written_own = λ r less.
      let h = at run rows r are less in
      let own = (ended_in count run r h.entry w o h.was (omega (arith, are.all, less))).own in
      subst (λ (cs : List ℕ). AreAmong cs (written_of rows r)) (sym (cowns_at run rows r h))
      (subst (AreAmong h.entry.cowns) (sym (written_at run rows r h)) own);
  main_parent = let h = at run rows 0 are (omega (arith, o.some, are.all)) in parent_at run rows 0 h ∙ (w.main h.entry h.was).parent;
  main_offset = let h = at run rows 0 are (omega (arith, o.some, are.all)) in offset_at run rows 0 h ∙ (w.main h.entry h.was).offset;
  main_cowns = let h = at run rows 0 are (omega (arith, o.some, are.all)) in cowns_at run rows 0 h ∙ (w.main h.entry h.was).cowns;
  parent_before = λ r more less.
      let h = at run rows r are less in
      subst (λ (p : ℕ). p < r) (sym (parent_at run rows r h)) (w.child r h.entry more h.was).before;
  offset_above = λ r more less.
      let h = at run rows r are less in
      subst (λ (p : ℕ). 0 < p) (sym (offset_at run rows r h)) (w.child r h.entry more h.was).above;
  offsets_rise = λ a b more less inside same.
      let g = at run rows a are (omega arith) in
      let h = at run rows b are inside in
      let rise = w.siblings a b g.entry h.entry more less g.was h.was (sym (parent_at run rows a g) ∙ same ∙ parent_at run rows b h) in
      omega (arith, offset_at run rows a g, offset_at run rows b h, rise);
  ticks_low = λ r less.
      let h = at run rows r are less in
      omega (arith, ticks_at run rows r h, (ended_in count run r h.entry w o h.was (omega (arith, are.all, less))).low);
  ticks_high = λ r less.
      let h = at run rows r are less in
      omega (arith, ticks_at run rows r h, (ended_in count run r h.entry w o h.was (omega (arith, are.all, less))).high);
  ticks_cover = λ r more less.
      let h = at run rows r are less in
      let c = w.child r h.entry more h.was in
      let p = at run rows (parent_of rows r) are (omega (arith, parent_at run rows r h, c.before, less)) in
      let one : c.spawner ≡ p.entry = one_got run (parent_of rows r) c.spawner p.entry
      (got_at run (parent_of rows r) h.entry.parent c.spawner (parent_at run rows r h) c.is) p.was in
      let t = ended_in count run (parent_of rows r) p.entry w o p.was (omega (arith, are.all, parent_at run rows r h, c.before, less)) in
      omega (arith, offset_at run rows r h, ticks_at run rows (parent_of rows r) p, c.reached, ap (λ (z : Entry). z.last) one, t.cover);
}

one_few : (l : Life) → over_one l ≤ 1
one_few Pending = omega arith
one_few Running = omega arith
one_few Ended = omega arith

-- All rows are over where as many are.
pub over_few : (run : List Entry) → over run ≤ length run
over_few [] = omega arith
over_few (e ∷ run) = omega (arith, over_few run, one_few e.life)

one_over : (l : Life) → over_one l ≡ 1 → l ≡ Ended
one_over Pending h = absurd (omega arith)
one_over Running h = absurd (omega arith)
one_over Ended h = refl

pub all_over : (run : List Entry) → over run ≡ length run → (r : ℕ) → r < length run → life_of run r ≡ Some Ended
all_over [] h r less = absurd (omega arith)
all_over (e ∷ run) h zero less =
    let one : over_one e.life ≡ 1 = omega (arith, h, over_few run, one_few e.life) in
    ap (λ (l : Life). Some l) (one_over e.life one)
all_over (e ∷ run) h (suc r) less = all_over run (omega (arith, h, over_few run, one_few e.life)) r (omega arith)

pub over_all : (run : List Entry) → ((r : ℕ) → r < length run → life_of run r ≡ Some Ended) → over run ≡ length run
over_all [] h = refl
over_all (e ∷ run) h =
    let first : Some e.life ≡ Some Ended = h 0 (omega arith) in
    let is : e.life ≡ Ended = cc in
    omega (arith, ap over_one is, over_all run (λ r less. h (suc r) (omega arith)))
