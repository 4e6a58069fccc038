-- The first version spells a record exactly where each row wrote all of its cowns.
use Rattle.std.proofs.Common.{◌≡◌, ◌≢◌, ◌⊎◌, ◌↔◌, ℕ, ◌<◌, List, [], ◌∷◌, ◌++◌, length, refl, sym, ◌∙◌, ap, subst, inl, inr, arith}
use Rattle.std.specs.Prelude.{slice_get, slice_set, Option, Some, None}
use Rattle.std.specs.Option.{option_map_or}
use Rattle.std.proofs.lemmas.Option.{slice_get_within}
use Rattle.std.proofs.lemmas.Bool.{cases_eq}
use Rattle.boc_runs.specs.declared.event.Event.{Event}
use Rattle.boc_runs.specs.declared.event.Event.TheVariants.{Spawn, Start, End}
use Rattle.boc_runs.specs.declared.event.BrokenRule.TheVariants as rules
use Rattle.boc_runs.specs.declared.rows.Row.{Row}
use Rattle.boc_program.specs.Changed.{changed}
use Rattle.boc_runs.specs.Lives.{Life, Pending, Running, Ended, MayStart}
use Rattle.boc_runs.specs.Legal.{Entry, pending, entries, after, after_all, entry_cowns, life_of, MayEnd, IsAllowed, IsLegalFrom}
use Rattle.boc_runs.specs.Records.{Recorded, IsRecord}
use Rattle.boc_runs.specs.Rows.{cowns_of, written_of}
use Rattle.boc_record.specs.RecordTexts.{First, Second, IsSpelt, AreSpelt}
use Rattle.boc_program.proofs.ChangedItems.{set_other, item_at, front_item}
use Rattle.boc_rules.proofs.Lists.{got_set, set_same, got_push, one_got, got_at}
use Rattle.boc_rules.proofs.Next.{living, life_at, cowns_at, not_pending_ended, not_running_ended}
use Rattle.boc_record.specs.Laws.{HasWrittenAll}

-- ---- where all is spelt, each row that is over wrote all of its cowns

abbrev Full : List Entry → Type 0
Full rows = (r : ℕ) (e : Entry) → slice_get rows r ≡ Some e → e.life ≡ Ended → e.written ≡ e.cowns

full_set : (rows : List Entry) (r : ℕ) (v : Entry) → Full rows → (v.life ≡ Ended → v.written ≡ v.cowns) → Full (slice_set rows r v)
full_set rows r v full new = λ k x g over.
    elim (got_set rows r k v x g) [
      | inl p ↦ subst (λ (z : Entry). z.life ≡ Ended → z.written ≡ z.cowns) p.1 new over
      | inr p ↦ full k x p.1 over
    ]

full_push : (rows : List Entry) (parent offset : ℕ) (cowns : List ℕ) → Full rows → Full (rows ++ pending parent offset cowns ∷ [])
full_push rows parent offset cowns full = λ k x g over.
    elim (got_push rows k (pending parent offset cowns) x g) [
      | inl p ↦ full k x p over
      | inr p ↦ absurd (not_pending_ended (ap (λ (z : Entry). z.life) p.1 ∙ over))
    ]

full_spawn : (rows : List Entry) (parent offset : ℕ) (cowns : List ℕ) (o : Option Entry) → slice_get rows parent ≡ o → Full rows
    → Full (changed rows parent (λ x. record x { last = offset }) o ++ pending parent offset cowns ∷ [])
full_spawn rows parent offset cowns None g full = full_push rows parent offset cowns full
full_spawn rows parent offset cowns (Some e) g full =
    full_push (slice_set rows parent (record e { last = offset })) parent offset cowns
    (full_set rows parent (record e { last = offset }) full (λ over. full parent e g over))

full_after : (count : ℕ) (rows : List Entry) (event : Event) → IsAllowed count rows event → IsSpelt First rows event → Full rows → Full (after rows event)
full_after count rows (Spawn row parent offset cowns) a s full = full_spawn rows parent offset cowns.items (slice_get rows parent) refl full
full_after count rows (Start row) a s full =
    let may : MayStart (life_of rows) (entry_cowns rows) row = a.keeps rules.StartNotAllowed in
    let e = living rows row Pending may.waits in
    subst Full (sym (ap (changed rows row (λ x. record x { life = Running })) e.1))
    (full_set rows row (record e.0 { life = Running }) full (λ over. absurd (not_running_ended over)))
full_after count rows (End row ticks status written) a s full =
    let may : MayEnd rows row ticks written.items = a.keeps rules.EndNotAllowed in
    let e = living rows row Running may.runs in
    let v : Entry = record e.0 { life = Ended; ticks = ticks; status = status; written = written.items } in
    subst Full (sym (ap (changed rows row (λ x. record x { life = Ended; ticks = ticks; status = status; written = written.items })) e.1))
    (full_set rows row v full (λ over. s ∙ cowns_at rows row e.0 e.1))

full_all : (count : ℕ) (rows : List Entry) (log : List Event) → IsLegalFrom count rows log → AreSpelt First rows log → Full rows → Full (after_all rows log)
full_all count rows [] l s full = full
full_all count rows (event ∷ log) l s full = full_all count (after rows event) log l.1 s.1 (full_after count rows event l.0 s.0 full)

-- ---- a row that is over stays as it is

record IsAsOver (rows : List Entry) (r : ℕ) (e : Entry) : Type 0 where
  later : Entry
  is : slice_get rows r ≡ Some later
  over : later.life ≡ Ended
  written : later.written ≡ e.written
  cowns : later.cowns ≡ e.cowns

other_stays : (rows : List Entry) (r row : ℕ) (e v : Entry) → slice_get rows r ≡ Some e → e.life ≡ Ended → r ≢ row → IsAsOver (slice_set rows row v) r e
other_stays rows r row e v g over n = record { later = e; is = set_other rows row r v n ∙ g; over = over; written = refl; cowns = refl }

not_that : (rows : List Entry) (r row : ℕ) (e f : Entry) (l : Life) → (l ≡ Ended → ⊥) → slice_get rows r ≡ Some e → e.life ≡ Ended → slice_get rows row ≡ Some f
    → f.life ≡ l → r ≢ row
not_that rows r row e f l n g over h life same =
    let one : e ≡ f = one_got rows r e f g (got_at rows r row f same h) in
    n (sym life ∙ sym (ap (λ (z : Entry). z.life) one) ∙ over)

pushed_stays : (rows : List Entry) (r : ℕ) (e v : Entry) → IsAsOver rows r e → IsAsOver (rows ++ v ∷ []) r e
pushed_stays rows r e v h = record {
  later = h.later;
  is = front_item rows v r (slice_get_within rows r h.later h.is) ∙ h.is;
  over = h.over;
  written = h.written;
  cowns = h.cowns;
}

itself : (rows : List Entry) (r : ℕ) (e : Entry) → slice_get rows r ≡ Some e → e.life ≡ Ended → IsAsOver rows r e
itself rows r e g over = record { later = e; is = g; over = over; written = refl; cowns = refl }

parent_stays : (rows : List Entry) (r parent offset : ℕ) (e p : Entry) → slice_get rows r ≡ Some e → e.life ≡ Ended → slice_get rows parent ≡ Some p
    → (r ≡ parent) ⊎ (r ≢ parent)
    → IsAsOver (slice_set rows parent (record p { last = offset })) r e
parent_stays rows r parent offset e p g over h (inl same) =
    let v : Entry = record p { last = offset } in
    let one : p ≡ e = one_got rows r p e (got_at rows r parent p same h) g in record {
      later = v;
      is = got_at (slice_set rows parent v) r parent v same (set_same rows parent v p h);
      over = ap (λ (z : Entry). z.life) one ∙ over;
      written = ap (λ (z : Entry). z.written) one;
      cowns = ap (λ (z : Entry). z.cowns) one;
    }
parent_stays rows r parent offset e p g over h (inr n) = other_stays rows r parent e (record p { last = offset }) g over n

spawn_stays : (rows : List Entry) (r parent offset : ℕ) (cowns : List ℕ) (e : Entry) (o : Option Entry) → slice_get rows r ≡ Some e → e.life ≡ Ended
    → slice_get rows parent ≡ o
    → IsAsOver (changed rows parent (λ x. record x { last = offset }) o ++ pending parent offset cowns ∷ []) r e
spawn_stays rows r parent offset cowns e None g over h = pushed_stays rows r e (pending parent offset cowns) (itself rows r e g over)
spawn_stays rows r parent offset cowns e (Some p) g over h =
    pushed_stays (slice_set rows parent (record p { last = offset })) r e (pending parent offset cowns)
    (parent_stays rows r parent offset e p g over h (cases_eq r parent))

stays_after : (count : ℕ) (rows : List Entry) (event : Event) (r : ℕ) (e : Entry) → IsAllowed count rows event → slice_get rows r ≡ Some e → e.life ≡ Ended
    → IsAsOver (after rows event) r e
stays_after count rows (Spawn row parent offset cowns) r e a g over = spawn_stays rows r parent offset cowns.items e (slice_get rows parent) g over refl
stays_after count rows (Start row) r e a g over =
    let may : MayStart (life_of rows) (entry_cowns rows) row = a.keeps rules.StartNotAllowed in
    let f = living rows row Pending may.waits in
    subst (λ (run : List Entry). IsAsOver run r e) (sym (ap (changed rows row (λ x. record x { life = Running })) f.1))
    (other_stays rows r row e (record f.0 { life = Running }) g over (not_that rows r row e f.0 Pending not_pending_ended g over f.1 f.2))
stays_after count rows (End row ticks status written) r e a g over =
    let may : MayEnd rows row ticks written.items = a.keeps rules.EndNotAllowed in
    let f = living rows row Running may.runs in
    subst (λ (run : List Entry). IsAsOver run r e) (sym (ap
    (changed rows row (λ x. record x { life = Ended; ticks = ticks; status = status; written = written.items })) f.1))
    (other_stays rows r row e (record f.0 { life = Ended; ticks = ticks; status = status; written = written.items }) g over
    (not_that rows r row e f.0 Running not_running_ended g over f.1 f.2))

stays : (count : ℕ) (rows : List Entry) (log : List Event) (r : ℕ) (e : Entry) → IsLegalFrom count rows log → slice_get rows r ≡ Some e → e.life ≡ Ended
    → IsAsOver (after_all rows log) r e
stays count rows [] r e l g over = itself rows r e g over
stays count rows (event ∷ log) r e l g over =
    let one = stays_after count rows event r e l.0 g over in
    let all = stays count (after rows event) log r one.later l.1 one.is one.over in
    record { later = all.later; is = all.is; over = all.over; written = all.written ∙ one.written; cowns = all.cowns ∙ one.cowns }

-- ---- where each row wrote all of its cowns in the end, all is spelt

abbrev AllWrote : List Entry → Type 0
AllWrote rows = (r : ℕ) (e : Entry) → slice_get rows r ≡ Some e → e.written ≡ e.cowns

spelt_first : (count : ℕ) (rows : List Entry) (event : Event) (log : List Event) → IsAllowed count rows event → IsLegalFrom count (after rows event) log
    → AllWrote (after_all (after rows event) log) → IsSpelt First rows event
spelt_first count rows (Spawn row parent offset cowns) log a l all = tt
spelt_first count rows (Start row) log a l all = tt
spelt_first count rows (End row ticks status written) log a l all =
    let may : MayEnd rows row ticks written.items = a.keeps rules.EndNotAllowed in
    let e = living rows row Running may.runs in
    let v : Entry = record e.0 { life = Ended; ticks = ticks; status = status; written = written.items } in
    let next = after rows (End row ticks status written) in
    let at : slice_get next row ≡ Some v = ap (λ (run : List Entry). slice_get run row)
    (ap (changed rows row (λ x. record x { life = Ended; ticks = ticks; status = status; written = written.items })) e.1) ∙ set_same rows row v e.0 e.1 in
    let last = stays count next log row v l at refl in
    sym last.written ∙ all row last.later last.is ∙ last.cowns ∙ sym (cowns_at rows row e.0 e.1)

spelt_all : (count : ℕ) (rows : List Entry) (log : List Event) → IsLegalFrom count rows log → AllWrote (after_all rows log) → AreSpelt First rows log
spelt_all count rows [] l all = tt
spelt_all count rows (event ∷ log) l all = (spelt_first count rows event log l.0 l.1 all, spelt_all count (after rows event) log l.1 all)

-- ---- the rows of a record

row_written : (rows : List Row) (r : ℕ) (x : Row) → slice_get rows r ≡ Some x → written_of rows r ≡ x.written.items
row_written rows r x g = ap (λ (o : Option Row). option_map_or (λ (y : Row). y.written.items) o []) g

row_cowns : (rows : List Row) (r : ℕ) (x : Row) → slice_get rows r ≡ Some x → cowns_of rows r ≡ x.cowns.items
row_cowns rows r x g = ap (λ (o : Option Row). option_map_or (λ (y : Row). y.cowns.items) o []) g

over_there : (run : List Entry) (r : ℕ) (e : Entry) → slice_get run r ≡ Some e → life_of run r ≡ Some Ended → e.life ≡ Ended
over_there run r e g h = let same : Some e.life ≡ Some Ended = sym (life_at run r e g) ∙ h in cc

pub first_spells : (r : Recorded) → IsRecord r → AreSpelt First [] r.events ↔ HasWrittenAll r.rows
first_spells r is =
    let run = entries r.events in (
      λ s. λ k less.
          let x = item_at r.rows k less in
          let e = item_at run k (omega (arith, is.rows_are.all, less)) in
          let that = is.rows_are.each k e.0 x.0 e.1 x.1 in
          let over = over_there run k e.0 e.1 (is.complete.ended k (omega (arith, is.rows_are.all, less))) in
          let full = full_all r.cowns [] r.events is.legal s (λ k e g over. absurd (let f : None ≡ Some e = g in cc)) in
          row_written r.rows k x.0 x.1 ∙ that.written ∙ full k e.0 e.1 over ∙ sym that.cowns ∙ sym (row_cowns r.rows k x.0 x.1),
      λ all. spelt_all r.cowns [] r.events is.legal (λ k e g.
          let less : k < length r.rows = omega (arith, is.rows_are.all, slice_get_within run k e g) in
          let x = item_at r.rows k less in
          let that = is.rows_are.each k e x.0 g x.1 in
          sym that.written ∙ sym (row_written r.rows k x.0 x.1) ∙ all k less ∙ row_cowns r.rows k x.0 x.1 ∙ that.cowns),
    )

-- the second version leaves nothing out
pub second_spells : (rows : List Entry) (log : List Event) → AreSpelt Second rows log
second_spells rows [] = tt
second_spells rows (event ∷ log) = (tt, second_spells (after rows event) log)
