-- How many events a legal log has: three for each row, less those that its rows have not had yet.
use Rattle.std.proofs.Common.{◌≡◌, ℕ, zero, suc, ◌+◌, ◌*◌, ◌<◌, ◌≤◌, List, [], ◌∷◌, ◌++◌, length, refl, sym, ap, subst, arith, length-append}
use Rattle.std.proofs.Math.ListN.{length-set}
use Rattle.std.specs.Prelude.{slice_get, slice_set, Option, Some, None}
use Rattle.arrayvec.specs.ArrayVec.{ArrayVec}
use Rattle.boc_program.specs.declared.body.EndStatus.{EndStatus}
use Rattle.boc_runs.specs.declared.event.Event.{Event}
use Rattle.boc_runs.specs.declared.event.Event.TheVariants.{Spawn, Start, End}
use Rattle.boc_runs.specs.declared.event.BrokenRule.TheVariants as rules
use Rattle.boc_program.specs.Changed.{changed}
use Rattle.boc_runs.specs.Lives.{Life, Pending, Running, Ended, MayStart}
use Rattle.boc_runs.specs.Legal.{Entry, pending, entries, after, after_all, life_of, entry_cowns, IsAllowed, IsLegalFrom, IsLegal, MayEnd}
use Rattle.boc_rules.proofs.Next.{living}

-- how many events a row has yet to have
abbrev pub left_one : Life → ℕ
left_one Pending = 2
left_one Running = 1
left_one Ended = 0

-- and how many all rows have
abbrev pub left : List Entry → ℕ
left [] = 0
left (entry ∷ entries) = left_one entry.life + left entries

left_set : (run : List Entry) (r : ℕ) (e v : Entry) → slice_get run r ≡ Some e → left (slice_set run r v) + left_one e.life ≡ left run + left_one v.life
left_set [] r e v g = absurd (let f : None ≡ Some e = g in cc)
left_set (x ∷ run) zero e v g =
    let f : Some x ≡ Some e = g in
    let h : x ≡ e = cc in omega (arith, ap (λ (z : Entry). left_one z.life) h)
left_set (x ∷ run) (suc r) e v g = omega (arith, left_set run r e v g)

left_push : (run : List Entry) (v : Entry) → left (run ++ (v ∷ [])) ≡ left run + left_one v.life
left_push [] v = omega arith
left_push (x ∷ run) v = omega (arith, left_push run v)

-- a row with this life has as many events yet to have
pub left_at : (run : List Entry) (r : ℕ) (e : Entry) → slice_get run r ≡ Some e → left_one e.life ≤ left run
left_at [] r e g = absurd (let f : None ≡ Some e = g in cc)
left_at (x ∷ run) zero e g =
    let f : Some x ≡ Some e = g in
    let h : x ≡ e = cc in omega (arith, ap (λ (z : Entry). left_one z.life) h)
left_at (x ∷ run) (suc r) e g = omega (arith, left_at run r e g)

-- the rows after an event have one event less to have, where its row is counted with three
abbrev Counts : List Entry → List Entry → Type 0
Counts rows later = left later + 1 + 3 * length rows ≡ 3 * length later + left rows

counts_set : (rows : List Entry) (r : ℕ) (e v : Entry) → slice_get rows r ≡ Some e → left_one e.life ≡ left_one v.life + 1 → Counts rows (slice_set rows r v)
counts_set rows r e v g one = omega (arith, left_set rows r e v g, length-set rows r v, one)

counts_push : (rows : List Entry) (parent offset : ℕ) (cowns : List ℕ) → Counts rows (rows ++ (pending parent offset cowns ∷ []))
counts_push rows parent offset cowns =
    let v = pending parent offset cowns in
    omega (arith, left_push rows v, length-append rows (v ∷ []))

counts_spawn : (rows : List Entry) (parent offset : ℕ) (cowns : List ℕ) (o : Option Entry) → slice_get rows parent ≡ o
    → Counts rows (changed rows parent (λ x. record x { last = offset }) o ++ (pending parent offset cowns ∷ []))
counts_spawn rows parent offset cowns None g = counts_push rows parent offset cowns
counts_spawn rows parent offset cowns (Some e) g =
    let v : Entry = record e { last = offset } in
    omega (arith, counts_push (slice_set rows parent v) parent offset cowns, left_set rows parent e v g, length-set rows parent v)

counts_after : (count : ℕ) (rows : List Entry) (event : Event) → IsAllowed count rows event → Counts rows (after rows event)
counts_after count rows (Spawn row parent offset cowns) a = counts_spawn rows parent offset cowns.items (slice_get rows parent) refl
counts_after count rows (Start row) a =
    let may : MayStart (life_of rows) (entry_cowns rows) row = a.keeps rules.StartNotAllowed in
    let e = living rows row Pending may.waits in
    let v : Entry = record e.0 { life = Running } in
    subst (Counts rows) (sym (ap (changed rows row (λ x. record x { life = Running })) e.1)) (counts_set rows row e.0 v e.1 (omega (arith, ap left_one e.2)))
counts_after count rows (End row ticks status written) a =
    let may : MayEnd rows row ticks written.items = a.keeps rules.EndNotAllowed in
    let e = living rows row Running may.runs in
    let v : Entry = record e.0 { life = Ended; ticks = ticks; status = status; written = written.items } in
    subst (Counts rows) (sym (ap (changed rows row (λ x. record x { life = Ended; ticks = ticks; status = status; written = written.items })) e.1))
    (counts_set rows row e.0 v e.1 (omega (arith, ap left_one e.2)))

counts_all : (count : ℕ) (rows : List Entry) (log : List Event) → IsLegalFrom count rows log
    → left (after_all rows log) + length log + 3 * length rows ≡ 3 * length (after_all rows log) + left rows
counts_all count rows [] l = omega arith
counts_all count rows (event ∷ log) l = omega (arith, counts_all count (after rows event) log l.1, counts_after count rows event l.0)

-- a legal log has three events for each row, less those that are left
pub counted : (count : ℕ) (log : List Event) → IsLegal count log → left (entries log) + length log ≡ 3 * length (entries log)
counted count log l = omega (arith, counts_all count [] log l)

-- a row that can start has an event left
pub start_left : (count : ℕ) (log : List Event) (row : ℕ) → IsLegal count log → IsAllowed count (entries log) (Start row)
    → length log < 3 * length (entries log)
start_left count log row l a =
    let rows = entries log in
    let may : MayStart (life_of rows) (entry_cowns rows) row = a.keeps rules.StartNotAllowed in
    let e = living rows row Pending may.waits in
    omega (arith, counted count log l, left_at rows row e.0 e.1, ap left_one e.2)

-- and so has one that can end
pub end_left : (count : ℕ) (log : List Event) (row ticks : ℕ) (status : EndStatus) (written : ArrayVec ℕ) → IsLegal count log
    → IsAllowed count (entries log) (End row ticks status written)
    → length log < 3 * length (entries log)
end_left count log row ticks status written l a =
    let rows = entries log in
    let may : MayEnd rows row ticks written.items = a.keeps rules.EndNotAllowed in
    let e = living rows row Running may.runs in
    omega (arith, counted count log l, left_at rows row e.0 e.1, ap left_one e.2)
