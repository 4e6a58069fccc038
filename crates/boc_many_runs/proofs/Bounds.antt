-- No plan of a record's rows that is made ends late.
use Rattle.std.proofs.Common.{◌≡◌, ℕ, zero, suc, ◌*◌, ◌<◌, ◌≤◌, ◌^◌, List, length, map, arith, refl, Option, Some, None}
use Rattle.std.specs.List.{range_with_len}
use Rattle.std.proofs.Math.Nat.{div-le_self}
use Rattle.std.proofs.lemmas.List.FromFn.{get_or-map-range_with_len, length-map-range_with_len}
use Rattle.boc_program.specs.declared.limits.TheConstants.{MOST_ROWS, MOST_TICKS}
use Rattle.boc_runs.specs.declared.rows.Row.{Row}
use Rattle.boc_runs.specs.Rows.{IsRows, offset_of, ticks_of}
use Rattle.boc_plans.specs.declared.sharing.Sharing.{Sharing}
use Rattle.boc_plans.specs.Greedy.{IsSpan}
use Rattle.boc_plans.specs.Plans.{Keeps, start_of, work_of}
use Rattle.boc_plans.specs.Seen.{seen}
use Rattle.boc_plans.specs.Sweeps.{IsGreedyEnd}
use Rattle.boc_plans.proofs.Seeing.{rows_seen}
use Rattle.boc_greedy.proofs.Bound.{end_within, greedy_close, work_high}
use Rattle.boc_remedies.specs.declared.ends.Ends.{Ends}
use Rattle.boc_remedies.specs.Ends.{AreEnds, IsEndFor, judged}

module _ (rows : List Row) (hr : IsRows rows) where
  -- a plan in which each row has as much time as any may take
  abbrev pub slots : List ℕ
  slots = map (λ r. r * MOST_TICKS) (range_with_len 0 (length rows))

  slot_at : (r : ℕ) → r < length rows → start_of slots r ≡ r * MOST_TICKS
  slot_at r low = get_or-map-range_with_len (λ r. r * MOST_TICKS) 0 (length rows) r r 0 low (omega arith)

  slots_keep : Keeps rows slots
  slots_keep = record {
    whole = length-map-range_with_len (λ r. r * MOST_TICKS) 0 (length rows);
    spawned = λ a b child.
        let below : a < b = (let q = hr.parent_before b child.not_main child.there in omega (arith, q, child.parent)) in
        let own : offset_of rows b ≤ ticks_of rows a = rw child.parent at (hr.ticks_cover b child.not_main child.there) in
        omega (arith, slot_at a (omega (arith, below, child.there)), slot_at b child.there, own, below, hr.ticks_high a (omega (arith, below, child.there)));
    in_order = λ a b there o.
        omega (arith, slot_at a (omega (arith, o.before, there)), slot_at b there, o.before, hr.ticks_high a (omega (arith, o.before, there)));
  }

  pub span_low : (span : ℕ) → IsSpan rows span → span ≤ MOST_ROWS * MOST_TICKS
  span_low span s =
      let (r, there, is) = s.ends.reached in
      omega (arith, is, s.earliest.least slots slots_keep r there, slot_at r there, hr.ticks_high r there, hr.not_many, there)

  greedy_low : (p end : ℕ) → IsGreedyEnd rows p end → (span : ℕ) → IsSpan rows span → end < 2 ^ 63
  greedy_low zero end g span s =
      let (r, there, is) = g.ends.reached in
      let free = (g.greedy.at (start_of g.plan r)).free r there refl in
      absurd (omega (arith, free.below))
  greedy_low (suc q) end g span s =
      let some : 0 < suc q = omega arith in
      let close = greedy_close rows hr (suc q) some g.plan g.workers g.greedy end g.ends span s in
      omega (arith, end_within (suc q) (work_of rows) span end some close, div-le_self (work_of rows) (suc q), work_high rows hr, span_low span s)

  judged_by : (workers : Option ℕ) (span : ℕ) (greedy : Option ℕ) → IsSpan rows span → IsEndFor rows workers greedy
      → judged (record { span = span; greedy = greedy }) < 2 ^ 63
  judged_by None span None s e = omega (arith, span_low span s)
  judged_by None span (Some end) s e = absurd (let g : Some end ≡ None = e in cc)
  judged_by (Some p) span None s e = absurd e
  judged_by (Some p) span (Some end) s e = greedy_low p end e span s

-- the end by which rows are judged has fewer than 64 bits
pub ends_low : (sharing : Sharing) (rows : List Row) → IsRows rows → (workers : Option ℕ) (ends : Ends) → AreEnds (seen sharing rows) workers ends
    → judged ends < 2 ^ 63
ends_low sharing rows hr workers ends are = judged_by (seen sharing rows) (rows_seen sharing rows hr) workers ends.span ends.greedy are.span are.greedy
