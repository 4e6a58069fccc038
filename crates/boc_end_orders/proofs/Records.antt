-- A whole run becomes a record.
use Rattle.std.proofs.Common.{◌≡◌, ℕ, zero, suc, ◌+◌, ◌<◌, List, [], ◌∷◌, ◌++◌, length, take, refl, sym, ◌∙◌, ap, subst, arith}
use Rattle.std.specs.Prelude.{slice_get, Some, None, Result, Ok, Err}
use Rattle.std.proofs.lemmas.List.{length-map}
use Rattle.boc_program.specs.declared.program.Program.{Program}
use Rattle.boc_program.specs.Programs.{cown_count}
use Rattle.boc_runs.specs.declared.event.Event.{Event}
use Rattle.boc_runs.specs.Legal.{Entry, after, after_all, entries, IsAllowed, IsLegalFrom, IsLegal, IsComplete}
use Rattle.boc_runs.specs.Records.{Recorded, IsRecord}
use Rattle.boc_runs.specs.Run.{config_of, IsWholeRun}
use Rattle.boc_runs.proofs.RunsAreLegal.{run_is_legal}
use Rattle.boc_follow.specs.Following.{Following}
use Rattle.boc_follow.proofs.Besides.{complete}
use Rattle.boc_all_ends.specs.declared.found.End.{End}
use Rattle.boc_end_orders.specs.Runs.{ComesTo, RecordsEnd}

-- the event at a place of a legal log is allowed after those before it
pub allowed_at : (count : ℕ) (rows : List Entry) (log : List Event) (place : ℕ) (event : Event) → IsLegalFrom count rows log
    → slice_get log place ≡ Some event → IsAllowed count (after_all rows (take place log)) event
allowed_at count rows [] place event legal is = absurd (let f : None ≡ Some event = is in cc)
allowed_at count rows (e ∷ log) zero event legal is =
    let same : e ≡ event = (let f : Some e ≡ Some event = is in cc) in
    subst (IsAllowed count rows) same legal.0
allowed_at count rows (e ∷ log) (suc place) event legal is = allowed_at count (after rows e) log place event legal.1 is

-- the events up to a place and the one there
one_more : (log : List Event) (place : ℕ) (event : Event) → slice_get log place ≡ Some event → take (suc place) log ≡ take place log ++ (event ∷ [])
one_more [] place event is = absurd (let f : None ≡ Some event = is in cc)
one_more (e ∷ log) zero event is = (let same : e ≡ event = (let f : Some e ≡ Some event = is in cc) in ap (λ z. z ∷ []) same)
one_more (e ∷ log) (suc place) event is = ap (λ es. e ∷ es) (one_more log place event is)

pub take_one_more : (log : List Event) (place : ℕ) (event : Event) → slice_get log place ≡ Some event → take (place + 1) log ≡ take place log ++ (event ∷ [])
take_one_more log place event is =
    let next : place + 1 ≡ suc place = omega arith in
    ap (λ (k : ℕ). take k log) next ∙ one_more log place event is

-- a whole run with an end's values and its least number of rows is legal and complete
pub log_is_legal : (p : Program) (end : End) (run : Following) (count : ℕ) → ComesTo p end run → count ≡ cown_count run.program.cowns → IsLegal count run.log
log_is_legal p end run count c is =
    subst (λ (n : ℕ). IsLegal n run.log) (sym (is ∙ ap (λ (q : Program). cown_count q.cowns) c.program)) (run_is_legal p run.log c.whole.run)

pub log_is_complete : (p : Program) (end : End) (run : Following) → ComesTo p end run → IsComplete run.log
log_is_complete p end run c = complete p run.log c.whole.run c.whole

-- and its record is that of the end
pub records_end : (p : Program) (end : End) (run : Following) (count : ℕ) (r : Recorded) → ComesTo p end run → count ≡ cown_count run.program.cowns
    → r.cowns ≡ count → r.events ≡ run.log → IsRecord r → RecordsEnd p end r
records_end p end run count r c is cowns events whole = record {
  run = record {
    cowns = cowns ∙ is ∙ ap (λ (q : Program). cown_count q.cowns) c.program;
    run = subst (IsWholeRun p) (sym events) c.whole;
  };
  whole = whole;
  values_are = ap (λ (log : List Event). (config_of p log).values) events ∙ c.values_are;
  many = whole.rows_are.all ∙ ap (λ (log : List Event). length (entries log)) events ∙ c.many;
}
