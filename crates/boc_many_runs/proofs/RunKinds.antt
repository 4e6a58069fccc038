-- The rows of a run of a program, and their defs.
use Rattle.std.proofs.Common.{◌≡◌, ◌∙◌, ℕ, ◌<◌, List, length, map, ap, sym, subst, arith, Some}
use Rattle.std.specs.Option.{option_map}
use Rattle.std.specs.Prelude.{All, slice_get}
use Rattle.std.proofs.lemmas.List.{length-map}
use Rattle.std.proofs.lemmas.Option.{get_or_from_slice_get, slice_get-map}
use Rattle.std.proofs.lemmas.Simd.{map-map}
use Rattle.boc_program.proofs.ChangedItems.{item_at}
use Rattle.boc_program.specs.declared.limits.TheConstants.{MOST_ROWS}
use Rattle.boc_program.specs.declared.program.Program.{Program}
use Rattle.boc_runs.specs.Records.{IsRecord, IsRecordOf, Recorded}
use Rattle.boc_runs.specs.Run.{Member, config_of}
use Rattle.boc_runs.specs.Serial.{Behaviour}
use Rattle.boc_runs.proofs.RunsAreLegal.{run_twins}
use Rattle.boc_eval.specs.declared.instance.Instance.{Instance}
use Rattle.boc_eval.specs.Instances.{AreRowsOf, behaviour_in}
use Rattle.boc_follow.proofs.RowKinds.{known_rows}

-- a record of a run has as many rows as the run
pub as_many_rows : (p : Program) (r : Recorded) → IsRecordOf p r → IsRecord r → length (config_of p r.events).members ≡ length r.rows
as_many_rows p r run whole = sym (run_twins p r.events run.run.run).same ∙ sym whole.rows_are.all

-- there are fewer defs than rows may be
pub few_kinds : (p : Program) (r : Recorded) (rows : List Instance) → IsRecordOf p r → AreRowsOf (config_of p r.events).members rows
    → (row : ℕ) (i : Instance) → slice_get rows row ≡ Some i → i.kind < MOST_ROWS
few_kinds p r rows run are row i is = omega (arith, known_rows p r.events rows run.run.run are row i is, p.few_defs)

module _ (p : Program) (r : Recorded) (rows : List Instance) (run : IsRecordOf p r) (are : AreRowsOf (config_of p r.events).members rows) where
  -- the defs of the rows are those of the run
  pub kinds_same : map (λ i. i.kind) rows ≡ map (λ (m : Member). m.behaviour.kind) (config_of p r.events).members
  kinds_same =
      sym (map-map (λ (b : Behaviour). b.kind) behaviour_in rows) ∙ ap (map (λ (b : Behaviour). b.kind)) are
      ∙ map-map (λ (b : Behaviour). b.kind) (λ (m : Member). m.behaviour) (config_of p r.events).members

  -- there are as many as rows
  pub kinds_long : IsRecord r → length (map (λ (i : Instance). i.kind) rows) ≡ length r.rows
  kinds_long whole =
      ap (λ (ns : List ℕ). length ns) kinds_same ∙ length-map (config_of p r.events).members (λ (m : Member). m.behaviour.kind) ∙ as_many_rows p r run whole

  -- and each is less than rows may be
  pub kinds_low : All (λ d. d < MOST_ROWS) (map (λ (i : Instance). i.kind) rows)
  kinds_low = λ k d low.
      let f : Instance → ℕ = λ i. i.kind in
      let q = item_at rows k (omega (arith, low, length-map rows f)) in
      let got : slice_get (map f rows) k ≡ Some (f q.0) = slice_get-map f rows k ∙ ap (option_map f) q.1 in
      subst (λ n. n < MOST_ROWS) (sym (get_or_from_slice_get (map f rows) k (f q.0) d got)) (few_kinds p r rows run are k q.0 q.1)
