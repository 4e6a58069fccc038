use Rattle.std.proofs.Common.{◌≢◌, ◌∙◌, ◌==◌, [], ℕ, List, ap, length, subst, sym}
use Rattle.boc_why.specs.Causes.{AreSpawnedEarly}
use Rattle.std.specs.Prelude.{String, string_bytes}
use Rattle.std.specs.Global.{Global}
use Rattle.std.specs.List.{list_any}
use Rattle.boc_plan_commands.specs.Asked.{marks_of, rows_of}
use Rattle.boc_plan_commands.proofs.MeantParts.{first_unmeant, known_next}
use Rattle.boc_plan_commands.proofs.WhatIfParts.{made_next, marked_rows, no_row_marked, some_row_marked}
use Rattle.boc_plan_commands.proofs.whatif.spawned_early.Goals as goal

pub returns-then-not-has_mark : goal.returns-then-not-has_mark
returns-then-not-has_mark c =
    let one = c.index-asked-index.result in
    let marks = c.deref.ensures.value ∙ c.in_ok-marks.ensures ∙ ap (marks_of c.args.names.now) c.as_bytes.ensures.value in
    first_unmeant (λ (def : String Global). rows_of c.args.names.now (string_bytes def)) c.args.asked.now c.loop-index.index one c.loop-index-test.true
    c.index-asked-index.is c.loop-index.invariant.known
    (no_row_marked c.args.names.now (string_bytes one)
    (ap (list_any (λ (mark : ℕ). mark == 1)) (sym marks) ∙ sym c.has_mark.ensures ∙ c.if-not-has_mark.true))

pub spawn_early-requires : goal.spawn_early-requires
spawn_early-requires c = record {
  defs = ap length (c.deref-in-loop-index.ensures.value ∙ c.in_ok-marks.ensures)
      ∙ marked_rows c.args.names.now c.as_bytes.result.now c.args.rows c.args.asked.now c.loop-index.index c.loop-index.after c.loop-index-test.true
      c.requires c.loop-index.invariant.made;
}

pub loop-index-preserved : goal.loop-index-preserved
loop-index-preserved c =
    let one = c.index-asked-index.result in
    let names = c.args.names.now in
    let own = c.in_ok-marks.ensures ∙ ap (marks_of names) c.as_bytes.ensures.value in
    record {
      made = made_next names c.args.rows c.args.asked.now c.loop-index.index one c.loop-index.after c.spawn_early.new.rows c.loop-index-test.true
          c.index-asked-index.is c.loop-index.invariant.made
          (subst (λ (marks : List ℕ). AreSpawnedEarly c.loop-index.after marks 1 c.spawn_early.new.rows) (c.deref-in-loop-index.ensures.value ∙ own)
          c.in_ok-spawn_early.ensures.early);
      known = known_next (λ (def : String Global). rows_of names (string_bytes def) ≢ []) c.args.asked.now c.loop-index.index one c.loop-index-test.true
          c.index-asked-index.is c.loop-index.invariant.known
          (some_row_marked names (string_bytes one)
          (ap (list_any (λ (mark : ℕ). mark == 1)) (sym (c.deref.ensures.value ∙ own)) ∙ sym c.has_mark.ensures ∙ c.if-not-has_mark.false));
    }
