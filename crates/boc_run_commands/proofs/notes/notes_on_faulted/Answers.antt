use Rattle.std.proofs.Common.{◌≡◌, ◌∙◌, ℕ, List, MatchOption, Option, Vec, map, ap, rules, subst}
use Rattle.std.proofs.lemmas.Result.{IfOk-weaker}
use Rattle.std.specs.Global.{Global}
use Rattle.boc_runs.specs.Run.{Member}
use Rattle.boc_eval.specs.Instances.{AreTrueOf}
use Rattle.boc_names.specs.Names.{member_text, texts_of}
use Rattle.boc_notes.specs.Notes.{LacksTold, first_noted, note_of_row, notes_text}
use Rattle.boc_names.proofs.Counts.{few_declared}
use Rattle.boc_run_commands.proofs.ToldNames.{told_notes}
use Rattle.boc_run_commands.proofs.notes.notes_on_faulted.Goals as goal

pub of-requires : goal.of-requires
of-requires g c = few_declared c.args.program.now c.as_slice.result.now c.as_slice.ensures

pub returns-in-Some : goal.returns-in-Some
returns-in-Some g c =
    let same_rows : c.as_slice-rows.result.now ≡ c.args.recorded.now.rows = search rules in
    let called : c.deref.result.now ≡ c.in_ok-called.called.items = c.deref.ensures.value in
    let tells = subst (λ (o : Option (Vec ℕ Global)). MatchOption o (LacksTold c.args.told.now (first_noted c.args.faulted.now))
    (λ text. (run : List Member) → AreTrueOf run c.args.told.now → text.items ≡ notes_text
    (map (note_of_row (map (member_text (texts_of c.deref.result.now) c.in_ok-cowns.cowns) run) c.as_slice-rows.result.now) c.args.faulted.now)))
    c.in-Some.is c.in_ok-notes.ensures in
    told_notes c.args.program.now c.args.defs.now c.args.recorded.now.events c.args.told.now (texts_of c.deref.result.now) c.in_ok-cowns.cowns
    c.as_slice-rows.result.now c.args.recorded.now.rows c.args.faulted.now c.in-Some.notes.items c.requires.told
    (ap texts_of called ∙ c.in_ok-called.ensures) (search rules) same_rows tells

pub returns : goal.returns
returns g c =
    let same_rows : c.as_slice-rows.result.now ≡ c.args.recorded.now.rows = search rules in
    let names = ap texts_of c.deref-2.ensures.value ∙ c.in_ok-names.ensures.rows in
    IfOk-weaker c.notes_on_rows.result _ _ (λ notes is. is ∙ (λ i. notes_text (map (note_of_row (names i) (same_rows i)) c.args.faulted.now)))
    c.notes_on_rows.ensures
