use Rattle.std.proofs.Common.{Option, Some, None}
use Rattle.std.specs.Prelude.{IfNone}
use Rattle.std.proofs.lemmas.Result.{IfOk-weaker}
use Rattle.boc_words.specs.declared.asked.AskedEdit.{AskedEdit}
use Rattle.boc_words.proofs.EditWord.{no_edit}
use Rattle.boc_words.proofs.edit_word.edit_of.Goals as goal

if_none : {P Q : Type 0} (edit : Option AskedEdit) → (P → Q) → IfNone edit P → IfNone edit Q
if_none None f h = f h
if_none (Some edit) f h = h

pub returns-clause-none : goal.returns-clause-none
returns-clause-none c =
    IfOk-weaker c.cost_edit.result _ _
    (λ edit. if_none edit (no_edit c.args.word.now c.in_default.ensures c.in_default-numbers_around.ensures)) c.cost_edit.ensures.none
