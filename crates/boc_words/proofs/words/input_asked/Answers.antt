use Rattle.std.proofs.Common.{◌≡◌, ◌∙◌, ap, List, map, not, subst, sym}
use Rattle.std.specs.Prelude.{IfErr}
use Rattle.std.specs.List.{filter}
use Rattle.clap.specs.Words.{Text, found_of, rows_of}
use Rattle.boc_words.specs.EditWords.{is_edit}
use Rattle.boc_words.specs.Words.{IsOfInput, IsOfPaths, input_words}
use Rattle.boc_words.specs.declared.commands.Kind.{Kind}
use Rattle.boc_words.specs.declared.commands.Kind.TheVariants as called
use Rattle.boc_words.proofs.words.input_asked.Goals as goal

pub returns-in_ok-paths-in-WhatIf-clause-refused :
    goal.returns-in_ok-paths-in-WhatIf-clause-refused
returns-in_ok-paths-in-WhatIf-clause-refused c =
    let rows = rows_of (found_of c.args.matches.now) in
    let paths : map (λ t. t.now) c.deref.result.now ≡ input_words called.WhatIf rows =
    ap (map (λ t. t.now)) c.deref.ensures.value ∙ c.in_ok-paths-in-WhatIf.ensures ∙ ap (filter (λ word. not (is_edit word))) c.texts_at.ensures in
    subst (λ (kind : Kind). IfErr c.one_input.result (IsOfInput kind rows)) (sym c.in-WhatIf.is)
    (subst (λ (l : List Text). IfErr c.one_input.result (IsOfPaths l)) paths c.one_input.ensures.refused)
