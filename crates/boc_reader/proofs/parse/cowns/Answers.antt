use Rattle.std.proofs.Common.{map, ap, ◌∙◌}
use Rattle.std.proofs.lemmas.List.{map_push}
use Rattle.boc_reader.specs.Grammar.{cown_phrase, cowns_phrase}
use Rattle.boc_reader.specs.Views.{cown_of}
use Rattle.boc_reader.proofs.Each.{read_each_more}
use Rattle.boc_reader.proofs.Refused.{passes}
use Rattle.boc_reader.proofs.Declarations.{no_next_cown}
use Rattle.boc_reader.proofs.parse.cowns.Goals as goal

pub cowns-preserved : goal.cowns-preserved
cowns-preserved c =
    let item = c.in_ok-cown.ensures.answers in
    read_each_more cown_phrase _ _ _ _ _ _ c.cowns.invariant item.0 item.1 c.in_ok-cown.ensures.shorter
    (ap (map cown_of) c.in_ok-push.ensures.items ∙ map_push cown_of c.cowns.all.items c.in_ok-cown.field-0)

pub returns-in_err-cown : goal.returns-in_err-cown
returns-in_err-cown c =
    passes cowns_phrase (λ v. map cown_of v.items) _ _ _ _ _ c.from_residual.ensures.1 c.in_err-cown.ensures.answers
    (no_next_cown _ c.cowns.cursor _ _ c.cowns.invariant c.cowns-test.ensures.next)
