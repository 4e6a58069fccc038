use Rattle.std.proofs.Common.{map, ap, sym, ◌∙◌, arith}
use Rattle.std.proofs.lemmas.List.{map_push, length-map}
use Rattle.boc_reader.specs.declared.terminal.Sign.TheVariants.{Close}
use Rattle.boc_reader.specs.Phrases.{Ahead}
use Rattle.boc_reader.specs.Grammar.{ref_phrase, list_phrase}
use Rattle.boc_reader.specs.Views.{named_cown_of}
use Rattle.boc_reader.proofs.Lists.{read_comma, read_last}
use Rattle.boc_reader.proofs.Refused.{passes, tells}
use Rattle.boc_reader.proofs.Listed.{no_ninth, no_item, no_comma_here}
use Rattle.boc_reader.proofs.Items.{refs_readable}
use Rattle.boc_reader.proofs.parse.refs.Goals as goal

pub returns-then-accept-2-clause-answers : goal.returns-then-accept-2-clause-answers
returns-then-accept-2-clause-answers c =
    let item = c.in_ok-reference.ensures.answers in
    let taken = c.if-accept-2.ensures.taken in
    read_last ref_phrase Close _ _ c.reference.new.cursor c.accept-in-refs.new.self _ _ _ c.refs.invariant item.0 item.1 c.in_ok-reference.ensures.shorter
    taken.0 taken.1
    (omega (arith, length-map c.refs.all.items named_cown_of, c.if-len-eq-MOST_LISTED.false, c.len.ensures, c.refs.invariant.few))
    (ap (map named_cown_of) c.in_ok-push.ensures.items ∙ map_push named_cown_of c.refs.all.items c.in_ok-reference.field-0)

pub refs-preserved : goal.refs-preserved
refs-preserved c =
    let item = c.in_ok-reference.ensures.answers in
    let same = c.if-accept-2.ensures.stays.0 in
    read_comma ref_phrase _ _ c.reference.new.cursor _ _ _ _ c.refs.invariant item.0 item.1 c.in_ok-reference.ensures.shorter
    (ap (λ (a : Ahead). a.tokens) (sym same) ∙ c.in_ok-take.ensures.0) (c.in_ok-take.ensures.1 ∙ ap (λ (a : Ahead). a.room) same)
    (omega (arith, length-map c.refs.all.items named_cown_of, c.if-len-eq-MOST_LISTED.false, c.len.ensures, c.refs.invariant.few))
    (ap (map named_cown_of) c.in_ok-push.ensures.items ∙ map_push named_cown_of c.refs.all.items c.in_ok-reference.field-0)

pub returns-then-len-eq-MOST_LISTED-clause-answers : goal.returns-then-len-eq-MOST_LISTED-clause-answers
returns-then-len-eq-MOST_LISTED-clause-answers c =
    tells c.ninth.result (no_ninth ref_phrase Close refs_readable _ _ _ c.refs.invariant c.if-accept.ensures.stays.1
    (length-map c.refs.all.items named_cown_of ∙ omega (arith, c.refs.all.ok.0)))

pub returns-in_err-reference-clause-answers : goal.returns-in_err-reference-clause-answers
returns-in_err-reference-clause-answers c =
    passes (list_phrase ref_phrase Close) (λ v. map named_cown_of v.items) _ _ _ _ _ c.from_residual.ensures.1 c.in_err-reference.ensures.answers
    (no_item ref_phrase Close refs_readable _ _ _ c.refs.invariant c.if-accept.ensures.stays.1)

pub returns-in_err-take-clause-answers : goal.returns-in_err-take-clause-answers
returns-in_err-take-clause-answers c =
    let same = c.if-accept-2.ensures.stays.0 in
    passes (list_phrase ref_phrase Close) (λ v. map named_cown_of v.items) _ _ _ _ _ c.from_residual-in_err-take.ensures.1 c.in_err-take.ensures
    (λ h. no_comma_here ref_phrase Close refs_readable _ _ _ _ _ c.refs.invariant c.if-accept.ensures.stays.1 c.in_ok-reference.ensures.answers.0
    c.if-accept-2.ensures.stays.1 (λ after e. h after (ap (λ (a : Ahead). a.tokens) same ∙ e)))
