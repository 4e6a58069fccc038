use Rattle.std.proofs.Common.{map, length, ap, sym, ◌∙◌, arith}
use Rattle.std.proofs.lemmas.List.{map_push, length-map}
use Rattle.boc_reader.specs.Phrases.{Ahead, Stands}
use Rattle.boc_reader.specs.Grammar.{name_phrase, list_phrase}
use Rattle.boc_reader.specs.Views.{name_of}
use Rattle.boc_reader.proofs.Lists.{read_comma, read_last}
use Rattle.boc_reader.proofs.Refused.{passes, tells}
use Rattle.boc_reader.proofs.Listed.{no_ninth, no_item, no_comma_here}
use Rattle.boc_reader.proofs.Items.{names_readable}
use Rattle.boc_reader.proofs.parse.names.Goals as goal

pub returns-then-accept-2-clause-answers : goal.returns-then-accept-2-clause-answers
returns-then-accept-2-clause-answers c =
    let taken = c.if-accept-2.ensures.taken in
    read_last name_phrase c.args.close _ _ c.name.new.self c.accept-in-names.new.self _ _ _ c.names.invariant
    (record { tokens = c.in_ok-name.ensures.0; ends = tt; fits = omega arith; small = tt })
    (omega (arith, c.in_ok-name.ensures.1)) (omega (arith, ap length c.in_ok-name.ensures.0)) taken.0 taken.1
    (omega (arith, length-map c.names.all.items name_of, c.if-len-eq-MOST_LISTED.false, c.len.ensures, c.names.invariant.few))
    (ap (map name_of) c.in_ok-push.ensures.items ∙ map_push name_of c.names.all.items c.in_ok-name.field-0)

pub names-preserved : goal.names-preserved
names-preserved c =
    let same = c.if-accept-2.ensures.stays.0 in
    read_comma name_phrase _ _ c.name.new.self _ _ _ _ c.names.invariant
    (record { tokens = c.in_ok-name.ensures.0; ends = tt; fits = omega arith; small = tt })
    (omega (arith, c.in_ok-name.ensures.1)) (omega (arith, ap length c.in_ok-name.ensures.0))
    (ap (λ (a : Ahead). a.tokens) (sym same) ∙ c.in_ok-take.ensures.0) (c.in_ok-take.ensures.1 ∙ ap (λ (a : Ahead). a.room) same)
    (omega (arith, length-map c.names.all.items name_of, c.if-len-eq-MOST_LISTED.false, c.len.ensures, c.names.invariant.few))
    (ap (map name_of) c.in_ok-push.ensures.items ∙ map_push name_of c.names.all.items c.in_ok-name.field-0)

pub returns-then-len-eq-MOST_LISTED-clause-answers : goal.returns-then-len-eq-MOST_LISTED-clause-answers
returns-then-len-eq-MOST_LISTED-clause-answers c =
    tells c.ninth.result (no_ninth name_phrase c.args.close (names_readable c.args.close c.requires) _ _ _ c.names.invariant c.if-accept.ensures.stays.1
    (length-map c.names.all.items name_of ∙ omega (arith, c.names.all.ok.0)))

pub returns-in_err-name-clause-answers : goal.returns-in_err-name-clause-answers
returns-in_err-name-clause-answers c =
    passes (list_phrase name_phrase c.args.close) (λ v. map name_of v.items) _ _ _ _ _ c.from_residual.ensures.1 c.in_err-name.ensures
    (λ h. no_item name_phrase c.args.close (names_readable c.args.close c.requires) _ c.names.cursor _ c.names.invariant c.if-accept.ensures.stays.1
    (λ x r st. h x r st.tokens))

pub returns-in_err-take-clause-answers : goal.returns-in_err-take-clause-answers
returns-in_err-take-clause-answers c =
    let same = c.if-accept-2.ensures.stays.0 in
    passes (list_phrase name_phrase c.args.close) (λ v. map name_of v.items) _ _ _ _ _ c.from_residual-in_err-take.ensures.1 c.in_err-take.ensures
    (λ h. no_comma_here name_phrase c.args.close (names_readable c.args.close c.requires) _ _ _ _ _ c.names.invariant c.if-accept.ensures.stays.1
    (let item : Stands name_phrase c.names.cursor (name_of c.in_ok-name.field-0) c.name.new.self.tokens = record
    { tokens = c.in_ok-name.ensures.0; ends = tt; fits = omega arith; small = tt } in item) c.if-accept-2.ensures.stays.1
    (λ after e. h after (ap (λ (a : Ahead). a.tokens) same ∙ e)))
