use Rattle.std.proofs.Common.{List, ℕ, subst}
use Rattle.std.specs.Bool.{OnFalse}
use Rattle.boc_stream.specs.StreamFields.{IsOfShorts}
use Rattle.boc_stream.proofs.Telling.{says_front, ends_alike}
use Rattle.boc_stream.proofs.told.told_of.Goals as goal

pub returns-in_default : goal.returns-in_default
returns-in_default c = λ told last s. c.in_default.ensures told _ (says_front _ _ told last s)

pub returns-then-not-has_form : goal.returns-then-not-has_form
returns-then-not-has_form c = λ told last s.
    let e = ends_alike _ _ _ told _ last c.in-Some.ensures s in
    c.has_form.ensures.no c.if-not-has_form.true e.more e.of e.may

pub returns-then-not-branch : goal.returns-then-not-branch
returns-then-not-branch c = λ told last s.
    let e = ends_alike _ _ _ told _ last c.in-Some.ensures s in
    let none = subst (λ b. OnFalse b ((ns : List ℕ) → IsOfShorts c.in-Some.fields.now ns → ⊥)) c.if-not-branch.true c.in_ok-read_fields.ensures.none in
    none e.more e.of
