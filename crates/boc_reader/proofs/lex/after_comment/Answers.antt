use Rattle.std.proofs.Common.{◌≡◌, List, ℕ, [], sym, subst, inl, inr, refl, arith}
use Rattle.std.proofs.lemmas.Bool.{ne_eqb}
use Rattle.std.proofs.lemmas.List.{nil_from_length}
use Rattle.boc_reader.specs.WrongTokens.{LeadOn}
use Rattle.boc_reader.proofs.Texts.{in_comment, comment_leads_on}
use Rattle.boc_reader.proofs.Places.{end_more, end_next}
use Rattle.boc_reader.proofs.Reading.{PassesComment, passes_one, read_comment}
use Rattle.boc_reader.proofs.lex.after_comment.Goals as goal
use Rattle.boc_reader.proofs.lex.after_comment.Goals.{then-first-eq10-via-then-first-eq10, then-first-eq10-via-else-first-eq10+then-first-ge128}

pub loop-first-preserved : goal.loop-first-preserved
loop-first-preserved c =
    let text = c.args.text.now in
    let parts = c.in-Some.ensures.cases in (
      passes_one text c.in-Some.first.now c.in-Some.after.now (ne_eqb _ 10 c.if-first-eq10.false) c.if-first-ge128.false
          (subst (PassesComment text) parts.0 c.loop-first.invariant.0),
      omega (arith, parts.1),
      end_more c.in-Some.after.now c.loop-first.rest.now text c.loop-first.invariant.2 (end_next c.in-Some.first.now c.in-Some.after.now
          c.loop-first.rest.now parts.0),
    )

pub returns-then-first-eq10-clause-read : goal.returns-then-first-eq10-clause-read
returns-then-first-eq10-clause-read c =
    let parts = c.in-Some.ensures.cases in
    let leads = comment_leads_on c.in-Some.first.now c.in-Some.after.now (elim c.then-first-eq10.branch [
      | then-first-eq10-via-then-first-eq10 w ↦ inl w.if-first-eq10.true
      | then-first-eq10-via-else-first-eq10+then-first-ge128 w ↦ inr w.if-first-ge128.true
    ]) in
    read_comment c.args.text.now c.loop-first.rest.now c.loop-first.invariant.0
    (subst (λ (rest : List ℕ). LeadOn (in_comment rest) rest) (sym parts.0) leads)

pub returns-in_default-clause-read : goal.returns-in_default-clause-read
returns-in_default-clause-read c =
    let none : c.loop-first.rest.now ≡ [] = nil_from_length c.loop-first.rest.now c.in_default.ensures.cases in
    read_comment c.args.text.now c.loop-first.rest.now c.loop-first.invariant.0
    (subst (λ (rest : List ℕ). LeadOn (in_comment rest) rest) (sym none) (inl refl))
