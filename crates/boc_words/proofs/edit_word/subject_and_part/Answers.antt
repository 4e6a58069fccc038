use Rattle.std.proofs.Common.{◌≡◌, ◌∙◌, false, true, ◌++◌, ◌∷◌, ◌<◌, ◌≤◌, ◌^◌, ℕ, arith, decimal, Some, ap, ap₂, refl, sym}
use Rattle.boc_plans.specs.Fractions.{Fraction}
use Rattle.boc_program.specs.declared.limits.TheConstants.{MOST_PART}
use Rattle.boc_words.specs.EditWords.{IsPart, equals_sign}
use Rattle.boc_words.proofs.EditWord.{last_split_parts, no_subject, part_word, same_numbers, subject_sides}
use Rattle.boc_words.proofs.edit_word.subject_and_part.Goals as goal

pub returns-in_err-subject : goal.returns-in_err-subject
returns-in_err-subject c =
    rw c.from_residual.ensures
    (λ subject part _ e. no_subject c.args.word.now subject part c.in_err-subject.ensures.cases e)

pub returns-in_err-over : goal.returns-in_err-over
returns-in_err-over c =
    rw c.from_residual-in_err-over.ensures
    (λ subject part is e. c.in_err-over.ensures part.over part.under (omega (arith, is.1)) (omega (arith, is.3))
    (subject_sides c.args.word.now subject part (c.in_ok-subject.subject, c.in_ok-subject.part) c.in_ok-subject.ensures.cases is e).1)

-- the numbers that were read are those of the part
is_part : (over under : ℕ) (part : Fraction) → over < 2 ^ 32 → under < 2 ^ 32 → IsPart part
    → decimal over ++ (47 ∷ decimal under) ≡ part_word part → (0 < over) × (over ≤ MOST_PART) × (0 < under) × (under ≤ MOST_PART)
is_part over under part few small is e =
    let same = same_numbers over under part.over part.under few (omega (arith, is.1)) small (omega (arith, is.3)) e in
    (omega (arith, same.0, is.0), omega (arith, same.0, is.1), omega (arith, same.1, is.2), omega (arith, same.1, is.3))

absurd_true : false ≡ true → ⊥
absurd_true same = cc

pub returns-in_err-new : goal.returns-in_err-new
returns-in_err-new c =
    rw c.from_residual-in_err-new.ensures
    (λ subject part is e. absurd_true (c.in_err-new.ensures.valid.1 (is_part c.in_ok-over.over c.in_ok-over.under part (omega arith) (omega arith) is
    (sym c.in_ok-over.ensures ∙ (subject_sides c.args.word.now subject part (c.in_ok-subject.subject, c.in_ok-subject.part)
    c.in_ok-subject.ensures.cases is e).1))))

pub returns : goal.returns
returns c =
    let part : Fraction = c.in_ok-new.field-0 in
    let parts = last_split_parts equals_sign c.args.word.now (Some (c.in_ok-subject.subject, c.in_ok-subject.part)) c.in_ok-subject.ensures.cases (omega arith) in
    let valid = c.in_ok-new.ensures.valid.0 refl in
    let numbers : c.in_ok-subject.part.now ≡ part_word part =
    c.in_ok-over.ensures
    ∙ ap₂ (λ over under. decimal over ++ (47 ∷ decimal under)) (sym c.in_ok-new.ensures.over) (sym c.in_ok-new.ensures.under) in (
      (
        omega (arith, c.in_ok-new.ensures.over, valid.0),
        omega (arith, c.in_ok-new.ensures.over, valid.1),
        omega (arith, c.in_ok-new.ensures.under, valid.2),
        omega (arith, c.in_ok-new.ensures.under, valid.3),
      ),
      parts.0 ∙ ap (λ l. c.in_ok-subject.subject.now ++ (equals_sign ∷ l)) numbers,
    )
