use Rattle.std.proofs.Common.{◌≡◌, ◌<◌, ℕ, List, ap, ◌∙◌, ◌∷◌, get_or, length, drop, arith, inl, inr, subst, sym}
use Rattle.std.proofs.lemmas.Bool.Decides.{nat_tests}
use Rattle.boc_record.specs.Fields.{IsApart}
use Rattle.boc_stream.specs.StreamFields.{IsShortField}
use Rattle.boc_record.proofs.Runs.{apart_first, first_apart, whole_tail}
use Rattle.boc_stream.proofs.ShortFields.{is_field, no_field, front_leads, front_short}
use Rattle.boc_stream.proofs.fields.split_field.Goals as goal
use Rattle.boc_stream.proofs.fields.split_field.Goals.{else-not-is_empty-via-then-not-is_empty+else-rest-ne32, else-not-is_empty-via-else-not-is_empty}

-- a text that a space begins, as it was split
spaced : (first : ℕ) (text after : List ℕ) → text ≡ first ∷ after → first ≡ 32 → text ≡ 32 ∷ after
spaced first text after e space = e ∙ ap (λ x. x ∷ after) space

pub returns-then-len-eq0 : goal.returns-then-len-eq0
returns-then-len-eq0 c =
    let front = c.front_digits-len.ensures in
    no_field c.args.text.now c.in_ok-first.after.now _ _ (spaced _ _ _ c.in_ok-first.ensures.cases.0 (grind (arith, nat_tests))) front
    (λ n small t worth apart. omega (arith, (front_leads c.in_ok-first.after.now _ n front.within small t).0, c.if-len-eq0.true))

pub returns-then-len-gt1 : goal.returns-then-len-gt1
returns-then-len-gt1 c =
    let front = c.front_digits-len.ensures in
    no_field c.args.text.now c.in_ok-first.after.now _ _ (spaced _ _ _ c.in_ok-first.ensures.cases.0 (grind (arith, nat_tests))) front
    (λ n small t worth apart. omega (arith, (front_leads c.in_ok-first.after.now _ n front.within small t).1 c.if-after-eq48.true, c.if-len-gt1.true))

pub returns-then-rest-ne32 : goal.returns-then-rest-ne32
returns-then-rest-ne32 c =
    let after = c.in_ok-first.after.now in
    let tail = whole_tail after c.front_digits-len.result.0 in
    let some : 0 < length (drop c.front_digits-len.result.0 after) = subst (λ r. 0 < length r) tail (grind (arith, nat_tests)) in
    no_field c.args.text.now after _ _ (spaced _ _ _ c.in_ok-first.ensures.cases.0 (grind (arith, nat_tests))) c.front_digits-len.ensures
    (λ n small t worth apart. absurd (c.if-rest-ne32.true (ap (λ r. get_or r 0 0) tail ∙ apart_first (drop c.front_digits-len.result.0 after) apart some)))

pub returns : goal.returns
returns c =
    let after = c.in_ok-first.after.now in
    let tail = whole_tail after c.front_digits-len.result.0 in
    let some : 0 < c.front_digits-len.result.0 = omega (arith, c.if-len-eq0.false) in
    let lead : get_or after 0 0 ≡ 48 → c.front_digits-len.result.0 ≡ 1 =
    λ zero. elim c.else-after-eq48.either [ inl w ↦ omega (arith, w.1, some) | inr w ↦ absurd (w zero) ] in
    let apart : IsApart (drop c.front_digits-len.result.0 after) = subst IsApart tail (first_apart _ (λ more. elim c.else-not-is_empty.branch [
      | else-not-is_empty-via-then-not-is_empty+else-rest-ne32 w ↦ w.if-rest-ne32.false
      | else-not-is_empty-via-else-not-is_empty w ↦ absurd (grind (arith, nat_tests))
    ])) in
    subst (λ r. IsShortField c.args.text.now c.front_digits-len.result.1 r) (sym tail)
    (is_field c.args.text.now after _ _ (spaced _ _ _ c.in_ok-first.ensures.cases.0 (grind (arith, nat_tests))) c.front_digits-len.ensures some lead apart
    (front_short after _ _ c.front_digits-len.ensures))
