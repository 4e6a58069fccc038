use Rattle.std.proofs.Common.{◌≡◌, ◌<◌, ◌^◌, ◌-◌, ap, ◌∙◌, get_or, length, take, drop, arith, inl, inr, subst, sym, rules}
use Rattle.boc_record.specs.Fields.{IsFront}
use Rattle.boc_record.specs.Ahead.{IsFieldAhead}
use Rattle.boc_record.proofs.Runs.{whole_tail}
use Rattle.boc_record.proofs.InFront.{field_is_ahead}
use Rattle.boc_record.proofs.ahead.field_ahead.Goals as goal

pub returns : goal.returns
returns c =
    let text = c.args.text.now in
    let len = c.in_ok-len.len in
    let value = c.in_ok-len.value in
    let tail = whole_tail text 1 in
    let front : IsFront (drop 1 text) len value = subst (λ r. IsFront r len value) tail c.in_ok-len.ensures.front in
    let some : 0 < len = omega (arith, c.if-len-eq0.false) in
    let lead : get_or (drop 1 text) 0 0 ≡ 48 → len ≡ 1 =
    λ zero. elim c.else-after-eq48.either [ inl w ↦ omega (arith, w.1, some) | inr w ↦ absurd (w (ap (λ r. get_or r 0 0) tail ∙ zero)) ] in
    let small : value < 2 ^ 32 = search rules in
    subst (λ r. IsFieldAhead text value (take (length r - len) (drop len r))) (sym tail)
    (subst (λ r. IsFieldAhead text value r) (sym (whole_tail (drop 1 text) len))
    (field_is_ahead text len value c.requires c.if-text-ne32.false front c.in_ok-len.ensures.few some lead small))
