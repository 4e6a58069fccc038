use Rattle.std.proofs.Common.{◌≡◌, ℕ, ◌<◌, true, false, refl, sym, ◌∙◌, true≢false, arith}
use Rattle.std.specs.Prelude.{◌==◌}
use Rattle.std.proofs.lemmas.Bool.Decides.{nat_tests}
use Rattle.boc_order.proofs.Near.{adds_readers, adds_writer, adds_none}
use Rattle.boc_order.proofs.gathering.add_waits.Goals as goal
use Rattle.boc_order.proofs.gathering.add_waits.Goals.{else-writes-via-then-writes+else-not-is_empty, else-writes-via-else-writes}

some_read : (n m : ℕ) → n ≡ m → false ≡ ◌==◌ m 0 → 0 < n
some_read n m e t = grind (arith, nat_tests)

none_read : (n m : ℕ) → n ≡ m → true ≡ ◌==◌ m 0 → n ≡ 0
none_read n m e t = grind (arith, nat_tests)

pub returns-in_ok-extend_from_slice : goal.returns-in_ok-extend_from_slice
returns-in_ok-extend_from_slice c = adds_readers _ c.requires.shape _ _ c.requires.there c.requires.own _ c.requires.used _ _
    (c.writes.ensures.0 c.if-writes.true)
    (some_read _ _ (sym c.args.used.now.readers.ok.0) c.if-not-is_empty.ensures) (rw c.deref.ensures.value at c.in_ok-extend_from_slice.ensures.items)

pub returns-in_ok-push : goal.returns-in_ok-push
returns-in_ok-push c = adds_writer _ c.requires.shape _ _ c.requires.there c.requires.own _ c.requires.used _ _ _ c.in-Some.is (λ w. elim c.else-writes.branch [
  | else-writes-via-then-writes+else-not-is_empty v ↦ none_read _ _ (sym c.args.used.now.readers.ok.0) v.if-not-is_empty.ensures
  | else-writes-via-else-writes v ↦ absurd (true≢false (sym (c.writes.ensures.1 w) ∙ v.if-writes.false))
]) c.in_ok-push.ensures.items

pub returns-in_default : goal.returns-in_default
returns-in_default c = adds_none _ c.requires.shape _ _ c.requires.there c.requires.own _ c.requires.used _ _ c.in_default.is (λ w. elim c.else-writes.branch [
  | else-writes-via-then-writes+else-not-is_empty v ↦ none_read _ _ (sym c.args.used.now.readers.ok.0) v.if-not-is_empty.ensures
  | else-writes-via-else-writes v ↦ absurd (true≢false (sym (c.writes.ensures.1 w) ∙ v.if-writes.false))
]) refl
