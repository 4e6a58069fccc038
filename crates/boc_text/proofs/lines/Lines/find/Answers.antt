use Rattle.std.proofs.Common.{◌<◌, length, subst, List, ℕ, take}
use Rattle.boc_text.specs.Lines.{HasNoLineFeed}
use Rattle.boc_text.proofs.Ahead.{too_long}
use Rattle.boc_text.proofs.lines.Lines.find.Goals as goal

pub returns-in-TooLong-clause-found : goal.returns-in-TooLong-clause-found
returns-in-TooLong-clause-found g c =
    let same = c.buffered.ensures.bytes in
    let waited = c.loop-len.invariant in (
      too_long c.loop-len.self.buffered _ _ (subst (λ (l : List ℕ). 80 < length l) same c.in-TooLong.ensures.0)
          (subst (λ (l : List ℕ). HasNoLineFeed (take 81 l)) same c.in-TooLong.ensures.1) waited.bytes,
      waited.bytes,
    )
