use Rattle.std.proofs.Common.{◌<◌, length, subst, List, ℕ, take}
use Rattle.boc_stream.specs.LongLines.{HasNoLineFeed}
use Rattle.boc_stream.proofs.Ahead.{too_long}
use Rattle.boc_stream.proofs.lines.LongLines.find.Goals as goal

pub returns-in-TooLong-clause-found : goal.returns-in-TooLong-clause-found
returns-in-TooLong-clause-found g c =
    let same = c.buffered.ensures.bytes in
    let waited = c.loop-len.invariant in (
      too_long c.loop-len.self.buffered _ _ (subst (λ (l : List ℕ). 4096 < length l) same c.in-TooLong.ensures.0)
          (subst (λ (l : List ℕ). HasNoLineFeed (take 4097 l)) same c.in-TooLong.ensures.1) waited.bytes,
      waited.bytes,
    )
