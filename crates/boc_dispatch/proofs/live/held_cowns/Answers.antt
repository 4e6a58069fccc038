use Rattle.std.proofs.Common.{ℕ, ◌<◌, ◌∙◌, List, ap, sym, subst}
use Rattle.std.specs.List.{All}
use Rattle.boc_program.specs.declared.limits.TheConstants.{MOST_COWNS}
use Rattle.boc_program.specs.Rising.{rising}
use Rattle.boc_program.proofs.RisingNumbers.{rising_all}
use Rattle.boc_dispatch.proofs.live.held_cowns.Goals as goal

-- in rising order they are still below that many
pub of-rising-requires : goal.of-rising-requires
of-rising-requires c =
    let same = c.rising_cowns.ensures.sorted ∙ ap rising c.deref-else-are_cowns.ensures.0 in
    subst (λ (ns : List ℕ). All (λ n. n < MOST_COWNS) ns) (sym same) (rising_all (λ n. n < MOST_COWNS) c.args.cowns.now.items c.requires)
