use Rattle.std.proofs.Common.{ℕ, List, subst, sym, length, ◌≤◌, MatchOption}
use Rattle.std.specs.Prelude.{Option}
use Rattle.boc_dispatch.specs.Inside.{parts_of, IsOfRow}
use Rattle.boc_dispatch.proofs.Homes.{no_home}
use Rattle.boc_dispatch.proofs.roster.Roster.slot_of.Goals as goal

pub returns-in_err-slot : goal.returns-in_err-slot
returns-in_err-slot g c =
    let d = parts_of g.C.Chains.lists g.C.Chains.place c.args.self.now in
    let row = c.args.row in
    let short = subst (λ (xs : List ℕ). length xs ≤ row) c.deref.ensures.value c.in_err-slot.ensures.lookup.3 in
    subst (λ (o : Option ℕ). MatchOption o ((slot : ℕ) → IsOfRow d slot row → ⊥) (λ slot. IsOfRow d slot row)) (sym c.from_residual.ensures)
    (no_home d c.requires.kept row short)
