use Rattle.std.proofs.Common.{◌≡◌, ◌∙◌, ap, sym, subst, List, ℕ, ◌+◌}
use Rattle.std.specs.Prelude.{Option}
use Rattle.std.specs.List.{sum_by}
use Rattle.boc_chain.specs.declared.held.Held.{Held}
use Rattle.boc_chain.specs.Chain.{times}
use Rattle.boc_chain.specs.Kept.{place_at, awaits, HasRoom}
use Rattle.boc_chain.proofs.Rooms.{on_err, kept_admitted, kept_longer, place_longer, awaits_longer}
use Rattle.boc_chain.proofs.list_chains.ListChainsChains.admit.Goals as goal

pub invariant_of-self-in-Break-branch-3 : goal.invariant_of-self-in-Break-branch-3
invariant_of-self-in-Break-branch-3 c =
    let s = c.args.self.now in
    record {
      kept = kept_longer s.lines.items c.make_room.new.lines.items s.places.items c.reach.new.table.items c.deref-3.result.now s.kept c.make_room.ensures.items
          (subst (λ (ps : List (Option Held)). HasRoom c.make_room.new.lines.items (λ k. sum_by (awaits k) ps + times k c.deref-3.result.now))
          c.deref-2.ensures.value c.in_ok-make_room.ensures.ok)
          c.reach.ensures.longer;
    }

pub invariant_of-self-in-Break-branch-4 : goal.invariant_of-self-in-Break-branch-4
invariant_of-self-in-Break-branch-4 c =
    let s = c.args.self.now in
    record {
      kept = kept_longer s.lines.items c.make_room.new.lines.items s.places.items c.reach.new.table.items c.deref-3.result.now s.kept c.make_room.ensures.items
          (subst (λ (ps : List (Option Held)). HasRoom c.make_room.new.lines.items (λ k. sum_by (awaits k) ps + times k c.deref-3.result.now))
          c.deref-2.ensures.value c.in_ok-make_room.ensures.ok)
          c.reach.ensures.longer;
    }

pub returns-in_err-reach-clause-err : goal.returns-in_err-reach-clause-err
returns-in_err-reach-clause-err c =
    on_err c.from_residual-in_err-reach.result (place_longer c.args.self.now.places.items c.reach.new.table.items c.reach.ensures.longer)

pub returns-in_err-insert-clause-err : goal.returns-in_err-insert-clause-err
returns-in_err-insert-clause-err c =
    on_err c.from_residual-in_err-insert.result (place_longer c.args.self.now.places.items c.reach.new.table.items c.reach.ensures.longer)

pub hold-requires-clause-vacant : goal.hold-requires-clause-vacant
hold-requires-clause-vacant c = place_longer c.args.self.now.places.items c.reach.new.table.items c.reach.ensures.longer c.in_ok-index.index
    ∙ ap (λ (ps : List (Option Held)). place_at ps c.in_ok-index.index) (sym c.deref.ensures.value) ∙ c.in_ok-index.ensures.vacant

pub invariant_of-self-2 : goal.invariant_of-self-2
invariant_of-self-2 c =
    let s = c.args.self.now in
    let e : c.deref-3.result.now ≡ c.args.cowns.items = c.deref-3.ensures.0 in
    record {
      kept = kept_admitted s.lines.items c.make_room.new.lines.items s.places.items c.hold.new.places.items c.in_ok-index.index c.args.cowns.items s.kept
          c.make_room.ensures.items c.requires.in_range
          (subst (λ (cs : List ℕ). HasRoom c.make_room.new.lines.items (λ k. sum_by (awaits k) s.places.items + times k cs)) e
          (subst (λ (ps : List (Option Held)). HasRoom c.make_room.new.lines.items (λ k. sum_by (awaits k) ps + times k c.deref-3.result.now))
          c.deref-2.ensures.value c.in_ok-make_room.ensures.ok))
          c.hold.ensures.here
          (λ t far. c.hold.ensures.others t far ∙ place_longer s.places.items c.reach.new.table.items c.reach.ensures.longer t)
          (λ k. c.hold.ensures.awaited k
          ∙ ap (λ n. n + times k c.args.cowns.items) (awaits_longer s.places.items c.reach.new.table.items c.reach.ensures.longer k));
    }

pub returns-clause-other_places : goal.returns-clause-other_places
returns-clause-other_places c = λ t far. c.hold.ensures.others t far
    ∙ place_longer c.args.self.now.places.items c.reach.new.table.items c.reach.ensures.longer t
