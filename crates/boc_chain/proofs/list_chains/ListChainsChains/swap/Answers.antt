use Rattle.std.proofs.Common.{◌≡◌, ◌+◌, ◌++◌, ◌∷◌, [], ◌∙◌, ap, sym, subst, ℕ, ◌<◌, length}
use Rattle.std.specs.List.{sum_by}
use Rattle.boc_chain.specs.Chain.{cown, fresh}
use Rattle.boc_chain.specs.Kept.{place_at, awaits}
use Rattle.boc_chain.proofs.Lines.{one_line, has_room, kept_exchange, same_cowns}
use Rattle.boc_chain.proofs.list_chains.ListChainsChains.swap.Goals as goal
use Rattle.boc_chain.proofs.list_chains.ListChainsChains.swap.Goals.{After-count_exchange}

-- the cown that was read is that of the request
its_cown : (c : After-count_exchange) → c.cown_at-c.result ≡ cown (place_at c.args.self.now.places.items c.args.slot.index) c.args.i
its_cown c = c.cown_at-c.ensures ∙ ap (λ ps. cown (place_at ps c.args.slot.index) c.args.i) c.deref.ensures.value

-- there is a list of it
has_list : (c : After-count_exchange) → c.cown_at-c.result < length c.args.self.now.lines.items
has_list c = subst (λ (n : ℕ). n < length c.args.self.now.lines.items) (sym (its_cown c))
    (c.args.self.now.kept.in_range c.args.slot.index c.args.i c.requires.there)

-- one less is awaited there
one_less : (c : After-count_exchange) → sum_by (awaits c.cown_at-c.result) c.count_exchange.new.places.items + 1
    ≡ sum_by (awaits c.cown_at-c.result) c.args.self.now.places.items
one_less c = subst (λ (n : ℕ). sum_by (awaits n) c.count_exchange.new.places.items + 1 ≡ sum_by (awaits n) c.args.self.now.places.items)
    (sym (its_cown c ∙ ap (cown (place_at c.args.self.now.places.items c.args.slot.index)) c.requires.next)) c.count_exchange.ensures.awaited

pub push_reserved-requires : goal.push_reserved-requires
push_reserved-requires c =
    let s = c.args.self.now in
    let w = (goal.at.push_reserved-requires c).After-count_exchange in
    has_room s.lines.items s.places.items c.count_exchange.new.places.items c.cown_at-c.result c.index_mut-line.result.now s.kept (has_list w)
    c.index_mut-line.ensures.value (one_less w)

pub invariant_of-self : goal.invariant_of-self
invariant_of-self c =
    let s = c.args.self.now in
    let w = (goal.at.invariant_of-self c).After-count_exchange in
    record {
      kept = kept_exchange s.lines.items s.places.items c.count_exchange.new.places.items c.cown_at-c.result c.push_reserved.new.self
          c.index_mut-line.result.now s.kept (has_list w) c.index_mut-line.ensures.value
          c.push_reserved.ensures.len c.push_reserved.ensures.capacity
          (same_cowns s.places.items c.count_exchange.new.places.items c.args.slot.index c.count_exchange.ensures.here c.count_exchange.ensures.others)
          (one_less w)
          c.count_exchange.ensures.others_awaited;
    }

pub returns-clause-lists : goal.returns-clause-lists
returns-clause-lists c =
    let s = c.args.self.now in
    one_line s.lines.items c.cown_at-c.result (cown (place_at s.places.items c.args.slot.index) c.args.i) c.push_reserved.new.self c.index_mut-line.result.now
    (λ q. q ++ (fresh c.args.slot.index ∷ []))
    (its_cown (goal.at.returns-clause-lists c).After-count_exchange)
    (s.kept.in_range c.args.slot.index c.args.i c.requires.there)
    c.index_mut-line.ensures.value
    c.push_reserved.ensures.items
