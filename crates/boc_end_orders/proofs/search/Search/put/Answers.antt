use Rattle.std.proofs.Common.{◌≡◌, ◌++◌, ◌∷◌, [], List, ℕ, refl, sym, ◌∙◌, subst}
use Rattle.boc_end_orders.specs.declared.search.Trace.{Trace}
use Rattle.boc_end_orders.specs.Traces.{IsPutTraced}
use Rattle.boc_end_orders.proofs.Placing.{absent, put_new, put_there}
use Rattle.boc_end_orders.proofs.Spreading.{Entries}
use Rattle.boc_end_orders.proofs.search.Search.put.Goals as goal

pub returns-then-contains_key-clause-put : goal.returns-then-contains_key-clause-put
returns-then-contains_key-clause-put c =
    put_there c.args.front c.args.before c.args.parent c.args.names.items c.args.self.now.trail c.args.layer.now.entries
    (sym c.contains_key.ensures ∙ c.if-contains_key.true)

pub returns-clause-put : goal.returns-clause-put
returns-clause-put c =
    let t : Trace = record { order = c.in_ok-order.order; names = c.args.names } in
    let old : Entries = c.args.layer.now.entries in
    let now = c.in_ok-insert.ensures.entries ∙ absent c.args.front t old (sym c.contains_key.ensures ∙ c.if-contains_key.false) in
    subst (λ (es : Entries). IsPutTraced c.args.front c.args.before c.args.parent c.args.names.items c.args.self.now.trail c.push.new.self old es) (sym now)
    (put_new c.args.front c.args.before c.args.parent c.args.names.items c.args.self.now.trail c.push.new.self old t c.in_ok-order.ensures.orders
    c.in_ok-order.ensures.number refl)
