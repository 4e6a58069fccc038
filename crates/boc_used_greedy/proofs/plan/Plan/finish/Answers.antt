use Rattle.std.proofs.Common.{ℕ, Option, None, subst}
use Rattle.boc_used_greedy.specs.Plans.{IsMade}
use Rattle.boc_used_greedy.proofs.Finishing.{finished}
use Rattle.boc_used_greedy.proofs.plan.Plan.finish.Goals as goal

pub next_row-requires-clause-made : goal.next_row-requires-clause-made
next_row-requires-clause-made c = (c.requires.made.0, c.loop-list.invariant.made c.requires.made.0 c.requires.made.1)

pub start-requires-clause-made : goal.start-requires-clause-made
start-requires-clause-made c = (
  c.requires.made.0,
  subst (λ (o : Option ℕ). IsMade c.args.rows.now c.args.holds.now.all.items c.requires.made.0 o c.next_row.new.self) c.in-Some.is
      (c.in_ok-row.ensures.next c.requires.made.0 (c.loop-list.invariant.made c.requires.made.0 c.requires.made.1)),
)

pub loop-list-preserved : goal.loop-list-preserved
loop-list-preserved c = record {
  made = λ p m. c.in_ok-start.ensures.made p (subst (λ (o : Option ℕ). IsMade c.args.rows.now c.args.holds.now.all.items p o c.next_row.new.self)
      c.in-Some.is (c.in_ok-row.ensures.next p (c.loop-list.invariant.made p m)));
  low = c.in_ok-start.ensures.low;
}

pub returns : goal.returns
returns c = λ p m.
    let rows = c.args.rows.now in
    let holds = c.args.holds.now.all.items in
    let before = c.loop-list.invariant.made p m in
    let after : IsMade rows holds p None c.next_row.new.self =
    subst (λ (o : Option ℕ). IsMade rows holds p o c.next_row.new.self) c.in_default.is (c.in_ok-row.ensures.next p before) in
    let none = rw c.in_default.is at c.in_ok-row.ensures.none in
    finished rows c.requires.shape holds p c.loop-list.self c.next_row.new.self before after c.in_ok-row.ensures.starts c.loop-list.invariant.low none
