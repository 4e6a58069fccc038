use Rattle.std.proofs.Common.{rules, ◌≡◌, ◌∙◌, length, arith, replicate}
use Rattle.std.specs.Prelude.{pred}
use Rattle.boc_greedy.specs.declared.frontier.RowState.TheVariants.{Unspawned}
use Rattle.boc_greedy.proofs.Transposed.{waits, are_waits, are_followers, counted_all, followers_there}
use Rattle.boc_greedy.proofs.Waking.{begun, main_waits}
use Rattle.boc_greedy.proofs.frontier.Frontier.behind.Goals as goal

pub times_linked-requires : goal.times_linked-requires
times_linked-requires c = followers_there c.args.rows.now c.args.followers.now c.requires.followers

pub returns-clause-kept : goal.returns-clause-kept
returns-clause-kept c =
    let states : c.in_ok-states.states.items ≡ replicate (length c.args.rows.now) Unspawned = search rules in
    let main = main_waits (length c.args.rows.now) c.requires.shape.not_empty in
    let follow = c.requires.followers in (
      waits c.args.rows.now c.args.followers.now follow,
      begun c.args.rows.now (waits c.args.rows.now c.args.followers.now follow) c.args.followers.now _ c.in_ok-unmet.unmet.items c.in_ok-ready.ready
          c.insert.new.self (pred (length c.args.rows.now)) (rw states main.0) main.1 (are_waits c.args.rows.now c.args.followers.now follow)
          (are_followers c.args.rows.now c.args.followers.now follow) (omega (arith, c.in_ok-unmet.ensures.whole, follow.whole))
          (λ r h. c.in_ok-unmet.ensures.each r (omega (arith, h, follow.whole)) ∙ counted_all c.args.rows.now c.args.followers.now follow r h)
          c.in_ok-ready.ensures.rows c.insert.ensures.set c.insert.ensures.rows,
    )
