use Rattle.std.proofs.Common.{arith}
use Rattle.std.proofs.lemmas.Option.{slice_get_within}
use Rattle.boc_greedy.specs.declared.frontier.RowState.TheVariants.{Waiting}
use Rattle.boc_greedy.proofs.Queueing.{queued_set}
use Rattle.boc_greedy.proofs.Waking.{had_awaits, had_can, can_had, started}
use Rattle.boc_greedy.proofs.frontier.Frontier.start_least.Goals as goal

pub take_least-requires : goal.take_least-requires
take_least-requires c = queued_set _ _ _ c.requires.frontier.1.are_ready

pub returns-in_err-row-clause-none : goal.returns-in_err-row-clause-none
returns-in_err-row-clause-none c = rw c.from_residual.ensures (λ row can. c.in_err-row.ensures.none row (can_had _ _ _ _ _ _ row c.requires.frontier.1 can))

pub index_mut-requires : goal.index_mut-requires
index_mut-requires c =
    let f = c.args.self.now in
    let top = had_awaits _ _ _ _ _ _ c.in_ok-row.row c.requires.frontier.1 c.in_ok-row.ensures.had in
    omega (arith, slice_get_within f.states.items c.in_ok-row.row Waiting top.waiting, f.states.ok.0)

pub returns-clause-kept : goal.returns-clause-kept
returns-clause-kept c = (
  c.requires.frontier.0,
  started _ _ _ _ _ _ c.in_ok-row.row c.take_least.new.self c.requires.frontier.1 c.in_ok-row.ensures.had
      c.take_least.ensures.set c.in_ok-row.ensures.rows,
)

pub returns-clause-can : goal.returns-clause-can
returns-clause-can c = had_can _ _ _ _ _ _ c.in_ok-row.row c.requires.frontier.1 c.in_ok-row.ensures.had

pub returns-clause-least : goal.returns-clause-least
returns-clause-least c = λ other can. c.in_ok-row.ensures.least other (can_had _ _ _ _ _ _ other c.requires.frontier.1 can)
