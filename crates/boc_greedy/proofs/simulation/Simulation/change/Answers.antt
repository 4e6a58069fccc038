use Rattle.std.proofs.Common.{ℕ, ◌<◌, length, get_or, refl, sym, arith}
use Rattle.boc_greedy.specs.declared.children.Change.{Change}
use Rattle.boc_greedy.specs.declared.frontier.RowState.TheVariants.{Unspawned, Waiting, UnderWay, Over}
use Rattle.boc_greedy.specs.Simulating.{later}
use Rattle.boc_greedy.proofs.Puts.{changes_state, weight_set}
use Rattle.boc_greedy.proofs.Reading.{read_at}
use Rattle.boc_greedy.proofs.Timing.{child_at, puts_child, puts_time, timed_low, timed_after}
use Rattle.boc_greedy.proofs.Changing.{is_due, is_spawning}
use Rattle.boc_greedy.proofs.Queued.{popped}
use Rattle.boc_greedy.proofs.Spawning as spawning
use Rattle.boc_greedy.proofs.Ending as ending
use Rattle.boc_greedy.proofs.simulation.Simulation.change.Goals as goal

pub index-change-requires : goal.index-change-requires
index-change-requires c =
    let d = is_due _ c.requires.shape c.args.self.now _ c.requires.stepping c.requires.top in
    omega (arith, d.listed, c.args.self.now.first.ok.0)

pub spawn-requires-clause-unspawned : goal.spawn-requires-clause-unspawned
spawn-requires-clause-unspawned c =
    let d = is_due _ c.requires.shape c.args.self.now _ c.requires.stepping c.requires.top in
    let child = child_at c.args.self.now.first.items c.args.row c.index-change.result.now d.listed c.index-change.ensures in
    (rw child at d.unspawned) (omega (arith, c.if-change-len.true, c.len.ensures.count))

pub index_mut-requires : goal.index_mut-requires
index_mut-requires c =
    let d = is_due _ c.requires.shape c.args.self.now _ c.requires.stepping c.requires.top in
    omega (arith, d.listed, c.args.self.now.first.ok.0)

pub overflow_sub-next : goal.overflow_sub-next
overflow_sub-next c = (is_spawning _ c.requires.shape c.args.self.now _ c.requires.stepping c.requires.top _ _ c.index-change.ensures
    (omega (arith, c.if-change-len.true, c.len.ensures.count)) refl).rises

pub overflow_add-tick : goal.overflow_add-tick
overflow_add-tick c =
    let s = c.args.self.now in
    let d = is_due _ c.requires.shape s _ c.requires.stepping c.requires.top in
    let p = is_spawning _ c.requires.shape s _ c.requires.stepping c.requires.top _ _ c.index-change.ensures
    (omega (arith, c.if-change-len.true, c.len.ensures.count)) refl in
    omega (arith, c.from.ensures, p.rises, p.now, d.early, timed_low _ c.requires.shape _ _ _ d.there p.timed)

pub end-requires-clause-under_way : goal.end-requires-clause-under_way
end-requires-clause-under_way c = (is_due _ c.requires.shape c.args.self.now _ c.requires.stepping c.requires.top).under_way

pub index-requires : goal.index-requires
index-requires c =
    let d = is_due _ c.requires.shape c.args.self.now _ c.requires.stepping c.requires.top in
    omega (arith, d.there, c.requires.stepping.kept.states_are.workers_whole, c.args.self.now.workers.ok.0)

pub with_bit-self-requires : goal.with_bit-self-requires
with_bit-self-requires c =
    let d = is_due _ c.requires.shape c.args.self.now _ c.requires.stepping c.requires.top in
    let k = c.requires.stepping.kept in
    let worker = read_at c.args.self.now.workers.items c.args.row c.index.result.now (omega (arith, d.there, k.states_are.workers_whole)) c.index.ensures in
    omega (arith, worker, (k.under_way c.args.row d.under_way).below, k.states_are.few)

pub returns-then-change-len-clause-stepping : goal.returns-then-change-len-clause-stepping
returns-then-change-len-clause-stepping c =
    let shape = c.requires.shape in
    let s = c.args.self.now in
    let i = c.requires.stepping in
    let k = i.kept in
    let r : ℕ = c.args.row in
    let change : Change = c.index-change.result.now in
    let next : Change = get_or s.next.now change.child (record { child = 0; after = 0 }) in
    let there : change.child < length c.args.rows.now = omega (arith, c.if-change-len.true, c.len.ensures.count) in
    let d = is_due _ shape s r i c.requires.top in
    let p = is_spawning _ shape s r i c.requires.top change next c.index-change.ensures there refl in
    let sg = changes_state s.frontier.states.items c.spawn.new.self.states.items change.child Waiting (omega (arith, there, k.states_are.states_whole))
    c.spawn.ensures.states in
    let pf = puts_child s.first.items r next d.listed in
    let po = c.put_off.ensures s.tick r i.queue c.requires.top in
    record {
      frontier = c.spawn.ensures.kept;
      kept = spawning.kept_after _ shape _ later _ _ _ _ _ _ _ k r change.child _ _ _ _ _ d.due p.child there sg pf po p.next_child
          (λ l. omega (arith, p.now, p.rises, p.timed.spawns l, c.from.ensures)) (λ ge. omega (arith, p.now, p.rises, p.timed.ends ge, c.from.ensures));
      fresh = i.fresh;
      are_timed = timed_after _ _ _ _ _ r next.child next.after i.are_timed pf (puts_time s.first.items r next d.listed) p.timed;
      are_next = i.are_next;
      queue = po.is_queue;
      counted = i.counted;
    }

pub returns-then-change-len-clause-fewer : goal.returns-then-change-len-clause-fewer
returns-then-change-len-clause-fewer c =
    let s = c.args.self.now in
    let d = is_due _ c.requires.shape s _ c.requires.stepping c.requires.top in
    let child = child_at s.first.items c.args.row c.index-change.result.now d.listed c.index-change.ensures in
    let change : Change = c.index-change.result.now in
    omega (
      arith,
      weight_set s.frontier.states.items c.spawn.new.self.states.items change.child Unspawned Waiting
          ((rw child at d.unspawned) (omega (arith, c.if-change-len.true, c.len.ensures.count))) c.spawn.ensures.states,
    )

pub returns-else-change-len-clause-stepping : goal.returns-else-change-len-clause-stepping
returns-else-change-len-clause-stepping c =
    let shape = c.requires.shape in
    let s = c.args.self.now in
    let i = c.requires.stepping in
    let k = i.kept in
    let r : ℕ = c.args.row in
    let d = is_due _ shape s r i c.requires.top in
    let child = child_at s.first.items r c.index-change.result.now d.listed c.index-change.ensures in
    let worker = read_at s.workers.items r c.index.result.now (omega (arith, d.there, k.states_are.workers_whole)) c.index.ensures in
    let sg =
    changes_state s.frontier.states.items c.end.new.self.states.items r Over (omega (arith, d.there, k.states_are.states_whole)) c.end.ensures.states in
    let po = popped _ _ c.pop.result _ s.tick r i.queue c.requires.top s.queue.data.ok.0 c.pop.ensures.top c.pop.ensures.permutation c.pop.ensures.heap_order
    c.pop.ensures.none in
    record {
      frontier = c.end.ensures.kept;
      kept = ending.kept_after _ shape _ later _ _ _ _ _ _ _ k r _ _ _ d.due (omega (arith, child, c.if-change-len.false, c.len.ensures.count)) sg po.taken
          (rw (sym worker) at c.with_bit-self.ensures.set) (rw (sym worker) at c.with_bit-self.ensures.others);
      fresh = i.fresh;
      are_timed = i.are_timed;
      are_next = i.are_next;
      queue = po.is_queue;
      counted = i.counted;
    }

pub returns-else-change-len-clause-fewer : goal.returns-else-change-len-clause-fewer
returns-else-change-len-clause-fewer c =
    let s = c.args.self.now in
    let d = is_due _ c.requires.shape s _ c.requires.stepping c.requires.top in
    omega (arith, weight_set s.frontier.states.items c.end.new.self.states.items c.args.row UnderWay Over d.under_way c.end.ensures.states)
