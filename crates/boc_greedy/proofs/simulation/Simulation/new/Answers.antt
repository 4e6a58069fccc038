use Rattle.std.proofs.Common.{◌≡◌, ◌<◌, List, length, sym, subst, ◌∙◌, arith, replicate, rules}
use Rattle.boc_program.specs.declared.limits.TheConstants.{MOST_TICKS}
use Rattle.boc_greedy.specs.declared.children.Change.{Change}
use Rattle.boc_greedy.specs.Families.{IsFamily, children_of, times_of}
use Rattle.boc_greedy.specs.Simulating.{later}
use Rattle.boc_greedy.proofs.Beginning.{all_set, others_clear, steps_first, kept_first, given_first, passed_first}
use Rattle.boc_greedy.proofs.Counting.{counts_first}
use Rattle.boc_greedy.proofs.Queued.{empty_queue}
use Rattle.boc_greedy.proofs.simulation.Simulation.new.Goals as goal

pub returns-clause-giving : goal.returns-clause-giving
returns-clause-giving c =
    let starts : c.in_ok-starts.starts.items ≡ replicate (length c.args.rows.now) later = search rules in
    let workers : c.in_ok-workers.workers.items ≡ replicate (length c.args.rows.now) 0 = search rules in
    let early : MOST_TICKS < later = omega arith in
    let next : List Change = c.args.family.now.next.items in
    let family : IsFamily c.args.rows.now (children_of c.in_ok-first.first.items) (times_of c.in_ok-first.first.items) (children_of next) (times_of next) =
    subst (λ (xs : List Change). IsFamily c.args.rows.now (children_of xs) (times_of xs) (children_of next) (times_of next))
    (sym (c.in_ok-first.ensures.items ∙ c.deref.ensures.value))
    c.requires.family in
    record {
      frontier = c.requires.frontier;
      kept = kept_first _ c.requires.shape _ later c.requires.few early _ _ _ _ _ _ _ _ _ starts workers c.requires.states family
          c.in_ok-with_capacity.ensures.items (all_set c.args.p c.requires.few) (others_clear c.args.p c.requires.few);
      given = given_first _ c.requires.shape _ later c.requires.few early _ _ _ _ _ _ _ _ _ starts workers c.requires.states
          family c.in_ok-with_capacity.ensures.items (all_set c.args.p c.requires.few) (others_clear c.args.p c.requires.few);
      passed = passed_first _ c.requires.shape _ later c.requires.few early _ _ _ _ _ _ _ _ _ starts workers c.requires.states
          family c.in_ok-with_capacity.ensures.items (all_set c.args.p c.requires.few) (others_clear c.args.p c.requires.few);
      are_timed = family.are_timed;
      are_next = rw c.deref-2.ensures.value family.are_next;
      queue = empty_queue _ c.in_ok-with_capacity.ensures.items c.in_ok-with_capacity.ensures.heap_order;
      counted = record { all = counts_first _ _; low = omega arith };
      low = omega (arith, steps_first (length c.args.rows.now) _ c.requires.shape.not_empty c.requires.states);
    }
