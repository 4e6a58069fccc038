use Rattle.std.proofs.Common.{◌≡◌, ◌∙◌, ℤ, List, arith, ap, length, map}
use Rattle.boc_program.specs.declared.cown.Cown.{Cown}
use Rattle.boc_program.specs.declared.program.Program.{Program}
use Rattle.boc_program.specs.Programs.{cown_count, initial_values}
use Rattle.boc_runs.proofs.Behaviours.{initial-length}
use Rattle.boc_follow.specs.Standings.{standing_in}
use Rattle.boc_follow.proofs.follower.Follower.new.Goals as goal

-- the values that the cowns of a program have at first
first_values : (p q : Program) (values : List ℤ) (cowns : List Cown) → values ≡ initial_values cowns → cowns ≡ q.cowns → q ≡ p
    → values ≡ initial_values p.cowns
first_values p q values cowns are those same = are ∙ ap initial_values those ∙ ap (λ (r : Program). initial_values r.cowns) same

pub overflow_cast-len : goal.overflow_cast-len
overflow_cast-len c =
    let values = c.in_ok-values.values in
    let own =
    first_values c.args.program.now c.program.result.now values.items c.as_slice.result.now c.in_ok-values.ensures c.as_slice.ensures c.program.ensures in
    let many : length values.items ≡ cown_count c.args.program.now.cowns = ap (length {A = ℤ}) own ∙ initial-length c.args.program.now.cowns in
    omega (arith, many, c.len.ensures, values.ok.0, c.args.program.now.few_cowns)

pub new-requires : goal.new-requires
new-requires c =
    let values = c.in_ok-values.values in
    let own =
    first_values c.args.program.now c.program.result.now values.items c.as_slice.result.now c.in_ok-values.ensures c.as_slice.ensures c.program.ensures in
    let many : length values.items ≡ cown_count c.args.program.now.cowns = ap (length {A = ℤ}) own ∙ initial-length c.args.program.now.cowns in
    omega (arith, many, c.len.ensures, values.ok.0, c.args.program.now.few_cowns)

pub invariant_of-result : goal.invariant_of-result
invariant_of-result c =
    let values = c.in_ok-values.values in
    let own =
    first_values c.args.program.now c.program.result.now values.items c.as_slice.result.now c.in_ok-values.ensures c.as_slice.ensures c.program.ensures in
    let many : length values.items ≡ cown_count c.args.program.now.cowns = ap (length {A = ℤ}) own ∙ initial-length c.args.program.now.cowns in
    let count : c.len.result ≡ cown_count c.args.program.now.cowns = omega (arith, many, c.len.ensures, values.ok.0) in
    rw c.in_ok-rules.ensures (record {
      run = tt;
      cowns_are = count;
      rows_are = ap (map standing_in) c.new-2.ensures.items;
      values_are = own;
    })
