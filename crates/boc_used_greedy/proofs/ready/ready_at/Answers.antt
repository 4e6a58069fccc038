use Rattle.std.proofs.Common.{◌≡◌, ℕ, ◌+◌, max, length, refl, subst, sym, ap, arith}
use Rattle.std.specs.Prelude.{slice_index}
use Rattle.boc_runs.specs.Rows.{cowns_of}
use Rattle.boc_used_greedy.proofs.Allowed.{IsReadyTo, ready_more, ready_all}
use Rattle.boc_used_greedy.proofs.ready.ready_at.Goals as goal

pub loop-own-preserved : goal.loop-own-preserved
loop-own-preserved c =
    let rows = c.args.rows.now in
    let holds = c.args.holds.now.all.items in
    let starts = c.args.starts.now in
    let row : ℕ = c.args.row in
    let n : ℕ = c.loop-own.own-index in
    let allowed = rw c.cowns-own-items.ensures at c.in_ok-allowed.ensures in
    let is : c.max-tick.result ≡ max c.loop-own.tick c.in_ok-allowed.field-0 = omega (arith, c.max-tick.ensures) in
    subst (λ (x : ℕ). IsReadyTo rows holds starts row (n + 1) x) (sym is)
    (ready_more rows holds starts row n c.loop-own.tick (slice_index (cowns_of rows row) n) c.in_ok-allowed.field-0 c.loop-own.invariant refl
    (allowed starts c.requires.fronts c.requires.not_started))

pub returns-clause-from : goal.returns-clause-from
returns-clause-from c =
    let rows = c.args.rows.now in
    let holds = c.args.holds.now.all.items in
    let starts = c.args.starts.now in
    let row : ℕ = c.args.row in
    let all : c.loop-own.own-index ≡ length (cowns_of rows row) =
    omega (arith, c.loop-own-test.false, c.loop-own.auto.own-index-end, ap (length {A = ℕ}) c.cowns-own-items.ensures) in
    ready_all rows holds starts row c.loop-own.tick (subst (λ (n : ℕ). IsReadyTo rows holds starts row n c.loop-own.tick) all c.loop-own.invariant)
