use Rattle.std.proofs.Common.{◌≡◌, ℕ, ◌<◌, length, get_or, ◌∙◌, arith}
use Rattle.boc_runs.specs.Rows.{cowns_of, written_of}
use Rattle.boc_eager.proofs.KindCoding.{code_fits, code_next, code_step, wrote_bit}
use Rattle.boc_eager.proofs.Raising.{byte_low, writes_as_number}
use Rattle.boc_eager.proofs.kinds.code_of.Goals as goal

pub overflow_mul-code-in-loop-cown : goal.overflow_mul-code-in-loop-cown
overflow_mul-code-in-loop-cown c =
    let i : ℕ = c.loop-cown.cown-index in
    let few : i < 8 = omega (arith, c.loop-cown-test.true, c.as_slice-cown-items.ensures.few) in
    let fits = code_fits c.loop-cown.code i 0 0 few c.loop-cown.invariant.low (omega arith) (omega arith) in
    omega (arith, fits)

pub loop-cown-preserved : goal.loop-cown-preserved
loop-cown-preserved c =
    let i : ℕ = c.loop-cown.cown-index in
    let e = c.as_slice-cown-items.ensures.value ∙ c.held.ensures in
    let there : i < length (cowns_of c.args.rows.now c.args.row) = rw e at c.loop-cown-test.true in
    let at : c.from.result ≡ get_or (cowns_of c.args.rows.now c.args.row) i 0 = rw e at c.from.ensures in
    let w = writes_as_number c.args.rows.now c.args.row (get_or c.as_slice-cown-items.result.now i 0) c.from-writes.result c.writes.result c.writes.ensures
    c.from-writes.ensures in
    let w' = rw (← c.from.ensures) at w in
    record {
      code = code_next (cowns_of c.args.rows.now c.args.row) (written_of c.args.rows.now c.args.row) c.loop-cown.code i c.from.result c.from-writes.result _
          there at w' c.loop-cown.invariant.code;
      low = code_step c.loop-cown.code i c.from.result c.from-writes.result c.loop-cown.invariant.low
          (let byte = c.type_inv.cown-items i in omega (arith, c.from.ensures, byte.fits))
          (wrote_bit c.from.result c.from-writes.result (written_of c.args.rows.now c.args.row) w');
    }

pub overflow_add-code : goal.overflow_add-code
overflow_add-code c =
    let i : ℕ = c.loop-cown.cown-index in
    let few : i < 8 = omega (arith, c.loop-cown-test.true, c.as_slice-cown-items.ensures.few) in
    let byte = c.type_inv.cown-items i in
    let fits = code_fits c.loop-cown.code i c.from.result 0 few c.loop-cown.invariant.low (omega (arith, c.from.ensures, byte.fits)) (omega arith) in
    omega (arith, fits)

pub overflow_add-code-in-loop-cown : goal.overflow_add-code-in-loop-cown
overflow_add-code-in-loop-cown c =
    let i : ℕ = c.loop-cown.cown-index in
    let few : i < 8 = omega (arith, c.loop-cown-test.true, c.as_slice-cown-items.ensures.few) in
    let byte = c.type_inv.cown-items i in
    let fits = code_fits c.loop-cown.code i c.from.result c.from-writes.result few c.loop-cown.invariant.low (omega (arith, c.from.ensures, byte.fits))
    (byte_low c.writes.result c.from-writes.result c.from-writes.ensures) in
    omega (arith, fits)
