use Rattle.std.proofs.Common.{ℕ, ℤ, length, ap, arith}
use Rattle.std.proofs.lemmas.List.{length-map}
use Rattle.boc_program.specs.declared.short.Input.{Input}
use Rattle.boc_program.proofs.Outputs.{output_for_each}
use Rattle.std.specs.Prelude.{slice_index_or, pos}
use Rattle.boc_all_ends.proofs.running.run_at_once.Goals as goal

pub write_outputs-requires-clause-both : goal.write_outputs-requires-clause-both
write_outputs-requires-clause-both c = omega (
  arith,
  ap (length {A = ℕ}) c.deref-4.ensures.0,
  ap (length {A = ℤ}) c.deref-5.ensures.0,
  ap (length {A = ℤ}) c.in_ok-wishes.ensures.outputs,
  output_for_each c.body-body.result c.deref-2.result.now c.deref-3.result.now,
  ap (length {A = Input}) c.deref-3.ensures.0,
  ap (length {A = Input}) c.inputs_of-inputs.ensures,
  ap (length {A = ℕ}) c.deref.ensures.0,
  length-map c.deref.result.now (λ n. let i : Input = record { cown = n; value = slice_index_or c.args.values.now n (pos 0) } in i),
)
