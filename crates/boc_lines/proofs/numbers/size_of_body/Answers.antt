use Rattle.std.proofs.Common.{◌≤◌, ◌<◌, ◌∙◌, ap, subst, sym, arith}
use Rattle.boc_program.specs.Syntax.{code_size}
use Rattle.boc_lines.proofs.Numbering.{size_within}
use Rattle.boc_lines.proofs.numbers.size_of_body.Goals as goal

pub size_of-requires : goal.size_of-requires
size_of-requires c = subst (λ b. code_size b < 4294967296) (sym c.as_slice.ensures) (omega (arith, size_within c.args.body.now.block, c.args.body.now.few_nodes))

pub returns-clause-few : goal.returns-clause-few
returns-clause-few c = subst (λ n. n ≤ 1000) (sym (c.size_of.ensures ∙ ap code_size c.as_slice.ensures))
    (omega (arith, size_within c.args.body.now.block, c.args.body.now.few_nodes))
