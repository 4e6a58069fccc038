use Rattle.std.proofs.Common.{map, ap, ◌∙◌, arith}
use Rattle.std.proofs.lemmas.List.{map_push}
use Rattle.boc_reader.specs.Grammar.{def_phrase, defs_phrase}
use Rattle.boc_reader.specs.Views.{def_of}
use Rattle.boc_reader.proofs.Each.{read_each_more}
use Rattle.boc_reader.proofs.Refused.{passes}
use Rattle.boc_reader.proofs.Declarations.{no_next_def}
use Rattle.boc_reader.proofs.Lefts.{left_more}
use Rattle.boc_reader.proofs.Blocks.{length-list, small_defs}
use Rattle.boc_reader.proofs.parse.defs.Goals as goal

pub defs-preserved : goal.defs-preserved
defs-preserved c =
    let item = c.in_ok-def.ensures.answers in
    record {
      read = read_each_more def_phrase _ _ _ _ _ _ c.defs.invariant.read item.0 item.1 c.in_ok-def.ensures.shorter
          (ap (map def_of) c.in_ok-push.ensures.items ∙ map_push def_of c.defs.all.items c.in_ok-def.field-0);
      left = rw c.in_ok-push.ensures.items
          (left_more c.defs.all.items c.in_ok-def.field-0 _ _ c.defs.invariant.left item.0.tokens c.in_ok-def.ensures.left);
    }

pub returns-clause-answers : goal.returns-clause-answers
returns-clause-answers c =
    let n = length-list (map def_of c.defs.all.items) in (
      record {
        tokens = c.defs.invariant.read.tokens;
        ends = c.defs-test.ensures.other;
        fits = omega (arith, c.defs.invariant.read.room);
        small = small_defs _ c.defs.invariant.read.small;
      },
      omega (arith, c.defs.invariant.read.room),
    )

pub returns-in_err-def-clause-answers : goal.returns-in_err-def-clause-answers
returns-in_err-def-clause-answers c =
    passes defs_phrase (λ v. map def_of v.items) _ _ _ _ _ c.from_residual.ensures.1 c.in_err-def.ensures.answers
    (no_next_def _ c.defs.cursor _ _ c.defs.invariant.read c.defs-test.ensures.next)
