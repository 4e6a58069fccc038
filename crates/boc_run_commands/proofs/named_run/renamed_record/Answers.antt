use Rattle.boc_run_commands.proofs.GivenRuns.{read_renamed, refused_renamed, refused_unnamed}
use Rattle.boc_run_commands.proofs.named_run.renamed_record.Goals as goal

pub returns-clause-read : goal.returns-clause-read
returns-clause-read g c =
    read_renamed c.args.bytes.now c.in_ok-numbered.numbered c.renamed.result _ _ c.in_ok-numbered.ensures.read c.renamed.ensures.renamed

pub returns-clause-refused : goal.returns-clause-refused
returns-clause-refused g c =
    refused_renamed c.args.bytes.now c.in_ok-numbered.numbered c.renamed.result _ _ c.in_ok-numbered.ensures.read c.renamed.ensures.renamed

pub returns-in_err-numbered-clause-refused : goal.returns-in_err-numbered-clause-refused
returns-in_err-numbered-clause-refused g c =
    refused_unnamed c.args.bytes.now _ c.in_err-numbered.field-0.0 _ c.from_residual.ensures.1 c.in_err-numbered.ensures.refused
