-- The definitions of the texts of records tried on a run.
use Rattle.std.proofs.Common.{◌≡◌, refl, codes}
use Rattle.std.specs.Fmt.{digits}
use Rattle.boc_record.specs.RecordTexts.{First, Second, record_text}
use Rattle.boc_runs.proofs.examples.TransferLog.{log}

pub text_of_log : record_text Second 2 log
    ≡ codes "boc 2 2\n+ 0 0 0\n> 0\n+ 1 0 2 0\n+ 2 0 3 0 1\n+ 3 0 4 1\n< 0 4 0\n> 1\n< 1 2 0 0\n> 2\n< 2 3 0 0 1\n> 3\n< 3 2 0 1\n.\n"
unfolding digits
text_of_log = refl

pub first_text_of_log : record_text First 2 log ≡ codes
    "boc 1 2\n+ 0 0 0\n> 0\n+ 1 0 2 0\n+ 2 0 3 0 1\n+ 3 0 4 1\n< 0 4 0\n> 1\n< 1 2 0\n> 2\n< 2 3 0\n> 3\n< 3 2 0\n.\n"
unfolding digits
first_text_of_log = refl
