use Rattle.boc_names.proofs.OneName.{one_naming, one_naming_by_file, one_numbering}
use Rattle.boc_names.proofs.laws.everything_has_one_name.Goals as goal

pub returns : goal.returns
returns c = record {
  run = one_naming;
  numbers = one_numbering;
  file = one_naming_by_file;
}
