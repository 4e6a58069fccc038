use Rattle.boc_compare.specs.Changing.{turned}
use Rattle.boc_compare.proofs.Turning.{turned_change}
use Rattle.boc_compare.proofs.laws.changes_turn.Goals as goal

pub returns : goal.returns
returns c = λ before after before_names after_names pairs others apart also a b pair. (
  λ stands. turned_change before_names after_names before after apart pairs others a b pair stands,
  λ stands. turned_change after_names before_names after before also others pairs b a (turned pair) stands,
)
