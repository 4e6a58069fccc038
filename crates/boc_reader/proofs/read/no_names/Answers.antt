use Rattle.boc_reader.specs.Placed.{tokens_of}
use Rattle.boc_reader.specs.Views.{tree_of}
use Rattle.boc_reader.proofs.RightNames.{right_resolves}
use Rattle.boc_reader.proofs.WrongPlaces.{name_begins, wrong_is_there}
use Rattle.boc_reader.proofs.read.no_names.Goals as goal

pub unreachable-requires : goal.unreachable-requires
unreachable-requires c =
    let none = c.requires.none in
    let some = (right_resolves (tree_of c.args.tree.now) c.in-Ok.field-0 c.in-Ok.ensures).1 in
    cc (none, some)

pub place_of_name-requires : goal.place_of_name-requires
place_of_name-requires c =
    wrong_is_there (tokens_of c.args.tokens.now) (tree_of c.args.tree.now) c.in-Err-At.wrong c.in-Err-At.before c.requires.shape
    (rw c.in-Err-At.field-0-is at c.in-Err-At.ensures)

pub wrong_name-requires-clause-within : goal.wrong_name-requires-clause-within
wrong_name-requires-clause-within c =
    (name_begins c.args.text.now c.args.tokens.now c.in-Err-At.before c.place_of_name.result c.requires.placed c.requires.reached c.place_of_name.ensures).1

pub wrong_name-requires-clause-first : goal.wrong_name-requires-clause-first
wrong_name-requires-clause-first c = record {
  tokens = tokens_of c.args.tokens.now;
  has_tokens = c.requires.tokens;
  tree = tree_of c.args.tree.now;
  has_shape = c.requires.shape;
  before = c.in-Err-At.before;
  is_wrong = rw c.in-Err-At.field-0-is at c.in-Err-At.ensures;
  place =
      (name_begins c.args.text.now c.args.tokens.now c.in-Err-At.before c.place_of_name.result c.requires.placed c.requires.reached c.place_of_name.ensures).0;
}
