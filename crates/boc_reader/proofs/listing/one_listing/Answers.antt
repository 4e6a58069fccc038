use Rattle.boc_reader.proofs.Spellings.{one_list}
use Rattle.boc_reader.proofs.listing.one_listing.Goals as goal

pub returns : goal.returns
returns c = one_list
