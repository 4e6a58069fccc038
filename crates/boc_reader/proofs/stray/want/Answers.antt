use Rattle.std.proofs.Common.{Result, Ok, Err}
use Rattle.std.specs.Result.{OnOk}
use Rattle.std.proofs.lemmas.Iterator.Adapters.{items_from_extend, YieldsList-from_rev_slice}
use Rattle.std.proofs.lemmas.Iterator.Consumers.{YieldsList-from_copied}
use Rattle.boc_reader.proofs.Strays.{wanted_first}
use Rattle.boc_reader.proofs.stray.want.Goals as goal

where_ok : {E P Q : Type 0} (r : Result (Unit {0}) E) → OnOk r P → (P → Q) → OnOk r Q
where_ok (Ok u) h f = f h
where_ok (Err e) h f = tt

pub returns : goal.returns
returns c =
    where_ok c.extend.result
    (items_from_extend c.extend.result c.extend.ensures.ran (YieldsList-from_copied (YieldsList-from_rev_slice c.args.then.now cc)))
    (λ h. wanted_first c.args.wanted.now.items c.extend.new.self.items c.args.then.now h.0)
