use Rattle.boc_rules.proofs.Judging.{rows_of_complete}
use Rattle.boc_rules.proofs.judge.Judge.into_rows.Goals as goal

pub new-requires : goal.new-requires
new-requires c = rows_of_complete c.self.inside.run c.self.invariant.0 (c.is_complete.ensures.0 c.if-not-is_complete.false)
