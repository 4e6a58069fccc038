use Rattle.std.proofs.Common.{sym, ◌∙◌}
use Rattle.std.proofs.lemmas.Slice.Eq.{strip_prefix_is}
use Rattle.std.proofs.lemmas.Bool.Decides.{Decides-eqb}
use Rattle.std.proofs.lemmas.Option.{MatchOption-at_some, MatchOption-at_none}
use Rattle.boc_page.proofs.Args.{args_apart, args_behind}
use Rattle.boc_page.proofs.defs.args_of.Goals as goal

pub returns-in-Some : goal.returns-in-Some
returns-in-Some c = let h = strip_prefix_is Decides-eqb c.args.row.now c.args.def.now c.strip_prefix.result c.strip_prefix.ensures.cases in
    args_behind c.args.def.now c.args.row.now c.in-Some.args.now (sym c.has_blank.ensures ∙ c.if-has_blank.false)
    (MatchOption-at_some _ _ c.in-Some.args c.in-Some.is h)

pub returns-in-None : goal.returns-in-None
returns-in-None c = let h = strip_prefix_is Decides-eqb c.args.row.now c.args.def.now c.strip_prefix.result c.strip_prefix.ensures.cases in
    args_apart c.args.def.now c.args.row.now (MatchOption-at_none _ _ c.in-None.is h)
