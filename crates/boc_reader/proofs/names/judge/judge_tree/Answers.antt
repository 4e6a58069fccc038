use Rattle.std.proofs.Common.{[], ap, sym, subst, ◌∙◌}
use Rattle.boc_reader.specs.NameUses.{first_declared}
use Rattle.boc_reader.specs.Judging.{Judges, if_right, bodies_verdict, body_verdict}
use Rattle.boc_reader.specs.Views.{block_of, tree_of}
use Rattle.boc_reader.specs.Resolving.{declared_of}
use Rattle.boc_reader.proofs.JudgedTrees.{at_cowns, at_defs, cowns_declare}
use Rattle.boc_reader.proofs.Verdicts.{judged_on}
use Rattle.boc_reader.proofs.names.judge.judge_tree.Goals as goal

pub returns-in_err-count : goal.returns-in_err-count
returns-in_err-count c =
    let t = tree_of c.args.tree.now in
    let whole = at_cowns c.args.tree.now c.new-before.result.items c.deref.result.now c.new-before.ensures.items c.deref.ensures.value in
    judged_on _ _ _ _ c.from_residual.ensures.1 c.in_err-count.ensures.said
    (λ kind n h. whole ∙ ap (λ v. if_right v (bodies_verdict t (first_declared t))) h)

pub unreachable-requires : goal.unreachable-requires
unreachable-requires c =
    let none = rw c.in-Err-WrongName.field-0-is at c.in-Err-WrongName.ensures in
    cowns_declare c.args.tree.now c.new-before.result.items c.deref.result.now c.in_ok-count.count c.new-before.ensures.items c.deref.ensures.value
    c.in_ok-count.ensures.said none.top

pub returns-in_err-count-2 : goal.returns-in_err-count-2
returns-in_err-count-2 c =
    let top = declared_of c.in-Ok.top in
    let whole = at_defs c.args.tree.now c.new-before.result.items c.judge_cowns.new.before.items c.deref.result.now c.deref-2.result.now c.in_ok-count.count top
    c.new-before.ensures.items c.deref.ensures.value c.deref-2.ensures.value c.in_ok-count.ensures.said c.in_ok-count.ensures.before c.in-Ok.ensures.top in
    judged_on _ _ _ _ c.from_residual-in_err-count-2.ensures.1 c.in_err-count-2.ensures
    (λ kind n h. whole ∙ ap (λ v. if_right v (body_verdict top [] [] (tree_of c.args.tree.now).main)) h)

pub returns : goal.returns
returns c =
    let top = declared_of c.in-Ok.top in
    let whole = at_defs c.args.tree.now c.new-before.result.items c.judge_cowns.new.before.items c.deref.result.now c.deref-2.result.now c.in_ok-count.count top
    c.new-before.ensures.items c.deref.ensures.value c.deref-2.ensures.value c.in_ok-count.ensures.said c.in_ok-count.ensures.before c.in-Ok.ensures.top
    ∙ ap (λ v. if_right v (body_verdict top [] [] (tree_of c.args.tree.now).main)) c.in_ok-count-2.ensures
    ∙ ap (λ ss. body_verdict top [] [] (block_of ss) c.in_ok-count-2.count) (sym c.deref-3.ensures.value) in
    subst (Judges c.judge_body.result) (sym whole) c.judge_body.ensures
