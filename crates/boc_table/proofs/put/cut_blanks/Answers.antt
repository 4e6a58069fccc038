use Rattle.std.proofs.Common.{◌≡◌, ◌++◌, ◌-◌, take, drop, arith, ap, sym, ◌∙◌, false}
use Rattle.std.specs.Prelude.{◌==◌}
use Rattle.std.proofs.lemmas.Bool.Decides.{nat_tests}
use Rattle.boc_table.specs.Tables.{without_blanks_behind}
use Rattle.boc_table.proofs.Blanks.{IsCut, all_cut, blank_off}
use Rattle.boc_table.proofs.put.cut_blanks.Goals as goal

pub loop-text-preserved : goal.loop-text-preserved
loop-text-preserved c =
    let text = c.loop-text.text in
    let cut : IsCut c.args.start text.items c.pop.new.self.items =
    blank_off text.items c.pop.new.self.items c.args.start c.len-in-loop-text.result c.index.result.now (omega arith) (omega arith) c.index.ensures
    c.if-index-eq32.true (c.pop.ensures.rest ∙ ap (λ n. take (n - 1) text.items) (sym c.len-in-loop-text.ensures)) in
    record { behind = cut.behind; front = cut.front ∙ c.loop-text.invariant.front; cut = cut.same ∙ c.loop-text.invariant.cut }

pub returns-else-index-eq32 : goal.returns-else-index-eq32
returns-else-index-eq32 c =
    let text = c.loop-text.text in
    let other : (c.index.result.now == 32) ≡ false = grind (arith, nat_tests, c.if-index-eq32.false) in
    all_cut text.items c.args.start c.len-in-loop-text.result c.index.result.now (omega arith) (omega arith) c.index.ensures other
    ∙ ap (λ front. front ++ without_blanks_behind (drop c.args.start text.items)) c.loop-text.invariant.front
    ∙ ap (λ end. take c.args.start c.args.text.now.items ++ end) c.loop-text.invariant.cut
