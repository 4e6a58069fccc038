use Rattle.std.proofs.Common.{◌∙◌, List, ap, sym}
use Rattle.clap.specs.Words.{Text}
use Rattle.boc_words.specs.Commands.{Argument}
use Rattle.boc_words.proofs.Listed.{named_at, none_next, none_of_all, none_yet}
use Rattle.boc_words.proofs.commands.kind_of.Goals as goal

pub returns-then-eq-clause-some : goal.returns-then-eq-clause-some
returns-then-eq-clause-some c =
    named_at c.args.name.now c.entry.result.name.now _ (ap (λ (s : Text × List Argument). s.0) c.entry.ensures) (sym c.eq.ensures ∙ c.if-eq.true)

pub loop-kind-init : goal.loop-kind-init
loop-kind-init c = none_yet c.args.name.now _

pub loop-kind-preserved : goal.loop-kind-preserved
loop-kind-preserved c =
    none_next c.args.name.now c.entry.result.name.now _ c.loop-kind.kind-index _ c.loop-kind-test.true
    (ap (λ (s : Text × List Argument). s.0) c.entry.ensures) (sym c.eq.ensures ∙ c.if-eq.false) c.loop-kind.invariant

pub returns-clause-none : goal.returns-clause-none
returns-clause-none c = none_of_all c.args.name.now _ c.loop-kind.kind-index c.loop-kind-test.false c.loop-kind.invariant
