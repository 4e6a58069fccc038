use Rattle.std.proofs.Common.{IsTrue, ◌∙◌, ap, map, refl, sym, subst}
use Rattle.boc_program.specs.declared.program.Program.{Program}
use Rattle.boc_runs.specs.Serial.{behaviour_of}
use Rattle.boc_eval.specs.Instances.{behaviour_in}
use Rattle.boc_lines.specs.Replays.{Fits, meaning_of, values_after}
use Rattle.boc_lines.proofs.Alongside.{not_fit, not_ticks, took}
use Rattle.boc_lines.proofs.Replaying.{not_true}
use Rattle.boc_lines.proofs.along.Along.take_as.Goals as goal

pub returns-then-not-fits-clause-took : goal.returns-then-not-fits-clause-took
returns-then-not-fits-clause-took c = λ s h next.
    not_fit c.args.program.now s c.args.row.now (behaviour_in c.args.instance) next (λ f. not_true (subst IsTrue c.if-not-fits.true (c.fits.ensures.1 f)))

pub run_at_once-requires-clause-fits : goal.run_at_once-requires-clause-fits
run_at_once-requires-clause-fits c =
    subst (λ (p : Program). Fits p (behaviour_in c.args.instance)) (sym c.requires.compiled)
    (c.fits.ensures.0 (subst IsTrue (sym c.if-not-fits.false) refl))

pub returns-then-own-row-clause-took : goal.returns-then-own-row-clause-took
returns-then-own-row-clause-took c = λ s h next.
    let b = behaviour_in c.args.instance in
    not_ticks c.args.program.now s c.args.row.now b c.args.values.now c.args.self.now c.in_ok-own.own.ticks h next
    (c.in_ok-own.ensures.ticks ∙ ap (λ (p : Program). (meaning_of p b c.args.values.now).ticks) c.requires.compiled) (λ e. c.if-own-row.true e)

pub returns-clause-took : goal.returns-clause-took
returns-clause-took c = λ s h next.
    let b = behaviour_in c.args.instance in
    let p = c.args.program.now in
    took p s c.args.row.now c.args.instance c.args.values.now c.run_at_once.new.values c.args.self.now c.put.new.self c.in_ok-own.own.ticks
    (map behaviour_in c.in_ok-own.own.wished.items) h next (c.fits.ensures.0 (subst IsTrue (sym c.if-not-fits.false) refl))
    (c.in_ok-own.ensures.ticks ∙ ap (λ (q : Program). (meaning_of q b c.args.values.now).ticks) c.requires.compiled)
    c.if-own-row.false
    (c.in_ok-own.ensures.wished ∙ ap (λ (q : Program). map behaviour_of (meaning_of q b c.args.values.now).wishes) c.requires.compiled)
    (c.in_ok-own.ensures.values ∙ ap (λ (q : Program). values_after q b c.args.values.now) c.requires.compiled)
    c.in_ok-put.ensures.put
