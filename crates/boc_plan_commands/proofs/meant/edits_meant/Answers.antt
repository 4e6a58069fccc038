use Rattle.std.proofs.Common.{◌≡◌, ◌≢◌, ◌∙◌, ◌+◌, ◌-◌, ◌++◌, ◌∷◌, [], ℕ, ap, arith, length}
use Rattle.std.proofs.lemmas.List.{append-nil, length-append}
use Rattle.boc_plans.specs.declared.edit.Edit.{Edit}
use Rattle.boc_words.specs.declared.asked.AskedEdit.{AskedEdit}
use Rattle.boc_plan_commands.specs.Asked.{edits_of}
use Rattle.boc_plan_commands.proofs.MeantParts.{all_are_meant, are_meant, counted_next, known_next, meant_next, none_there, one_there, some_there}
use Rattle.boc_plan_commands.proofs.meant.edits_meant.Goals as goal

pub returns : goal.returns
returns c =
    all_are_meant c.args.names.now c.args.asked.now c.loop-one.one-index _ c.loop-one.auto.one-index-end c.loop-one-test.false
    c.loop-one.invariant.edits_are c.loop-one.invariant.counts_are c.loop-one.invariant.known

pub returns-then-count-eq0 : goal.returns-then-count-eq0
returns-then-count-eq0 c =
    let own = edits_of c.args.names.now c.one-item.result in
    let put = ap (length {A = Edit}) c.in_ok-put_edits.ensures in
    let more : c.len.result ≡ c.len-before.result + length own =
    omega (arith, put, c.len.ensures, c.len-before.ensures, length-append c.loop-one.edits.items own) in
    let none : own ≡ [] = none_there own c.len-before.result c.len.result more (omega (arith, more, c.if-count-eq0.true)) in
    are_meant c.args.names.now c.args.asked.now c.loop-one.one-index _ c.loop-one.auto.one-index-end
    (c.in_ok-put_edits.ensures ∙ ap (λ edits. c.loop-one.edits.items ++ edits) none ∙ append-nil c.loop-one.edits.items ∙ c.loop-one.invariant.edits_are)
    c.loop-one.invariant.counts_are c.loop-one.invariant.known
    (λ one is. ap (edits_of c.args.names.now)
    (one_there c.args.asked.now c.loop-one.one-index c.one-item.result one c.one-item.is c.loop-one-test.true is) ∙ none)

pub loop-one-preserved : goal.loop-one-preserved
loop-one-preserved c =
    let one = c.one-item.result in
    let own = edits_of c.args.names.now one in
    let put = ap (length {A = Edit}) c.in_ok-put_edits.ensures in
    let more : c.len.result ≡ c.len-before.result + length own =
    omega (arith, put, c.len.ensures, c.len-before.ensures, length-append c.loop-one.edits.items own) in
    let count : c.len.result - c.len-before.result ≡ length own = omega (arith, more) in
    record {
      edits_are = meant_next (edits_of c.args.names.now) c.args.asked.now c.loop-one.one-index one c.loop-one.edits.items c.put_edits.new.edits.items
          c.loop-one-test.true c.one-item.is c.loop-one.invariant.edits_are c.in_ok-put_edits.ensures;
      counts_are = counted_next (λ (a : AskedEdit). length (edits_of c.args.names.now a)) c.args.asked.now c.loop-one.one-index one c.loop-one.counts.items
          c.push.new.self.items c.loop-one-test.true c.one-item.is c.loop-one.invariant.counts_are
          (c.in_ok-push.ensures.items ∙ ap (λ (n : ℕ). c.loop-one.counts.items ++ n ∷ []) count);
      known = known_next (λ a. edits_of c.args.names.now a ≢ []) c.args.asked.now c.loop-one.one-index one c.loop-one-test.true c.one-item.is
          c.loop-one.invariant.known
          (some_there own c.len-before.result c.len.result more (λ same. c.if-count-eq0.false (omega (arith, same))));
    }
