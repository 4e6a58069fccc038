use Rattle.std.proofs.Common.{◌<◌, ◌∙◌, ◌++◌, ap, length, arith}
use Rattle.std.proofs.lemmas.Bool.Decides.{nat_tests}
use Rattle.boc_names.specs.Names.{Text}
use Rattle.boc_names.proofs.Words.{no_words, put_others}
use Rattle.boc_names.proofs.entry.+put_words.Goals as goal

pub returns-in_default : goal.returns-in_default
returns-in_default t c =
    let some : 0 < length c.args.words.now = grind (arith, nat_tests) in
    no_words c.args.words.now some c.in_default.ensures

pub returns : goal.returns
returns t c = put_others c.put_words.result c.args.words.now c.in-Some.word.now c.in-Some.others.now c.args.text.now.items
    c.extend_from_slice-2.new.self.items c.put_words.new.text.items c.in-Some.ensures
    (c.in_ok-extend_from_slice-2.ensures.items ∙ ap (λ (t : Text). t ++ c.in-Some.word.now) c.in_ok-extend_from_slice.ensures.items)
    c.put_words.ensures
