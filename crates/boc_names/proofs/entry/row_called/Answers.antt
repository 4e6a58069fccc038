use Rattle.std.proofs.Common.{◌<◌, ◌∙◌, ◌++◌, ap, length, arith}
use Rattle.std.specs.Prelude.{codes}
use Rattle.std.proofs.lemmas.Bool.Decides.{nat_tests}
use Rattle.std.proofs.lemmas.Result.{err_from_is_err_and}
use Rattle.boc_names.specs.Names.{Text}
use Rattle.boc_names.proofs.Words.{no_words, words_cons, says_words}
use Rattle.boc_names.proofs.entry.row_called.Goals as goal

pub returns-in_default : goal.returns-in_default
returns-in_default c =
    let some : 0 < length c.args.args.now = grind (arith, nat_tests) in
    no_words c.args.args.now some c.in_default.ensures

pub returns-in_err-put_words : goal.returns-in_err-put_words
returns-in_err-put_words c =
    let p = err_from_is_err_and c.from_residual-in_err-put_words.result c.from_residual-in_err-put_words.ensures.1 in
    rw (p.1, p.2) (words_cons c.args.args.now c.in-Some.first.now c.in-Some.others.now _ c.in-Some.ensures c.in_err-put_words.ensures)

pub returns : goal.returns
returns c = says_words c.args.name.now c.args.args.now c.in-Some.first.now c.in-Some.others.now c.extend_from_slice.new.self.items
    c.put_words.new.text.items c.push-2.new.self.items c.in-Some.ensures
    (c.in_ok-extend_from_slice.ensures.items ∙ ap (λ (t : Text). t ++ c.in-Some.first.now)
    (c.in_ok-push.ensures.items ∙ ap (λ (t : Text). t ++ codes "(") c.in_ok-text.ensures))
    c.in_ok-put_words.ensures c.in_ok-push-2.ensures.items
