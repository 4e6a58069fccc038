use Rattle.std.proofs.Common.{◌≡◌, ℕ, List, Option, Some, None, map, refl, subst}
use Rattle.std.specs.Prelude.{IfNone, IfSome}
use Rattle.boc_words.specs.EditWords.{IsEditWord, IsWritable, edit_word}
use Rattle.boc_words.specs.declared.asked.AskedEdit.{AskedEdit}
use Rattle.boc_words.proofs.Given.{all_next, first_misspelt, taken_next, writable_next}
use Rattle.boc_words.proofs.words.edits_in.Goals as goal

none_of : {P : Type 0} (found : Option AskedEdit) → found ≡ None → IfNone found P → P
none_of {P = P} found is h = subst (λ (f : Option AskedEdit). IfNone f P) is h

word_of : (word : List ℕ) (found : Option AskedEdit) (edit : AskedEdit) → found ≡ Some edit → IfSome found (λ e. word ≡ edit_word e)
    → word ≡ edit_word edit
word_of word found edit is h = subst (λ (f : Option AskedEdit). IfSome f (λ e. word ≡ edit_word e)) is h

pub returns-in_default-clause-refused : goal.returns-in_default-clause-refused
returns-in_default-clause-refused c =
    first_misspelt (map (λ t. t.now) c.args.words.now) c.args.words.now c.loop-index.index _
    refl c.loop-index-test.true c.loop-index.invariant.spelt
    (none_of c.in_ok-found.found c.in_default.is c.in_ok-found.ensures.none)

pub loop-index-preserved : goal.loop-index-preserved
loop-index-preserved c =
    let written = subst (λ (f : Option AskedEdit). IfSome f IsWritable) c.in-Some.is c.in_ok-found.ensures.writable in
    let spelt = word_of _ c.in_ok-found.found c.in-Some.edit c.in-Some.is c.in_ok-found.ensures.word in
    let word : IsEditWord _ = record {
      edit = c.in-Some.edit;
      writable = written;
      spells = spelt;
    } in
    record {
      taken = taken_next edit_word c.args.words.now c.loop-index.index _ c.loop-index.edits.items c.push.new.self.items c.in-Some.edit
          c.loop-index-test.true c.loop-index.invariant.taken c.in_ok-push.ensures.items spelt;
      writable = writable_next c.loop-index.edits.items c.push.new.self.items c.in-Some.edit c.loop-index.invariant.writable
          written c.in_ok-push.ensures.items;
      spelt = all_next IsEditWord c.args.words.now c.loop-index.index _ c.loop-index-test.true c.loop-index.invariant.spelt word;
    }
