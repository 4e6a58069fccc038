use Rattle.std.proofs.Common.{◌≡◌, List, Some, sym, ap, ◌∙◌, subst}
use Rattle.std.proofs.lemmas.List.{drop-map}
use Rattle.boc_reader.specs.Placed.{token_of, tokens_of}
use Rattle.boc_reader.specs.Grammar.{NoShape}
use Rattle.boc_reader.specs.WrongShape.{IsStray}
use Rattle.boc_reader.specs.declared.token.Placed.{Placed}
use Rattle.boc_reader.proofs.expected.Expected.of_text.Goals as goal

pub returns-in-Some-2 : goal.returns-in-Some-2
returns-in-Some-2 c =
    let read = rw c.in-Some-2.is at c.in_ok-stray.ensures in
    let stray : IsStray c.in-Some-2.stray (tokens_of c.in-Some.tokens.items) =
    subst (λ (ps : List Placed). IsStray c.in-Some-2.stray (tokens_of ps)) c.deref.ensures.value read in
    let rest = drop-map (λ (p : Placed). token_of p.token) c.in-Some-2.stray.before c.in-Some.tokens.items in
    record {
      tokens = rw c.in-Some.is at c.in_ok-tokens.ensures;
      fault = c.in-Some-2.stray.fault;
      says = stray.says;
      wanted_there = stray.wanted_there;
      within_there = rw (sym rest) stray.within_there;
    }

pub returns : goal.returns
returns c ts has_tokens none =
    let read = rw c.in-Some.is at c.in_ok-tokens.ensures in
    let right = rw c.in-None.is at c.in_ok-stray.ensures in
    let same : Some (tokens_of c.in-Some.tokens.items) ≡ Some ts = sym read.has_tokens ∙ has_tokens in
    let is : tokens_of c.deref.result.now ≡ ts = ap tokens_of c.deref.ensures.value ∙ cc in
    right (subst NoShape (sym is) none)
