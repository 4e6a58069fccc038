use Rattle.std.proofs.Common.{inr, string_bytes}
use Rattle.std.specs.declared.alloc.Global.{Global}
use Rattle.std.specs.declared.string.String.{String}
use Rattle.boc_said.specs.Lines.{IsShort}
use Rattle.boc_said.specs.declared.said.TheConstants.{MOST_WIDTH}
use Rattle.std.proofs.lemmas.List.Elements.{All-head, All-drop}
use Rattle.boc_said.proofs.Joined.{headed-append}
use Rattle.boc_said.proofs.said.Said.into_text.Goals as goal

pub headed-requires-clause-message : goal.headed-requires-clause-message
headed-requires-clause-message c =
    let P : String Global → Type 0 = λ l. IsShort MOST_WIDTH (string_bytes l) in
    let all = All-drop P c.min.result c.self.inside.lines.items c.self.invariant.0 in
    let here = rw (← c.deref-2.ensures.value, ← c.split_at.ensures.back, c.in-Some.ensures.cases.0) at all in
    rw c.deref-4.ensures (All-head P _ _ here)

pub returns : goal.returns
returns c =
    rw (c.in-Some-Some.is-0, c.in_ok-push_str.ensures.bytes, c.deref-5.ensures) (inr (headed-append _ _ _ c.in_ok-text.ensures c.in_ok-put_lines-3.ensures))
