use Rattle.std.proofs.Common.{◌≡◌, ◌+◌, ℕ, List, ◌++◌, ◌∙◌, ap, drop, get_or, refl, sym}
use Rattle.boc_names.specs.Names.{Text, text_at, texts_of}
use Rattle.boc_compare.specs.declared.pairs.Pair.{Pair}
use Rattle.boc_compare.specs.declared.totals.Totals.{Totals}
use Rattle.boc_compare.specs.ByName.{alone, known, unknown_before}
use Rattle.boc_compare.proofs.ByName.{alone_one, nothing, put_all, put_more}
use Rattle.boc_compare.proofs.pairs.put_new.Goals as goal

pub loop-own-preserved : goal.loop-own-preserved
loop-own-preserved c =
    let names : List Text = texts_of c.args.names.now in
    let list : List Totals = c.args.after.now in
    let i : ℕ = c.loop-own.own-index in
    let x : Totals = nothing in
    let y : Totals = get_or list i x in
    let other : c.known-other.result ≡ known c.args.before.now (text_at names y.key) =
    c.known-other.ensures ∙ ap (known c.args.before.now) c.text_at.ensures in
    put_more (λ (l : List Totals). unknown_before names l c.args.before.now) refl c.args.pairs.now.items list i x
    c.loop-own.pairs.items (alone y c.known-other.result) c.put_unknown.new.pairs.items c.loop-own-test.true
    (ap (λ (l : List Pair). l ++ unknown_before names (drop (i + 1) list) c.args.before.now)
    (alone_one y y (known c.args.before.now (text_at names y.key)) c.known-other.result refl (sym other)))
    c.in_ok-put_unknown.ensures c.loop-own.invariant

pub returns : goal.returns
returns c = put_all (λ (l : List Totals). unknown_before (texts_of c.args.names.now) l c.args.before.now) refl c.args.pairs.now.items c.args.after.now
    c.loop-own.own-index c.loop-own.pairs.items c.loop-own-test.false c.loop-own.invariant
