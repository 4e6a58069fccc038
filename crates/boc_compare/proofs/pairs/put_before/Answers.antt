use Rattle.std.proofs.Common.{◌≡◌, ◌+◌, ℕ, List, ◌∷◌, ◌++◌, [], ◌∙◌, Some, ap, drop, get_or, refl, sym}
use Rattle.boc_names.specs.Names.{Text, text_at, texts_of}
use Rattle.boc_compare.specs.declared.pairs.Pair.{Pair}
use Rattle.boc_compare.specs.declared.totals.Totals.{Totals}
use Rattle.boc_compare.specs.ByName.{known, known_after}
use Rattle.boc_compare.proofs.ByName.{put_all, put_more, nothing, with_one}
use Rattle.boc_compare.proofs.pairs.put_before.Goals as goal

pub loop-own-preserved : goal.loop-own-preserved
loop-own-preserved c =
    let names : List Text = texts_of c.args.names.now in
    let list : List Totals = c.args.before.now in
    let i : ℕ = c.loop-own.own-index in
    let x : Totals = nothing in
    let y : Totals = get_or list i x in
    let other : c.known-other.result ≡ known c.args.after.now (text_at names y.key) =
    c.known-other.ensures ∙ ap (known c.args.after.now) c.text_at.ensures in
    put_more (λ (l : List Totals). known_after names l c.args.after.now) refl c.args.pairs.now.items list i x
    c.loop-own.pairs.items (record { before = Some y; after = c.known-other.result } ∷ []) c.push.new.self.items c.loop-own-test.true
    (ap (λ (l : List Pair). l ++ known_after names (drop (i + 1) list) c.args.after.now)
    (with_one y y (known c.args.after.now (text_at names y.key)) c.known-other.result refl (sym other)))
    c.in_ok-push.ensures.items c.loop-own.invariant

pub returns : goal.returns
returns c = put_all (λ (l : List Totals). known_after (texts_of c.args.names.now) l c.args.after.now) refl c.args.pairs.now.items c.args.before.now
    c.loop-own.own-index c.loop-own.pairs.items c.loop-own-test.false c.loop-own.invariant
