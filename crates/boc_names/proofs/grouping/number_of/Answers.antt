use Rattle.std.proofs.Common.{◌≡◌, ◌∙◌, Some, ap, sym, subst, length, arith}
use Rattle.std.proofs.lemmas.Map.Text.{btree_map_updates_str}
use Rattle.boc_names.specs.Names.{texts_of}
use Rattle.boc_names.specs.Laying.{KnowsNames}
use Rattle.boc_names.proofs.Groups.{knows_more, takes_known, takes_next, texts_length, texts_push}
use Rattle.boc_names.proofs.grouping.number_of.Goals as goal

pub returns-in-Some-clause-takes : goal.returns-in-Some-clause-takes
returns-in-Some-clause-takes c = takes_known c.args.seen.now (texts_of c.args.names.now.items) c.args.text.now c.in-Some.number c.requires.known
    (sym c.get.ensures.value ∙ sym c.copied.ensures ∙ c.in-Some.is)

pub returns-clause-takes : goal.returns-clause-takes
returns-clause-takes c =
    let number : c.len-number.result ≡ length (texts_of c.args.names.now.items) =
    omega (arith, c.len-number.ensures, texts_length c.args.names.now.items) in
    takes_next c.args.seen.now (texts_of c.args.names.now.items) (texts_of c.push.new.self.items) c.args.text.now c.len-number.result
    c.requires.known (sym c.get.ensures.value ∙ sym c.copied.ensures ∙ c.in_default.is)
    number
    (rw c.in_ok-push.ensures.items (texts_push c.args.names.now.items c.in_ok-copied.field-0 c.args.text.now c.in_ok-copied.ensures))

pub returns-clause-knows : goal.returns-clause-knows
returns-clause-knows c =
    let number : c.len-number.result ≡ length (texts_of c.args.names.now.items) =
    omega (arith, c.len-number.ensures, texts_length c.args.names.now.items) in
    subst (KnowsNames c.insert.new.self)
    (sym (ap texts_of c.in_ok-push.ensures.items ∙ texts_push c.args.names.now.items c.in_ok-copied.field-0 c.args.text.now c.in_ok-copied.ensures))
    (knows_more c.args.seen.now c.insert.new.self (texts_of c.args.names.now.items) c.args.text.now c.len-number.result number c.requires.known
    (btree_map_updates_str c.args.text.now c.args.seen.now c.insert.new.self (Some c.len-number.result) c.in_ok-insert.ensures.updates))
