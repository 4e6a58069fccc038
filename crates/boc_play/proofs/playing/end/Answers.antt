use Rattle.std.proofs.Common.{sym, ◌∙◌, ap}
use Rattle.std.specs.Prelude.{option_map}
use Rattle.std.specs.Option.{option_copied}
use Rattle.boc_eval.specs.Wishes.{wish_of}
use Rattle.boc_play.proofs.Standing.{may_end}
use Rattle.boc_play.proofs.playing.end.Goals as goal

pub put-requires : goal.put-requires
put-requires c =
    may_end c.args.run.now c.args.row c.in-Some-end_of.event c.requires c.in-Some-end_of.ensures
    (sym c.next_wish.ensures ∙ ap (λ o. option_map wish_of (option_copied o)) c.in_default.is)

pub returns : goal.returns
returns c =
    let spent = sym c.next_wish.ensures ∙ ap (λ o. option_map wish_of (option_copied o)) c.in_default.is in
    record {
      event = c.in-Some-end_of.event;
      ends = c.in-Some-end_of.ensures;
      spent = spent;
      may = may_end c.args.run.now c.args.row c.in-Some-end_of.event c.requires c.in-Some-end_of.ensures spent;
      longer = c.in_ok-put.ensures;
    }
