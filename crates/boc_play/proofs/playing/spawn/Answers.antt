use Rattle.std.proofs.Common.{sym, ◌∙◌, ap}
use Rattle.std.specs.Prelude.{option_map}
use Rattle.std.specs.Option.{option_copied}
use Rattle.boc_program.specs.Rising.{rising}
use Rattle.boc_eval.specs.Wishes.{wish_of}
use Rattle.boc_play.proofs.Spawning.{main_comes, wish_may}
use Rattle.boc_play.proofs.playing.spawn.Goals.{in-Some, in-None}
use Rattle.boc_play.proofs.playing.spawn.Goals as goal

pub put-requires : goal.put-requires
put-requires c =
    elim c.match-next_wish.branch [
      | in-Some w ↦ wish_may c.args.run.now c.rows-row.result c.args.parent c.match-next_wish.offset.0 c.match-next_wish.offset.1 (wish_of w.in-Some.wish.now)
          c.requires c.rows-row.ensures.count
          (sym c.next_wish.ensures ∙ ap (λ o. option_map wish_of (option_copied o)) w.in-Some.is)
          (ap (λ z. z.0) w.offset-is)
          (ap (λ z. z.1.items) w.offset-is ∙ w.rising_cowns.ensures.sorted ∙ ap rising w.deref.ensures.0)
      | in-None w ↦ main_comes c.args.run.now c.rows-row.result c.args.parent c.match-next_wish.offset.0 c.match-next_wish.offset.1 c.requires
          c.rows-row.ensures.count
          (sym c.next_wish.ensures ∙ ap (λ o. option_map wish_of (option_copied o)) w.in-None.is)
          (ap (λ z. z.0) w.offset-is) (ap (λ z. z.1.items) w.offset-is ∙ w.new.ensures)
    ]

pub returns : goal.returns
returns c = record {
  row = c.rows-row.result;
  offset = c.match-next_wish.offset.0;
  cowns = c.match-next_wish.offset.1;
  may =
      elim c.match-next_wish.branch [
        | in-Some w ↦ wish_may c.args.run.now c.rows-row.result c.args.parent c.match-next_wish.offset.0 c.match-next_wish.offset.1 (wish_of w.in-Some.wish.now)
            c.requires c.rows-row.ensures.count
            (sym c.next_wish.ensures ∙ ap (λ o. option_map wish_of (option_copied o)) w.in-Some.is)
            (ap (λ z. z.0) w.offset-is)
            (ap (λ z. z.1.items) w.offset-is ∙ w.rising_cowns.ensures.sorted ∙ ap rising w.deref.ensures.0)
        | in-None w ↦ main_comes c.args.run.now c.rows-row.result c.args.parent c.match-next_wish.offset.0 c.match-next_wish.offset.1 c.requires
            c.rows-row.ensures.count
            (sym c.next_wish.ensures ∙ ap (λ o. option_map wish_of (option_copied o)) w.in-None.is)
            (ap (λ z. z.0) w.offset-is) (ap (λ z. z.1.items) w.offset-is ∙ w.new.ensures)
      ];
  longer = c.in_ok-put.ensures;
}
