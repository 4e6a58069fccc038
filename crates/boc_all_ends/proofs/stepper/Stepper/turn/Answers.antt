use Rattle.std.proofs.Common.{◌≡◌, ◌<◌, ◌∷◌, ℤ, length, map, List, Some, refl, sym, ◌∙◌, ap, subst, arith}
use Rattle.std.specs.Prelude.{slice_get}
use Rattle.std.proofs.lemmas.List.{length-map}
use Rattle.std.proofs.lemmas.Option.{slice_get_read}
use Rattle.boc_program.proofs.ChangedItems.{place_below}
use Rattle.boc_program.specs.declared.program.Program.{Program}
use Rattle.boc_runs.specs.Serial.{Behaviour, behaviour_of, after_outputs}
use Rattle.boc_eval.specs.Queue.{QueueFits}
use Rattle.boc_eval.proofs.Queued.{rewritten}
use Rattle.boc_front_rows.specs.Lists.{list_at, wished}
use Rattle.boc_front_rows.specs.Rows.{plain, plains}
use Rattle.boc_front_rows.proofs.Mapped.{at_mapped}
use Rattle.boc_all_ends.specs.Runs.{meant_at}
use Rattle.boc_all_ends.proofs.Fitting.{meant_fits}
use Rattle.boc_all_ends.proofs.stepper.Stepper.turn.Goals as goal

pub returns-clause-turn : goal.returns-clause-turn
returns-clause-turn c =
    let p : Program = c.args.self.now.program.now in
    let live = c.args.front.now.live.items in
    let r = c.index.result.now in
    let low : c.args.place < length live = omega (arith, place_below (plains live) c.args.place c.requires.can.row c.requires.can.is, length-map live plain) in
    let there : slice_get live c.args.place ≡ Some r = slice_get_read live (length live) c.args.place r refl low c.index.ensures in
    let wish : Behaviour = wished c.in-Some.wish.now in
    let same : c.deref_mut.result.now ≡ c.args.front.now.values.items =
    c.deref_mut.ensures.value ∙ c.in_ok-values.ensures.items ∙ c.deref.ensures.value in
    let meant = c.in_ok-wishes.ensures.wishes ∙ ap (λ vs. (meant_at p wish vs).wishes) same in
    let fits : QueueFits p (wish ∷ list_at c.args.self.now.lists c.in-Some.rest) =
    subst (QueueFits p) c.in-Some.ensures.first (c.requires.fits r.wishes) in
    record {
      row = plain r;
      is = at_mapped plain live c.args.place r there;
      wish = wish;
      first = c.in-Some.ensures.first;
      rest_there = c.in-Some.ensures.rest;
      cowns_are = c.duplicate.ensures;
      wishes_are = meant;
      values_are =
          rewritten c.run_at_once.new.values c.in_ok-values.values.items c.in_ok-values.values.len
          (c.run_at_once.auto.values ∙ ap (length {A = ℤ}) c.deref_mut.ensures.value) c.in_ok-values.values.ok.0
          ∙ c.in_ok-wishes.ensures.values
          ∙ ap (λ vs. after_outputs vs wish.cowns (meant_at p wish vs).outputs) same;
      fits = subst (λ ws. QueueFits p (map behaviour_of ws)) (sym meant) (meant_fits p wish c.args.front.now.values.items fits.0);
    }
