use Rattle.std.proofs.Common.{List, ℕ, IfOk}
use Rattle.boc_front_rows.specs.Seen.{front_of}
use Rattle.boc_all_ends.proofs.Choosing.{if_ok, to_try}
use Rattle.boc_all_ends.proofs.stepper.Stepper.places_to_try.Goals as goal

pub returns : goal.returns
returns c =
    let s = c.args.self.now in
    if_ok _ _ c.chosen_places.result c.chosen_places.ensures
    (λ places chosen. to_try s.program.now s.lists s.footprints c.args.front.now places.items s.footprint c.requires.fits chosen)
