-- A slab into which a behaviour was put, as a table in which it was set.
use Rattle.std.proofs.Common.{◌≡◌, ◌≢◌, ℕ, ◌<◌, inl, inr, List, length, set, sym, ◌∙◌, ap, arith, length-set}
use Rattle.std.specs.Prelude.{Option, Some, None}
use Rattle.std.proofs.lemmas.List.{set-set, set-get_or}
use Rattle.boc_machine_laws.proofs.Lists.{same_or_not}
use Rattle.boc_dispatch.specs.declared.live.Live.{Live}
use Rattle.boc_dispatch.specs.Inside.{live_at}
use Rattle.boc_dispatch.proofs.Tables.{SamePlaces, live_there, live_here, live_other}

-- one place set anew, to what it has, changes nothing
pub set_back : (live : List (Option Live)) (slot : ℕ) (l : Live) → live_at live slot ≡ Some l → set (set live slot None) slot (Some l) ≡ live
set_back live slot l is = set-set live slot None (Some l) ∙ ap (set live slot) (sym is) ∙ set-get_or live slot None

module _ (old new : List (Option Live)) (slot : ℕ) (l : Live) (is : live_at new slot ≡ Some l) (others : (s : ℕ) → s ≢ slot → live_at new s ≡ live_at old s)
    (vacant : live_at old slot ≡ None) where
  -- without it the table has the places that were there
  pub seat_same : SamePlaces old (set new slot None)
  seat_same s =
      elim (same_or_not s slot) [
        | inl e ↦ ap (live_at (set new slot None)) e ∙ live_here new slot None (live_there new slot l is) ∙ sym (ap (live_at old) e ∙ vacant)
        | inr n ↦ live_other new slot None s n ∙ others s n
      ]

  pub seat_there : slot < length (set new slot None)
  seat_there = omega (arith, length-set new slot (let o : Option Live = None in o), live_there new slot l is)
