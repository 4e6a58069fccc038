-- Ticks that stand side by side in lanes.
use Rattle.std.proofs.Common.{◌≡◌, ◌≢◌, ◌∙◌, refl, ℕ, zero, suc, ◌+◌, ◌<◌, List, [], ◌∷◌, ◌++◌, length, get_or, inl, inr, ap, sym, subst, arith}
use Rattle.std.specs.Prelude.{slice_index, slice_index_or, slice_set, replicate}
use Rattle.std.proofs.lemmas.Bool.{cases_eq}
use Rattle.std.proofs.lemmas.List.{get_or-map, get_or-set_same, get_or-set_other, length-map, length-set, map-append, map-set}
use Rattle.std.proofs.Math.Seq.{map-set_same}
use Rattle.boc_program.specs.declared.limits.TheConstants.{MOST_COWNS}
use Rattle.boc_sweep.specs.declared.lanes.TheConstants.{LANES}
use Rattle.boc_sweep.specs.Freed.{in_lane, IsFreed}

-- what holds of the ticks of the first lanes holds of one more, once that one is written
pub lane_more : (Fits : ℕ → ℕ → Type 0) (ticks : List ℕ) (i tick : ℕ) → i < length ticks → ((lane : ℕ) → lane < i → Fits lane (slice_index ticks lane))
    → Fits i tick → (lane : ℕ) → lane < i + 1 → Fits lane (slice_index (slice_set ticks i tick) lane)
lane_more Fits ticks i tick there before now lane h = elim (cases_eq lane i) [
  | inl e ↦ rw e (subst (Fits i) (sym (get_or-set_same ticks i tick 0 there)) now)
  | inr ne ↦ subst (Fits lane) (sym (get_or-set_other ticks i lane tick 0 ne)) (before lane (omega arith))
]

pub lane_long : (lane : ℕ) (list : List (List ℕ)) → length (in_lane lane list) ≡ length list
lane_long lane list = length-map list (λ (ticks : List ℕ). slice_index ticks lane)

-- lists that have one length in a lane have one length
pub same_long : (lane : ℕ) (old new : List (List ℕ)) → length (in_lane lane new) ≡ length (in_lane lane old) → length new ≡ length old
same_long lane old new e = omega (arith, e, lane_long lane old, lane_long lane new)

pub lane_at : (lane : ℕ) (list : List (List ℕ)) (i : ℕ) (d : List ℕ) → i < length list
    → slice_index (in_lane lane list) i ≡ slice_index (get_or list i d) lane
lane_at lane list i d there = get_or-map (λ (ticks : List ℕ). slice_index ticks lane) list i d 0 there

pub lane_set : (lane : ℕ) (list : List (List ℕ)) (i : ℕ) (ticks : List ℕ)
    → in_lane lane (slice_set list i ticks) ≡ slice_set (in_lane lane list) i (slice_index ticks lane)
lane_set lane list i ticks = map-set (λ (ticks : List ℕ). slice_index ticks lane) list i ticks

pub lane_push : (lane : ℕ) (list : List (List ℕ)) (ticks : List ℕ) → in_lane lane (list ++ ticks ∷ []) ≡ in_lane lane list ++ slice_index ticks lane ∷ []
lane_push lane list ticks = map-append (λ (ticks : List ℕ). slice_index ticks lane) list (ticks ∷ [])

cleared : (ticks : List ℕ) (lane : ℕ) → slice_index (slice_set ticks lane 0) lane ≡ 0
cleared [] lane = refl
cleared (x ∷ ticks) zero = refl
cleared (x ∷ ticks) (suc lane) = cleared ticks lane

-- a tick is cleared in one of the lanes
module _ (ends : List (List ℕ)) (cown i : ℕ) where
  pub stays_in : (lane : ℕ) → lane ≢ i → in_lane lane (slice_set ends cown (slice_set (slice_index_or ends cown []) i 0)) ≡ in_lane lane ends
  stays_in lane other = map-set_same (λ (ticks : List ℕ). slice_index ticks lane) ends cown (slice_set (slice_index_or ends cown []) i 0) []
      (get_or-set_other (slice_index_or ends cown []) i lane 0 0 other)

  pub freed_in : cown < length ends → IsFreed cown (in_lane i ends) (in_lane i (slice_set ends cown (slice_set (slice_index_or ends cown []) i 0)))
  freed_in there =
      let is : in_lane i (slice_set ends cown (slice_set (slice_index_or ends cown []) i 0)) ≡ slice_set (in_lane i ends) cown 0 =
      lane_set i ends cown (slice_set (slice_index_or ends cown []) i 0) ∙ ap (slice_set (in_lane i ends) cown) (cleared (slice_index_or ends cown []) i) in
      subst (IsFreed cown (in_lane i ends)) (sym is) (record {
        whole = length-set (in_lane i ends) cown 0;
        freed = get_or-set_same (in_lane i ends) cown 0 0 (omega (arith, lane_long i ends, there));
        others = λ c other. get_or-set_other (in_lane i ends) cown c 0 0 other;
      })

-- zeros in every lane
pub zero_in : (n lane : ℕ) → slice_index (replicate n 0) lane ≡ 0
zero_in zero lane = refl
zero_in (suc n) zero = refl
zero_in (suc n) (suc lane) = zero_in n lane

pub zeros_in : (lanes count lane i : ℕ) → slice_index (in_lane lane (replicate count (replicate lanes 0))) i ≡ 0
zeros_in lanes zero lane i = refl
zeros_in lanes (suc count) lane zero = zero_in lanes lane
zeros_in lanes (suc count) lane (suc i) = zeros_in lanes count lane i

-- the same of as many lanes as there are
pub lane_zeros : (lane i : ℕ) → slice_index (in_lane lane (replicate MOST_COWNS (replicate LANES 0))) i ≡ 0
lane_zeros = zeros_in LANES MOST_COWNS
