-- Rows that share a cown in a window share one in the stream.
use Rattle.std.proofs.Common.{◌≡◌, ◌<◌, ◌∙◌, ℕ, List, [], Option, Some, None, length, get_or, subst, ap, sym, inl, inr, arith}
use Rattle.std.specs.Option.{option_map_or}
use Rattle.std.specs.List.{Contains}
use Rattle.std.specs.Prelude.{map, option_map, slice_get, slice_index, slice_range}
use Rattle.std.proofs.lemmas.Bool.{cases_lt}
use Rattle.std.proofs.lemmas.Grind.{get_or_default_zero}
use Rattle.std.proofs.lemmas.Option.{slice_get-get_or, slice_get-map, slice_get_past, slice_get_within, get_or_from_slice_get}
use Rattle.boc_runs.specs.declared.rows.Row.{Row as Kept}
use Rattle.boc_runs.specs.Rows.{cowns_of}
use Rattle.boc_cut.specs.declared.table.CownUse.{CownUse}
use Rattle.boc_cut.specs.declared.table.Row.{Row}
use Rattle.boc_cut.specs.Windows.{HasCown, ComesFrom, AreOrigins, AreSpawned, Spawns, HasOrderOf}

named : (range : List CownUse) (y : ℕ) → HasCown range y → Contains (map (λ (u : CownUse). u.cown) range) y
named range y has =
    let (place, used, there, is) = has in
    let cowns : List ℕ = map (λ (u : CownUse). u.cown) range in
    let got : slice_get cowns place ≡ Some y =
    slice_get-map (λ (u : CownUse). u.cown) range place ∙ ap (option_map (λ (u : CownUse). u.cown)) there ∙ ap Some is in
    (place, slice_get_within cowns place y got, get_or_from_slice_get cowns place y y got)

-- a row of a window is spawned in the stream, over a cown that is this one of the window
abbrev pub Sourced : List ℕ → List ℕ → List (Option ℕ) → ℕ → ℕ → Type 0
Sourced text kept origins row x = (number : ℕ) × (cowns : List ℕ) × (slice_get origins row ≡ Some (Some number)) × Spawns text number cowns
    × Contains cowns (slice_index kept x)

module _ (text : List ℕ) (rows : List Row) (uses : List CownUse) (kept : List ℕ) (made : List Kept) (origins : List (Option ℕ))
    (spawned : AreSpawned text rows uses) (given : AreOrigins rows uses kept made origins) where
  by_origin : (row k x : ℕ) (held : List ℕ) (origin : Option ℕ) → slice_get origins row ≡ Some origin → k < length held → slice_index held k ≡ x
      → ComesFrom rows uses kept held origin → Sourced text kept origins row x
  by_origin row k x held None is within value comes = absurd (let empty : length held ≡ 0 = ap length comes in omega (arith, empty, within))
  by_origin row k x held (Some number) is within value comes =
      let (place, r, there, same, rises, fits, among) = comes in
      let cowns : List ℕ = map (λ (u : CownUse). u.cown) (slice_range uses r.from r.to) in (
        number,
        cowns,
        is,
        subst (λ (n : ℕ). Spawns text n cowns) same (spawned place r there).by,
        subst (λ (z : ℕ). Contains cowns (slice_index kept z)) value (named (slice_range uses r.from r.to) _ (among k within).1),
      )

  there_is : (row k : ℕ) → k < length (cowns_of made row) → row < length made
  there_is row k within = elim (cases_lt row (length made)) [
    | inl l ↦ l
    | inr past ↦ absurd (
        let none : cowns_of made row ≡ [] = ap (λ (o : Option Kept). option_map_or (λ x. x.cowns.items) o []) (slice_get_past made row past) in
        let empty : length (cowns_of made row) ≡ 0 = ap length none in
        omega (arith, empty, within))
  ]

  source : (row x : ℕ) → Contains (cowns_of made row) x → Sourced text kept origins row x
  source row x has =
      let (k, within, is) = has in
      let inside : row < length origins = omega (arith, there_is row k within, given.all) in
      let found : slice_get origins row ≡ Some (get_or origins row None) = slice_get-get_or origins row None inside in
      by_origin row k x (cowns_of made row) (get_or origins row None) found within (sym (get_or_default_zero (cowns_of made row) k x within) ∙ is)
      (given.each row (get_or origins row None) found)

  pub order_kept : HasOrderOf text made origins
  order_kept = λ row later before meet.
      let (x, a, b) = meet in
      let (number, cowns, is, spawn, has) = source row x a in
      let (other, others, other_is, other_spawn, other_has) = source later x b in (
        number,
        other,
        cowns,
        others,
        is,
        other_is,
        given.rising row later number other before is other_is,
        spawn,
        other_spawn,
        (slice_index kept x, has, other_has),
      )
