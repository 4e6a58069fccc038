-- When a dispatcher is quiet.
use Rattle.std.proofs.Common.{◌≡◌, ℕ, zero, suc, cond, List, [], ◌∷◌, refl, sym, ◌∙◌, ap, arith, count_by}
use Rattle.std.specs.Prelude.{Option, Some, None}
use Rattle.std.specs.Option.{option_map}
use Rattle.std.proofs.lemmas.List.Sums.{sum_by-cons}
use Rattle.boc_runs.specs.machine.Steps.{IsQuiet}
use Rattle.boc_dispatch.specs.declared.live.Live.{Live}
use Rattle.boc_dispatch.specs.Inside.{Parts, state, live_at, open_of, is_taken, IsKept}
use Rattle.boc_dispatch.proofs.Tables.{find_none, at_found, at_slot}

-- a table without a behaviour has no place taken, and the other way round
pub none_taken : (live : List (Option Live)) → ((s : ℕ) → live_at live s ≡ None) → count_by is_taken live ≡ 0
none_taken [] none = refl
none_taken (None ∷ live) none =
    let e = none_taken live (λ s. none (suc s)) in
    let f = sum_by-cons (λ o. cond (is_taken o) 1 0) None live in
    omega (arith, e, f)
none_taken (Some l ∷ live) none = absurd (let f : Some l ≡ None = none zero in cc)

taken_none : (live : List (Option Live)) → count_by is_taken live ≡ 0 → (s : ℕ) → live_at live s ≡ None
taken_none [] e zero = refl
taken_none [] e (suc s) = refl
taken_none (None ∷ live) e zero = refl
taken_none (None ∷ live) e (suc s) = taken_none live (let f = sum_by-cons (λ o. cond (is_taken o) 1 0) None live in omega (arith, e, f)) s
taken_none (Some l ∷ live) e s = absurd (let f = sum_by-cons (λ o. cond (is_taken o) 1 0) (Some l) live in omega (arith, e, f))

module _ (d : Parts) (k : IsKept d) where
  -- all are gone: no behaviour is open
  pub quiet_if_gone : d.gone ≡ d.opened → IsQuiet (state d)
  quiet_if_gone e who =
      let none = taken_none d.live (let left = k.left in omega arith) in
      at_found d.live d.opened k.numbered who
      ∙ ap (option_map open_of) (find_none d.live who (λ s l is. absurd (let f : Some l ≡ None = sym is ∙ none s in cc)))

  no_behaviour : IsQuiet (state d) → (s : ℕ) (place : Option Live) → live_at d.live s ≡ place → place ≡ None
  no_behaviour quiet s None is = refl
  no_behaviour quiet s (Some l) is =
      absurd (let f : Some (open_of l) ≡ None = sym (at_slot d.live d.opened s l k.numbered is) ∙ quiet l.number in cc)

  -- no behaviour is open: all are gone
  pub gone_if_quiet : IsQuiet (state d) → d.gone ≡ d.opened
  gone_if_quiet quiet =
      let none = none_taken d.live (λ s. no_behaviour quiet s (live_at d.live s) refl) in
      let left = k.left in omega arith
