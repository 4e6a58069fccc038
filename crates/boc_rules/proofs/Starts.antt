-- A row may start exactly where on each of its cowns the latest row before it is over.
use Rattle.std.proofs.Common.{◌≡◌, ℕ, ◌<◌, List, [], length, get_or, refl, sym, ◌∙◌, ap, subst, inl, inr, arith}
use Rattle.std.specs.Prelude.{slice_get, Option, Some, None, All}
use Rattle.std.specs.Option.{option_map_or}
use Rattle.std.specs.List.{Contains}
use Rattle.std.proofs.lemmas.List.{get_or_default}
use Rattle.std.proofs.lemmas.List.Elements.{Contains-get_or}
use Rattle.std.proofs.lemmas.Bool.{cases_order}
use Rattle.boc_runs.specs.Lives.{Life, Pending, Running, Ended, MayStart}
use Rattle.boc_runs.specs.Legal.{Entry, life_of, entry_cowns}
use Rattle.boc_rules.specs.Before.{IsLatest, AreBefore, IsOverAt}
use Rattle.boc_rules.proofs.Lists.{one_got}
use Rattle.boc_rules.proofs.Well.{IsWell}
use Rattle.boc_rules.proofs.Next.{living, life_at, life_cases, not_pending_running, not_pending_ended, not_running_ended}

-- a row with a cown is there
has_entry_at : (o : Option Entry) (c : ℕ) → Contains (option_map_or (λ (e : Entry). e.cowns) o []) c → (e : Entry) × (o ≡ Some e) × Contains e.cowns c
has_entry_at None c h = absurd (let f : h.0 < 0 = h.1 in omega arith)
has_entry_at (Some e) c h = (e, refl, h)

pub has_entry : (rows : List Entry) (r c : ℕ) → Contains (entry_cowns rows r) c → (e : Entry) × (slice_get rows r ≡ Some e) × Contains e.cowns c
has_entry rows r c h = has_entry_at (slice_get rows r) c h

-- two lives of one row
one_life : (rows : List Entry) (r : ℕ) (l m : Life) → life_of rows r ≡ Some l → life_of rows r ≡ Some m → l ≡ m
one_life rows r l m g h = let f : Some l ≡ Some m = sym g ∙ h in cc

-- where the latest row on a cown is over, so are those before it
earlier_over : (count : ℕ) (rows : List Entry) (r c : ℕ) (latest : Option ℕ) → IsWell count rows → IsLatest rows c r latest → IsOverAt rows latest
    → (other : ℕ) → other < r → Contains (entry_cowns rows other) c → life_of rows other ≡ Some Ended
earlier_over count rows r c None w is over other less has = absurd (is other less has)
earlier_over count rows r c (Some latest) w is over other less has =
    elim (cases_order other latest) [
      | inl e ↦ ap (life_of rows) e ∙ over
      | inr p ↦ elim p [
        | inl before ↦
            let d = has_entry rows other c has in
            let e = has_entry rows latest c is.1 in
            let f = living rows latest Ended over in
            let is_over : e.0.life ≡ Ended = ap (λ (z : Entry). z.life) (one_got rows latest e.0 f.0 e.1 f.1) ∙ f.2 in
            life_at rows other d.0 d.1 ∙ ap (λ (l : Life). Some l)
            (w.in_turn other latest d.0 e.0 c before d.1 e.1 d.2 e.2 (λ l. not_pending_ended (sym l ∙ is_over)))
        | inr behind ↦ absurd (is.2 other behind less has)
      ]
    ]

-- the latest row before this one on one of its cowns
before_on : (rows : List Entry) (r c : ℕ) (before : List (Option ℕ)) → AreBefore rows r before → All (IsOverAt rows) before → Contains (entry_cowns rows r) c
    → (latest : Option ℕ) × IsLatest rows c r latest × IsOverAt rows latest
before_on rows r c before are over has =
    let k = has.0 in
    let named : get_or (entry_cowns rows r) k 0 ≡ c = get_or_default (entry_cowns rows r) k 0 c has.1 ∙ has.2 in (
      get_or before k None,
      subst (λ (x : ℕ). IsLatest rows x r (get_or before k None)) named (are.each k has.1),
      over k None (omega (arith, are.all, has.1)),
    )

pub starts : (count : ℕ) (rows : List Entry) (r : ℕ) (before : List (Option ℕ)) → IsWell count rows → life_of rows r ≡ Some Pending → AreBefore rows r before
    → All (IsOverAt rows) before → MayStart (life_of rows) (entry_cowns rows) r
starts count rows r before w waits are over = record {
  waits = waits;
  none_running = λ other runs o.
      elim (cases_order other r) [
        | inl e ↦ not_pending_running (one_life rows r Pending Running waits (ap (life_of rows) (sym e) ∙ runs))
        | inr p ↦ elim p [
          | inl less ↦
              let b = before_on rows r o.0 before are over o.1 in
              not_running_ended (one_life rows other Running Ended runs (earlier_over count rows r o.0 b.0 w b.1 b.2 other less o.2))
          | inr less ↦
              let d = has_entry rows r o.0 o.1 in
              let e = has_entry rows other o.0 o.2 in
              let f = living rows other Running runs in
              let g = living rows r Pending waits in
              let running : e.0.life ≡ Running = ap (λ (z : Entry). z.life) (one_got rows other e.0 f.0 e.1 f.1) ∙ f.2 in
              let pending : d.0.life ≡ Pending = ap (λ (z : Entry). z.life) (one_got rows r d.0 g.0 d.1 g.1) ∙ g.2 in
              not_pending_ended (sym pending ∙ w.in_turn r other d.0 e.0 o.0 less d.1 e.1 d.2 e.2 (λ l. not_pending_running (sym l ∙ running)))
        ]
      ];
  none_earlier = λ other less pends o.
      let b = before_on rows r o.0 before are over o.1 in
      not_pending_ended (one_life rows other Pending Ended pends (earlier_over count rows r o.0 b.0 w b.1 b.2 other less o.2));
}

-- where a row may start, the latest row before it on one of its cowns is over
latest_over : (rows : List Entry) (r c : ℕ) (latest : Option ℕ) → MayStart (life_of rows) (entry_cowns rows) r → Contains (entry_cowns rows r) c
    → IsLatest rows c r latest → IsOverAt rows latest
latest_over rows r c None may has is = tt
latest_over rows r c (Some latest) may has is =
    let d = has_entry rows latest c is.1 in
    let life = life_at rows latest d.0 d.1 in
    elim (life_cases d.0.life) [
      | inl p ↦ absurd (may.none_earlier latest is.0 (life ∙ ap (λ (l : Life). Some l) p) (c, has, is.1))
      | inr p ↦ elim p [
        | inl q ↦ absurd (may.none_running latest (life ∙ ap (λ (l : Life). Some l) q) (c, has, is.1))
        | inr q ↦ life ∙ ap (λ (l : Life). Some l) q
      ]
    ]

pub over_before : (rows : List Entry) (r : ℕ) (before : List (Option ℕ)) → MayStart (life_of rows) (entry_cowns rows) r → AreBefore rows r before
    → All (IsOverAt rows) before
over_before rows r before may are = λ k d h.
    let less : k < length (entry_cowns rows r) = omega (arith, are.all, h) in
    let cown = get_or (entry_cowns rows r) k 0 in
    subst (IsOverAt rows) (get_or_default before k None d h)
    (latest_over rows r cown (get_or before k None) may (Contains-get_or (entry_cowns rows r) k 0 less) (are.each k less))
