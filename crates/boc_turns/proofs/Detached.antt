-- Whatever is done to the relaxed cowns alone, the rows end no sooner than if no body waited for a turn.
use Rattle.std.proofs.Common.{◌≡◌, inl, inr, ℕ, ◌+◌, ◌-◌, ◌<◌, ◌≤◌, Bool, true, false, true≢false, cond, List, [], ◌∷◌, length, drop}
use Rattle.std.proofs.Common.{Option, Some, None, refl, sym, ap, ◌∙◌, subst, arith}
use Rattle.std.specs.Prelude.{◌==◌}
use Rattle.std.specs.Option.{option_map}
use Rattle.std.proofs.lemmas.List.{drop-map, length-map}
use Rattle.boc_runs.specs.declared.rows.Row.{Row}
use Rattle.boc_runs.specs.Rows.{ticks_of, cowns_of}
use Rattle.boc_uses.specs.declared.uses.Use.{Use}
use Rattle.boc_turns.specs.Turns.{cowns_before, use_at, use_of, AreUses, IsWithin, Times, over, IsTurn, KeepsTurns, KeepsRow, IsUsedEnd}
use Rattle.boc_turns.specs.Splits.{detached_use, detached, KeepsSplit, SplitEndsBy}
use Rattle.boc_turns.proofs.Least.{over_cases, made_more, none_end_sooner}

use_at_detached : (cowns : List ℕ) (uses : List (Option Use)) (c : ℕ) → use_at cowns (detached uses) c ≡ option_map detached_use (use_at cowns uses c)
use_at_detached [] uses c = refl
use_at_detached (x ∷ cowns) [] c = refl
use_at_detached (x ∷ cowns) (o ∷ uses) c = go (use_at_detached cowns uses c) (x == c) refl
  where
    go : use_at cowns (detached uses) c ≡ option_map detached_use (use_at cowns uses c) → (b : Bool) → (x == c) ≡ b
        → cond (x == c) (option_map detached_use o) (use_at cowns (detached uses) c) ≡ option_map detached_use (cond (x == c) o (use_at cowns uses c))
    go rest true e = rw e
    go rest false e = rw e rest

module _ (rows : List Row) (uses : List (Option Use)) where
  use_detached : (r c : ℕ) → use_of rows (detached uses) r c ≡ option_map detached_use (use_of rows uses r c)
  use_detached r c =
      ap (λ (l : List (Option Use)). use_at (cowns_of rows r) l c) (drop-map (option_map detached_use) (cowns_before rows r) uses)
      ∙ use_at_detached (cowns_of rows r) (drop (cowns_before rows r) uses) c

  was_use : (o : Option Use) (u : Use) → option_map detached_use o ≡ Some u → (v : Use) × (o ≡ Some v) × (u ≡ detached_use v)
  was_use None u e = absurd cc
  was_use (Some v) u e = (v, refl, (let same : u ≡ detached_use v = cc in same))

  own_use : (r c : ℕ) (u : Use) → use_of rows (detached uses) r c ≡ Some u → (v : Use) × (use_of rows uses r c ≡ Some v) × (u ≡ detached_use v)
  own_use r c u e = was_use (use_of rows uses r c) u (sym (use_detached r c) ∙ e)

  module _ (are : AreUses rows uses) where
    pub detached_are : AreUses rows (detached uses)
    detached_are = record {
      whole = length-map uses (option_map detached_use) ∙ are.whole;
      within = λ r c u e. (
          let (v, own, is) = own_use r c u e in
          subst (IsWithin (ticks_of rows r)) (sym is) (let w = are.within r c v own in record { from_one = w.from_one; rises = w.rises; ends = w.ends }));
    }

    module _ (relaxed : ℕ → Bool) where
      own_turn : (r c : ℕ) (u v : Use) → IsTurn rows (detached uses) relaxed r c u → use_of rows uses r c ≡ Some v → IsTurn rows uses relaxed r c v
      own_turn r c u v turn own = record { is_relaxed = turn.is_relaxed; is_use = own }

      module _ (times : Times) (overs : ℕ → ℕ → ℕ) (keeps : (b : ℕ) → b < length rows → KeepsSplit rows uses relaxed times overs b) where
        -- a turn for which no body waits is over no later
        short : (r c : ℕ) (u : Use) → r < length rows → IsTurn rows (detached uses) relaxed r c u → over times r c u ≤ overs r c
        short r c u there turn =
            let (v, own, is) = own_use r c u turn.is_use in
            let first : u.first ≡ v.first = ap (λ (x : Use). x.first) is in
            let last : u.last ≡ v.last = ap (λ (x : Use). x.last) is in
            let none : u.needed ≡ false = ap (λ (x : Use). x.needed) is in
            elim (over_cases times r c u) [
              | inl (need, e) ↦ absurd (true≢false (sym need ∙ none))
              | inr (also, e) ↦ omega (arith, e, first, last, (keeps r there).unbroken c v (own_turn r c u v turn own))
            ]

        split_keeps : KeepsTurns rows (detached uses) relaxed times
        split_keeps b there =
            let row = keeps b there in
            record {
              one_by_one = row.one_by_one;
              spawned = row.spawned;
              in_order = row.in_order;
              turns = λ c u turn. (
                  let (v, own, is) = own_use b c u turn.is_use in
                  let first : u.first ≡ v.first = ap (λ (x : Use). x.first) is in
                  let mine = own_turn b c u v turn own in
                  record {
                    after = λ a other before conflict use_is. (
                        let (w, his, same) = own_use a c other use_is in
                        omega (
                          arith,
                          short a c other (omega (arith, before, there)) (record { is_relaxed = turn.is_relaxed; is_use = use_is }),
                          row.apart a c v w mine before conflict his,
                        ));
                    from_first = (
                        let at : times.made b u.first ≡ times.made b v.first = ap (times.made b) first in
                        omega (arith, at, row.from_first c v mine));
                    waits = λ need. absurd (true≢false (sym need ∙ ap (λ (x : Use). x.needed) is));
                  });
            }

      pub split_ends : (tick end : ℕ) → SplitEndsBy rows uses relaxed tick → IsUsedEnd rows (detached uses) relaxed end → end ≤ tick
      split_ends tick end s e = none_end_sooner rows (detached uses) relaxed detached_are s.times tick end (split_keeps s.times s.over s.keeps)
          (λ r there. record {
            row = (s.ends r there).row;
            turns = λ c u turn. (
                let (v, own, is) = own_use r c u turn.is_use in
                omega (arith, short s.times s.over s.keeps r c u there turn, (s.ends r there).turns c v (own_turn r c u v turn own)));
          }) e

      -- when a turn is over, if there is one
      abbrev over_of : Times → Option Use → ℕ → ℕ → ℕ
      over_of times None r c = 0
      over_of times (Some u) r c = over times r c u

      -- a turn goes on for as many ticks as there are from the first use to the last, or longer
      long : (times : Times) (b c : ℕ) (u : Use) → KeepsRow rows uses relaxed times b → IsTurn rows uses relaxed b c u
          → times.begun b c + (u.last + 1 - u.first) ≤ over times b c u
      long times b c u row turn =
          let within = are.within b c u turn.is_use in
          let made = made_more rows uses relaxed times b row (u.last - u.first) u.first u.last (omega (arith, within.rises)) within.ends in
          elim (over_cases times b c u) [
            | inl (need, e) ↦ omega (arith, e, made, (row.turns c u turn).waits need, within.rises)
            | inr (none, e) ↦ omega (arith, e)
          ]

      -- the earliest times of turns are such times
      turns_split : (end : ℕ) → IsUsedEnd rows uses relaxed end → SplitEndsBy rows uses relaxed end
      turns_split end e = record {
        times = e.times;
        over = λ r c. over_of e.times (use_of rows uses r c) r c;
        keeps = λ b there. (
            let row = e.earliest.keeps b there in
            record {
              one_by_one = row.one_by_one;
              spawned = row.spawned;
              in_order = row.in_order;
              from_first = λ c u turn. (row.turns c u turn).from_first;
              unbroken = λ c u turn. rw turn.is_use (long e.times b c u row turn);
              apart = λ a c u v turn before conflict his. rw his ((row.turns c u turn).after a v before conflict his);
            });
        ends = λ r there. record {
          row = (e.all_over r there).row;
          turns = λ c u turn. rw turn.is_use ((e.all_over r there).turns c u turn);
        };
      }

      pub turns_end : (low end : ℕ) → IsUsedEnd rows (detached uses) relaxed low → IsUsedEnd rows uses relaxed end → low ≤ end
      turns_end low end d e = split_ends end low (turns_split end e) d
