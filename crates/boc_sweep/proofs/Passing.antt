-- Which cowns rows have, and which cown stands for which: without one that no row has the rows are what they are.
use Rattle.std.proofs.Common.{◌≡◌, ◌≢◌, ℕ, suc, ◌+◌, ◌*◌, ◌/◌, ◌%◌, ◌<◌, ◌≤◌, Bool, true, false, not, List, [], ◌∷◌, ◌++◌, length, inl, inr}
use Rattle.std.proofs.Common.{true≢false, Option, Some, None, refl, ap, sym, ◌∙◌, subst, arith}
use Rattle.std.specs.Prelude.{slice_index, slice_index_or, slice_set, ◌==◌, ⊤, All}
use Rattle.std.specs.List.{AllZip, Contains, range_with_len}
use Rattle.std.proofs.lemmas.List.Elements.{AllZip-get_or, length_all_zip}
use Rattle.std.proofs.lemmas.Bool.{cases_eq}
use Rattle.std.proofs.lemmas.List.{get_or_default, get_or-set_same, get_or-set_other, length-set, length_push, get_or_push, get_or_append_left}
use Rattle.boc_program.specs.Cowns.{others}
use Rattle.boc_program.specs.declared.limits.TheConstants.{MOST_COWNS}
use Rattle.boc_runs.specs.declared.rows.Row.{Row}
use Rattle.boc_runs.specs.Rows.{IsRows, cowns_of, written_of}
use Rattle.boc_runs.specs.Changes.{freed_row, without}
use Rattle.boc_order.proofs.Near.{writes_own}
use Rattle.boc_plans.specs.Greedy.{IsSpan}
use Rattle.boc_plans.specs.Edits.{IsCownSweep}
use Rattle.boc_plans.proofs.Numbered.{range_long, range_at}
use Rattle.boc_sweep.specs.declared.lanes.TheConstants.{LANES}
use Rattle.boc_sweep.specs.Passes.{HaveNot, TellHad, StandForAll, AreSpansOfGroup, AreSpansWithout, tick_at}
use Rattle.boc_order.proofs.LeftOut.{passes}

others_none : (cown : ℕ) (xs : List ℕ) → (Contains xs cown → ⊥) → others cown xs ≡ xs
others_none cown [] none = refl
others_none cown (x ∷ xs) none =
    let pass : not (x == cown) ≡ true = passes x cown (λ e. none (0, omega arith, e)) in
    rw pass (ap (λ (l : List ℕ). x ∷ l) (others_none cown xs (λ (k, h, e). none (suc k, omega (arith, h), e))))

freed_same : (cown : ℕ) (row : Row) → (Contains row.cowns.items cown → ⊥) → (Contains row.written.items cown → ⊥) → freed_row cown row ≡ row
freed_same cown row none unwritten =
    rw (others_none cown row.cowns.items none, others_none cown row.written.items unwritten) refl

without_same : (cown : ℕ) (rows : List Row) → HaveNot rows (length rows) cown → ((r : ℕ) → r < length rows → Contains (written_of rows r) cown → ⊥)
    → without cown rows ≡ rows
without_same cown [] none unwritten = refl
without_same cown (x ∷ rows) none unwritten =
    rw (freed_same cown x (none 0 (omega arith)) (unwritten 0 (omega arith)))
    (ap (λ (l : List Row). x ∷ l) (without_same cown rows (λ r h. none (suc r) (omega (arith, h))) (λ r h. unwritten (suc r) (omega (arith, h)))))

pub without_none : (cown : ℕ) (rows : List Row) → IsRows rows → HaveNot rows (length rows) cown → without cown rows ≡ rows
without_none cown rows hr none = without_same cown rows none (λ r h w. none r h (writes_own rows hr r cown h w))

-- ---- which cowns rows have

-- of row r the first i cowns are told
pub record SomeHad (rows : List Row) (r i : ℕ) (had : List Bool) : Type 0 where
  pub whole : length had ≡ MOST_COWNS
  pub before : TellHad rows r had
  pub own : (cown j : ℕ) → slice_index_or had cown false ≡ false → j < i → slice_index (cowns_of rows r) j ≢ cown

pub had_none : (rows : List Row) (r : ℕ) (had : List Bool) → length had ≡ MOST_COWNS → TellHad rows r had → SomeHad rows r 0 had
had_none rows r had whole told = record { whole = whole; before = told; own = λ cown j not_told h. absurd (omega (arith, h)) }

pub had_more : (rows : List Row) (r i : ℕ) (had : List Bool) → slice_index (cowns_of rows r) i < MOST_COWNS → SomeHad rows r i had
    → SomeHad rows r (i + 1) (slice_set had (slice_index (cowns_of rows r) i) true)
had_more rows r i had small s =
    let own : ℕ = slice_index (cowns_of rows r) i in
    let here : slice_index_or (slice_set had own true) own false ≡ true = get_or-set_same had own true false (omega (arith, small, s.whole)) in
    record {
      whole = length-set had own true ∙ s.whole;
      before = λ cown low untold. elim (cases_eq cown own) [
        | inl e ↦ absurd (true≢false (sym here ∙ subst (λ (k : ℕ). slice_index_or (slice_set had own true) k false ≡ false) e untold))
        | inr ne ↦ s.before cown low (sym (get_or-set_other had own cown true false ne) ∙ untold)
      ];
      own = λ cown j untold h. elim (cases_eq cown own) [
        | inl e ↦ absurd (true≢false (sym here ∙ subst (λ (k : ℕ). slice_index_or (slice_set had own true) k false ≡ false) e untold))
        | inr ne ↦ elim (cases_eq j i) [
          | inl same ↦ λ e. ne (sym (sym (ap (slice_index (cowns_of rows r)) same) ∙ e))
          | inr nj ↦ s.own cown j (sym (get_or-set_other had own cown true false ne) ∙ untold) (omega arith)
        ]
      ];
    }

pub had_all : (rows : List Row) (r i : ℕ) (had : List Bool) → length (cowns_of rows r) ≡ i → SomeHad rows r i had → TellHad rows (r + 1) had
had_all rows r i had all s = λ cown low untold q h has. elim (cases_eq q r) [
  | inl e ↦ (
      let (k, lt, at) = subst (λ (x : ℕ). Contains (cowns_of rows x) cown) e has in
      s.own cown k untold (omega (arith, lt, all)) (get_or_default (cowns_of rows r) k 0 cown lt ∙ at))
  | inr ne ↦ s.before cown low untold q (omega arith) has
]

-- ---- which cown stands for which

-- what is known of the place of an idle cown, if there is one: without that cown the rows are what they are
abbrev pub IsIdle : List Row → List ℕ → Option ℕ → Type 0
IsIdle rows cowns None = ⊤
IsIdle rows cowns (Some place) = (place < length cowns) × (without (slice_index cowns place) rows ≡ rows)

-- each of the first cowns has one that stands for it, and an idle one is known, if there is one so far
pub record StandSoFar (rows : List Row) (count : ℕ) (cowns places : List ℕ) (idle : Option ℕ) : Type 0 where
  pub all : StandForAll rows count cowns places
  pub is_idle : IsIdle rows cowns idle

pub stand_none : (rows : List Row) (cowns places : List ℕ) → places ≡ [] → StandSoFar rows 0 cowns places None
stand_none rows cowns places e = record {
  all = record { whole = rw e refl; there = λ cown h. absurd (omega (arith, h)); alike = λ cown h. absurd (omega (arith, h)) };
  is_idle = tt;
}

module _ (rows : List Row) (n : ℕ) (cowns places : List ℕ) (s : StandForAll rows n cowns places) (place : ℕ) where
  -- one cown more, for which one of those stands that are there
  stand_more : place < length cowns → without (slice_index cowns place) rows ≡ without n rows → StandForAll rows (n + 1) cowns (places ++ place ∷ [])
  stand_more low same = record {
    whole = omega (arith, length_push places place, s.whole);
    there = λ cown h. elim (cases_eq cown n) [
      | inl e ↦ rw e (rw (get_or_push places place 0 n s.whole) low)
      | inr ne ↦ rw (get_or_append_left places (place ∷ []) 0 cown (omega (arith, s.whole))) (s.there cown (omega arith))
    ];
    alike = λ cown h. elim (cases_eq cown n) [
      | inl e ↦ rw e (rw (get_or_push places place 0 n s.whole) same)
      | inr ne ↦ rw (get_or_append_left places (place ∷ []) 0 cown (omega (arith, s.whole))) (s.alike cown (omega arith))
    ];
  }

  -- with a cown more that may stand for others
  stand_on : (more : ℕ) → StandForAll rows n (cowns ++ more ∷ []) places
  stand_on more = record {
    whole = s.whole;
    there = λ cown h. omega (arith, length_push cowns more, s.there cown h);
    alike = λ cown h. rw (get_or_append_left cowns (more ∷ []) 0 (slice_index places cown) (s.there cown h)) (s.alike cown h);
  }

module _ (rows : List Row) (n : ℕ) (cowns places : List ℕ) where
  -- an idle cown for which another one stands
  pub stand_idle : (place : ℕ) → IsRows rows → HaveNot rows (length rows) n → StandSoFar rows n cowns places (Some place)
      → StandSoFar rows (n + 1) cowns (places ++ place ∷ []) (Some place)
  stand_idle place hr none s = record {
    all = stand_more rows n cowns places s.all place s.is_idle.0 (s.is_idle.1 ∙ sym (without_none n rows hr none));
    is_idle = s.is_idle;
  }

  -- a cown that stands for itself
  stand_itself : StandForAll rows n cowns places → StandForAll rows (n + 1) (cowns ++ n ∷ []) (places ++ length cowns ∷ [])
  stand_itself s = stand_more rows n (cowns ++ n ∷ []) places (stand_on rows n cowns places s 0 n) (length cowns) (omega (arith, length_push cowns n))
      (ap (λ (c : ℕ). without c rows) (get_or_push cowns n 0 (length cowns) refl))

  still_idle : (idle : Option ℕ) → IsIdle rows cowns idle → IsIdle rows (cowns ++ n ∷ []) idle
  still_idle None i = tt
  still_idle (Some place) i = (omega (arith, length_push cowns n, i.0), rw (get_or_append_left cowns (n ∷ []) 0 place i.0) i.1)

  pub stand_alone : (idle : Option ℕ) → StandSoFar rows n cowns places idle
      → StandSoFar rows (n + 1) (cowns ++ n ∷ []) (places ++ length cowns ∷ []) idle
  stand_alone idle s = record { all = stand_itself s.all; is_idle = still_idle idle s.is_idle }

  pub stand_first : IsRows rows → HaveNot rows (length rows) n → StandForAll rows n cowns places
      → StandSoFar rows (n + 1) (cowns ++ n ∷ []) (places ++ length cowns ∷ []) (Some (length cowns))
  stand_first hr none s = record {
    all = stand_itself s;
    is_idle = (omega (arith, length_push cowns n), rw (get_or_push cowns n 0 (length cowns) refl) (without_none n rows hr none));
  }

-- ---- the spans, group by group

-- where there are as many groups as the cowns need
pub groups_of : (rows : List Row) (cowns : List ℕ) (count : ℕ) (found : List (List ℕ)) → length cowns ≤ count * LANES
    → AllZip (AreSpansOfGroup rows cowns) (range_with_len 0 count) found → AreSpansWithout rows cowns found
groups_of rows cowns count found enough z =
    let R = AreSpansOfGroup rows cowns in
    record {
      enough = omega (arith, enough, range_long R 0 count found z);
      at = λ place h. (
          let group : place / LANES < count = omega (arith, h, enough) in
          let lane : place % LANES < LANES = omega arith in
          let whole : (place / LANES) * LANES + place % LANES ≡ place = omega arith in
          let e : 0 + place / LANES ≡ place / LANES = omega arith in
          let mine = subst (λ (k : ℕ). R k (slice_index_or found (place / LANES) [])) e (range_at R [] 0 count found z (place / LANES) group) in
          subst (λ (k : ℕ). IsSpan (without (slice_index cowns k) rows) (tick_at found place)) whole
          (mine (place % LANES) lane (omega (arith, whole, h))));
    }

module _ (rows : List Row) (count : ℕ) (cowns places : List ℕ) (s : StandForAll rows count cowns places) (found : List (List ℕ))
    (f : AreSpansWithout rows cowns found) where
  pub places_in : All (λ place. place < length found * LANES) places
  places_in cown d h =
      let there = s.there cown (omega (arith, h, s.whole)) in
      rw (get_or_default places cown d 0 h) (omega (arith, there, f.enough))

  -- each cown has the span of the one that stands for it
  pub spans_of : (spans : List ℕ) → AllZip (λ place span. span ≡ tick_at found place) places spans → IsCownSweep rows count spans
  spans_of spans z = record {
    whole = sym (length_all_zip (λ place span. span ≡ tick_at found place) places spans z) ∙ s.whole;
    at = λ cown h. (
        let is : slice_index spans cown ≡ tick_at found (slice_index places cown) =
        AllZip-get_or (λ place span. span ≡ tick_at found place) places spans cown 0 0 z (omega (arith, h, s.whole)) in
        rw is (subst (λ (l : List Row). IsSpan l (tick_at found (slice_index places cown))) (s.alike cown h)
        (f.at (slice_index places cown) (s.there cown h))));
  }
