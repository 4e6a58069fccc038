-- One front stands for two serial runs: then an order from the one makes an order from the other, with the same places, and the same end.
use Rattle.std.proofs.Common.{◌≡◌, ℕ, ◌<◌, List, [], ◌∷◌, ◌++◌, length, refl, sym, ◌∙◌, arith}
use Rattle.std.specs.Prelude.{slice_get, Some}
use Rattle.boc_program.specs.declared.program.Program.{Program}
use Rattle.boc_program.proofs.ChangedItems.{place_below, item_at}
use Rattle.boc_runs.specs.Serial.{behaviour_of, Serial, after_turn, after_turns}
use Rattle.boc_fronts.specs.Orders.{HasWish, CanSpawn, IsOrderFrom}
use Rattle.boc_fronts.specs.Fronts.{LiveRow, Front, wishes_left, StandsLoosely}
use Rattle.boc_fronts.proofs.Orderly.{next_later}
use Rattle.boc_fronts.proofs.Layers.{has_wish, next_can}
use Rattle.boc_fronts.proofs.LooseSteps.{after_step}
use Rattle.boc_closed_sets.proofs.Turns.{some_left, wishes_begin, longer}
use Rattle.boc_closed_sets.proofs.Stepping.{step_there}

-- a row has a wish
abbrev pub Goes : Serial → Type 0
Goes s = (r : ℕ) × HasWish s.rows r

-- two serial runs have the same values, and a row of the one has a wish where one of the other has
pub record SameEnd (s t : Serial) : Type 0 where
  pub values : s.values ≡ t.values
  pub on : Goes s → Goes t
  pub back : Goes t → Goes s

pub same_end : (s : Serial) → SameEnd s s
same_end s = record { values = refl; on = λ h. h; back = λ h. h }

pub end_after_end : (s t u : Serial) → SameEnd s t → SameEnd t u → SameEnd s u
end_after_end s t u a b = record { values = a.values ∙ b.values; on = λ h. b.on (a.on h); back = λ h. a.back (b.back h) }

-- ---- one front for two runs

module _ (s t : Serial) (names others : List ℕ) (f : Front) (one : StandsLoosely s names f) (two : StandsLoosely t others f) where
  -- the name in the other run of a row that has a wish
  pub record Twin (r : ℕ) : Type 0 where
    pub place : ℕ
    pub here : slice_get names place ≡ Some r
    pub row : LiveRow
    pub is : slice_get f.live place ≡ Some row
    pub name : ℕ
    pub there : slice_get others place ≡ Some name
    pub same : wishes_left s.rows r ≡ wishes_left t.rows name

  pub twin : (r : ℕ) → HasWish s.rows r → Twin r
  twin r h =
      let i = one.all r h in
      let low : i.0 < length f.live = omega (arith, one.many, place_below names i.0 r i.1) in
      let l = item_at f.live i.0 low in
      let q = item_at others i.0 (omega (arith, two.many, low)) in
      record {
        place = i.0;
        here = i.1;
        row = l.0;
        is = l.1;
        name = q.0;
        there = q.1;
        same = one.wishes i.0 r l.0 i.1 l.1 ∙ sym (two.wishes i.0 q.0 l.0 q.1 l.1);
      }

  pub twin_wishes : (r : ℕ) (h : HasWish s.rows r) → HasWish t.rows (twin r h).name
  twin_wishes r h =
      let w = twin r h in
      has_wish t.rows w.name (λ none. some_left s.rows r h (w.same ∙ none))

  pub goes_on : Goes s → Goes t
  goes_on h = ((twin h.0 h.1).name, twin_wishes h.0 h.1)

module _ (s t : Serial) (names others : List ℕ) (f : Front) (one : StandsLoosely s names f) (two : StandsLoosely t others f) where
  pub ends_so : SameEnd s t
  ends_so = record {
    values = one.values_are ∙ sym two.values_are;
    on = goes_on s t names others f one two;
    back = goes_on t s others names f two one;
  }

  pub twin_can : (r : ℕ) (can : CanSpawn s.rows r) → CanSpawn t.rows (twin s t names others f one two r can.wishes).name
  twin_can r can =
      let w = twin s t names others f one two r can.wishes in
      record {
        wishes = twin_wishes s t names others f one two r can.wishes;
        free = λ a before wishes.
            let v = twin t s others names f two one a wishes in
            can.free v.name
            ((one.before w.place v.place r v.name w.row w.here w.is v.there).0
            ((two.before w.place v.place w.name a w.row w.there w.is v.here).1 before))
            (twin_wishes t s others names f two one a wishes);
      }

-- an order from the one run makes one from the other
pub record Carried (p : Program) (s t : Serial) (rest : List ℕ) : Type 0 where
  pub moved : List ℕ
  pub order : IsOrderFrom p t moved
  pub as_many : length moved ≡ length rest
  pub ends : SameEnd (after_turns p s rest) (after_turns p t moved)

pub carried : (p : Program) (s t : Serial) (names others : List ℕ) (f : Front) (rest : List ℕ) → StandsLoosely s names f → StandsLoosely t others f
    → 0 < length s.rows → 0 < length t.rows → IsOrderFrom p s rest → Carried p s t rest
carried p s t names others f [] one two some some_too order =
    record { moved = []; order = tt; as_many = refl; ends = ends_so s t names others f one two }
carried p s t names others f (r ∷ rest) one two some some_too order =
    let can = next_can s.rows r some order.0 in
    let w = twin s t names others f one two r can.wishes in
    let b = wishes_begin s.rows r can.wishes in
    let step = step_there p f w.place w.row w.is (behaviour_of can.wishes.wish) b.0
    (sym (one.wishes w.place r w.row w.here w.is) ∙ b.1) in
    let next = carried p (after_turn p s r) (after_turn p t w.name) (names ++ length s.rows ∷ []) (others ++ length t.rows ∷ []) step.0 rest
    (after_step p s names f step.0 one w.place r w.here step.1) (after_step p t others f step.0 two w.place w.name w.there step.1)
    (omega (arith, longer p s r can.wishes))
    (omega (arith, longer p t w.name (twin_wishes s t names others f one two r can.wishes))) order.1 in
    record {
      moved = w.name ∷ next.moved;
      order = (next_later t.rows w.name some_too (twin_can s t names others f one two r can), next.order);
      as_many = omega (arith, next.as_many);
      ends = next.ends;
    }
