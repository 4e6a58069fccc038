-- The first turn of a row of a closed set is put in front of an order.
use Rattle.std.proofs.Common.{◌≡◌, ◌≢◌, ◌⊎◌, ℕ, zero, suc, ◌+◌, ◌<◌, ◌≤◌, inl, inr}
use Rattle.std.proofs.Common.{List, [], ◌∷◌, ◌++◌, length, map, refl, sym, ◌∙◌, subst, arith, length-append}
use Rattle.std.specs.Prelude.{Some}
use Rattle.std.specs.List.{Contains}
use Rattle.std.proofs.lemmas.Bool.{cases_lt}
use Rattle.boc_program.specs.declared.program.Program.{Program}
use Rattle.boc_program.proofs.ChangedItems.{place_below, item_at}
use Rattle.boc_program.proofs.RisingNumbers.{has_first, has_later, first_or_later, none_in_none}
use Rattle.boc_runs.specs.Serial.{Behaviour, behaviour_of, Serial, children, next_behaviour, run_at_once, after_turn, after_turns}
use Rattle.boc_runs.specs.machine.Queues.{times}
use Rattle.boc_machine_laws.proofs.Lists.{same_or_not, last_of}
use Rattle.boc_fronts.specs.Apart.{AreApart}
use Rattle.boc_fronts.specs.Orders.{others_of, HasWish, IsBefore, CanSpawn, IsOrderFrom}
use Rattle.boc_fronts.specs.Fronts.{Front, wishes_left, StandsLoosely}
use Rattle.boc_fronts.proofs.Orderly.{next_later, wish_below}
use Rattle.boc_fronts.proofs.Layers.{next_can}
use Rattle.boc_fronts.proofs.Claiming.{before_on}
use Rattle.boc_fronts.proofs.LooseSteps.{after_step}
use Rattle.boc_closed_sets.specs.Meant.{meant_at}
use Rattle.boc_closed_sets.specs.Footprints.{AreFootprints}
use Rattle.boc_closed_sets.proofs.Turns.{turns_parts, order_parts, order_whole, wishes_begin, next_there, none_left}
use Rattle.boc_closed_sets.proofs.Turns.{longer, left_stays, left_fewer, left_then, wish_stays, can_stay, next_same}
use Rattle.boc_closed_sets.proofs.Stepping.{step_there}
use Rattle.boc_closed_sets.proofs.Carrying.{Goes, SameEnd, same_end, end_after_end, carried}
use Rattle.boc_closed_sets.proofs.Exchanging.{turns_exchanged}

map_has : {A B : Type 0} (f : A → B) (xs : List A) (y : B) → Contains (map f xs) y → (x : A) × Contains xs x × (f x ≡ y)
map_has f [] y h = absurd (none_in_none y h)
map_has f (x ∷ xs) y h =
    elim (first_or_later (f x) y (map f xs) h) [
      | inl e ↦ (x, has_first x xs, e)
      | inr later ↦ let r = map_has f xs y later in (r.0, has_later x r.0 xs r.1, r.2)
    ]

-- a front stands for a run with one turn more
pub turn_stands : (p : Program) (s : Serial) (names : List ℕ) (f : Front) (q : ℕ) → StandsLoosely s names f → HasWish s.rows q
    → (g : Front) × StandsLoosely (after_turn p s q) (names ++ length s.rows ∷ []) g
turn_stands p s names f q st h =
    let i = st.all q h in
    let l = item_at f.live i.0 (omega (arith, st.many, place_below names i.0 q i.1)) in
    let b = wishes_begin s.rows q h in
    let step = step_there p f i.0 l.0 l.1 (behaviour_of h.wish) b.0 (sym (st.wishes i.0 q l.0 i.1 l.1) ∙ b.1) in
    (step.0, after_step p s names f step.0 st i.0 q i.1 step.1)

module _ (p : Program) (footprint : Behaviour → ℕ → Type 0) (foot : AreFootprints p footprint) (Inside : ℕ → Type 0) where
  -- a row that waits for one inside
  pub record Behind (s : Serial) (r : ℕ) : Type 0 where
    pub earlier : ℕ
    pub inside : Inside earlier
    pub before : IsBefore s.rows earlier r
    pub wishes : HasWish s.rows earlier

  -- the next behaviour of each row inside that can spawn is over no cown in the footprint of a wish of a row outside
  abbrev pub FarApart : Serial → Type 0
  FarApart s = (r q c : ℕ) (b far : Behaviour) → Inside r → CanSpawn s.rows r → next_behaviour s.rows r ≡ Some b
      → (Inside q → ⊥) → Contains (wishes_left s.rows q) far → 0 < times c b.cowns → footprint far c → ⊥

  -- what holds as long as only rows outside have their turns
  pub record Waits (s : Serial) : Type 0 where
    pub there : (r : ℕ) → Inside r → r < length s.rows
    pub can : (r : ℕ) → Inside r → CanSpawn s.rows r ⊎ Behind s r
    pub apart : FarApart s

  module _ (s : Serial) (q : ℕ) (h : HasWish s.rows q) (out : Inside q → ⊥) (w : Waits s) where
    abbrev t : Serial
    t = after_turn p s q

    other : (r : ℕ) → Inside r → r ≢ q
    other r inside e = out (subst Inside e inside)

    behind_on : (r : ℕ) → Behind s r → Behind t r
    behind_on r b = record {
      earlier = b.earlier;
      inside = b.inside;
      before = before_on s.rows (run_at_once p s.values q (next_behaviour s.rows q)) b.earlier r b.before;
      wishes = wish_stays p s q h b.earlier (other b.earlier b.inside) b.wishes;
    }

    -- who can spawn then could
    could : (r : ℕ) → Inside r → CanSpawn t.rows r → CanSpawn s.rows r
    could r inside can =
        elim (w.can r inside) [
          | inl old ↦ old
          | inr b ↦ let now = behind_on r b in absurd (can.free now.earlier now.before now.wishes)
        ]

    apart_old : (r v c : ℕ) (b far : Behaviour) → Inside r → CanSpawn s.rows r → next_behaviour s.rows r ≡ Some b → (Inside v → ⊥)
        → v < length s.rows → Contains (wishes_left t.rows v) far → 0 < times c b.cowns → footprint far c → ⊥
    apart_old r v c b far inside can next away low has among reached =
        elim (same_or_not v q) [
          | inl e ↦ w.apart r q c b far inside can next out
              (left_fewer p s q h far (subst (λ (z : ℕ). Contains (wishes_left t.rows z) far) e has)) among reached
          | inr n ↦ w.apart r v c b far inside can next away (subst (λ bs. Contains bs far) (left_stays p s q h v low n) has) among reached
        ]

    apart_new : (r c : ℕ) (b far : Behaviour) → children (length s.rows) (others_of s.rows) ≡ 0 → Inside r → CanSpawn s.rows r
        → next_behaviour s.rows r ≡ Some b → Contains (wishes_left t.rows (length s.rows)) far → 0 < times c b.cowns
        → footprint far c → ⊥
    apart_new r c b far childless inside can next has among reached =
        let mine : Behaviour = behaviour_of h.wish in
        let m = map_has behaviour_of (meant_at p mine s.values).wishes far (subst (λ bs. Contains bs far) (left_then p s q h childless) has) in
        let begin = wishes_begin s.rows q h in
        w.apart r q c b mine inside can next out (subst (λ bs. Contains bs mine) (sym begin.1) (has_first mine begin.0)) among
        (foot.wishes mine s.values m.0 m.1 c (subst (λ (z : Behaviour). footprint z c) (sym m.2) reached))

    apart_on : children (length s.rows) (others_of s.rows) ≡ 0 → FarApart t
    apart_on childless r v c b far inside can next away has among reached =
        let old = could r inside can in
        let was : next_behaviour s.rows r ≡ Some b = sym (next_same p s q h r (w.there r inside) (other r inside)) ∙ next in
        elim (cases_lt v (length s.rows)) [
          | inl low ↦ apart_old r v c b far inside old was away low has among reached
          | inr past ↦ elim (same_or_not v (length s.rows)) [
            | inl e ↦ apart_new r c b far childless inside old was
                (subst (λ (z : ℕ). Contains (wishes_left t.rows z) far) e has) among reached
            | inr n ↦ none_left t.rows v far (above v past n) has
          ]
        ]
      where
        above : (k : ℕ) → length s.rows ≤ k → k ≢ length s.rows → length t.rows ≤ k
        above k past n =
            elim (cases_lt (length s.rows) k) [
              | inl more ↦ omega (arith, more, longer p s q h)
              | inr less ↦ absurd (n (omega (arith, past, less)))
            ]

    pub waits_on : children (length s.rows) (others_of s.rows) ≡ 0 → Waits t
    waits_on childless = record {
      there = λ r inside. omega (arith, w.there r inside, longer p s q h);
      can = λ r inside. elim (w.can r inside) [
        | inl can ↦ inl (can_stay p s q h r (other r inside) can)
        | inr b ↦ inr (behind_on r b)
      ];
      apart = apart_on childless;
    }

    pub are_apart : (r : ℕ) → Inside r → (can : CanSpawn s.rows r) → AreApart s q r
    are_apart r inside can =
        let first : Behaviour = behaviour_of h.wish in
        let second : Behaviour = behaviour_of can.wishes.wish in
        let begin = wishes_begin s.rows q h in
        record {
          differ = λ e. out (subst Inside (sym e) inside);
          there = wish_below s.rows q h;
          there_too = w.there r inside;
          first = first;
          first_is = next_there s.rows q h;
          second = second;
          second_is = next_there s.rows r can.wishes;
          apart = λ d has. elim (same_or_not (times d second.cowns) 0) [
            | inl none ↦ none
            | inr some ↦ absurd (w.apart r q d second first inside can (next_there s.rows r can.wishes) out
                (subst (λ bs. Contains bs first) (sym begin.1) (has_first first begin.0)) (more_than_none (times d second.cowns) some) (foot.own first d has))
          ];
        }
      where
        more_than_none : (n : ℕ) → n ≢ 0 → 0 < n
        more_than_none zero e = absurd (e refl)
        more_than_none (suc n) e = omega arith

  -- an order that goes on with a row inside, and has the same end as another
  pub record Found (s : Serial) (rest : List ℕ) : Type 0 where
    pub row : ℕ
    pub inside : Inside row
    pub others : List ℕ
    pub order : IsOrderFrom p s (row ∷ others)
    pub as_many : length others + 1 ≡ length rest
    pub ends : SameEnd (after_turns p s rest) (after_turns p s (row ∷ others))

  -- put in front of one turn more
  put_first : (s : Serial) (names : List ℕ) (f : Front) (q : ℕ) (rest : List ℕ) → StandsLoosely s names f → Waits s → (Inside q → ⊥)
      → CanSpawn s.rows q → Found (after_turn p s q) rest → Found s (q ∷ rest)
  put_first s names f q rest st w out can fd =
      let t : Serial = after_turn p s q in
      let r = fd.row in
      let h = can.wishes in
      let some : 0 < length s.rows = omega (arith, wish_below s.rows q h) in
      let then = next_can t.rows r (omega (arith, longer p s q h)) fd.order.0 in
      let old = could s q h out w r fd.inside then in
      let u : Serial = after_turn p s r in
      let apart = are_apart s q h out w r fd.inside old in
      let again = can_stay p s r old.wishes q apart.differ can in
      let one = turn_stands p s names f q st h in
      let two = turn_stands p t (names ++ length s.rows ∷ []) one.0 r one.1 then.wishes in
      let both = turns_exchanged p s names f two.0 q r st apart two.1 in
      let c = carried p (after_turn p t r) (after_turn p u q) ((names ++ length s.rows ∷ []) ++ length t.rows ∷ [])
      ((names ++ (length s.rows + 1) ∷ []) ++ length s.rows ∷ []) two.0 fd.others two.1 both
      (omega (arith, longer p t r then.wishes)) (omega (arith, longer p u q again.wishes)) fd.order.1 in
      record {
        row = r;
        inside = fd.inside;
        others = q ∷ c.moved;
        order = (next_later s.rows r some old, (next_later u.rows q (omega (arith, longer p s r old.wishes)) again, c.order));
        as_many = omega (arith, c.as_many, fd.as_many);
        ends = end_after_end (after_turns p t rest) (after_turns p t (r ∷ fd.others)) (after_turns p u (q ∷ c.moved)) fd.ends c.ends;
      }

  -- each turn is of a row outside
  abbrev pub Outside : List ℕ → Type 0
  Outside [] = Unit {0}
  Outside (q ∷ rest) = (Inside q → ⊥) × Outside rest

  outside_parts : (xs ys : List ℕ) → Outside (xs ++ ys) → Outside xs × Outside ys
  outside_parts [] ys o = (tt, o)
  outside_parts (x ∷ xs) ys o = let r = outside_parts xs ys o.1 in ((o.0, r.0), r.1)

  module _ (inside_or_not : (r : ℕ) → Inside r ⊎ (Inside r → ⊥)) where
    pub found : (s : Serial) (names : List ℕ) (f : Front) (rest : List ℕ) → StandsLoosely s names f → Waits s → 0 < length s.rows
        → IsOrderFrom p s rest → Found s rest ⊎ Outside rest
    found s names f [] st w some order = inr tt
    found s names f (q ∷ rest) st w some order =
        elim (inside_or_not q) [
          | inl inside ↦ inl (record {
            row = q;
            inside = inside;
            others = rest;
            order = order;
            as_many = omega arith;
            ends = same_end (after_turns p s (q ∷ rest));
          })
          | inr out ↦
              let can = next_can s.rows q some order.0 in
              let one = turn_stands p s names f q st can.wishes in
              elim (found (after_turn p s q) (names ++ length s.rows ∷ []) one.0 rest one.1
              (waits_on s q can.wishes out w (st.childless (length s.rows) (omega arith)))
              (omega (arith, longer p s q can.wishes)) order.1) [
                | inl fd ↦ inl (put_first s names f q rest st w out can fd)
                | inr others ↦ inr (out, others)
              ]
        ]

    -- a row inside that can spawn still can after turns of rows outside
    can_after : (s : Serial) (rest : List ℕ) (r : ℕ) → Inside r → Outside rest → 0 < length s.rows → IsOrderFrom p s rest → CanSpawn s.rows r
        → CanSpawn (after_turns p s rest).rows r
    can_after s [] r inside out some order can = can
    can_after s (q ∷ rest) r inside out some order can =
        let h = (next_can s.rows q some order.0).wishes in
        can_after (after_turn p s q) rest r inside out.1 (omega (arith, longer p s q h)) order.1
        (can_stay p s q h r (λ e. out.0 (subst Inside e inside)) can)

    some_after : (s : Serial) (rest : List ℕ) → 0 < length s.rows → IsOrderFrom p s rest → 0 < length (after_turns p s rest).rows
    some_after s [] some order = some
    some_after s (q ∷ rest) some order =
        some_after (after_turn p s q) rest (omega (arith, longer p s q (next_can s.rows q some order.0).wishes)) order.1

    module _ (s : Serial) (names : List ℕ) (f : Front) (st : StandsLoosely s names f) (w : Waits s) (some : 0 < length s.rows) (x : ℕ)
        (x_inside : Inside x) (x_can : CanSpawn s.rows x) where
      -- where every wish is spawned
      pub found_whole : (rest : List ℕ) → IsOrderFrom p s rest → (Goes (after_turns p s rest) → ⊥) → Found s rest
      found_whole rest order none =
          elim (found s names f rest st w some order) [
            | inl fd ↦ fd
            | inr out ↦ absurd (none (x, (can_after s rest x x_inside out some order x_can).wishes))
          ]

      -- an order as long that goes on with a row inside, after which a row has a wish
      pub record FoundLong (rest : List ℕ) : Type 0 where
        pub row : ℕ
        pub inside : Inside row
        pub others : List ℕ
        pub order : IsOrderFrom p s (row ∷ others)
        pub as_many : length others + 1 ≡ length rest
        pub goes : Goes (after_turns p s (row ∷ others))

      long_so : (rest other : List ℕ) → length other ≡ length rest → Goes (after_turns p s other) → Found s other → FoundLong rest
      long_so rest other long goes fd = record {
        row = fd.row;
        inside = fd.inside;
        others = fd.others;
        order = fd.order;
        as_many = fd.as_many ∙ long;
        goes = fd.ends.on goes;
      }

      -- the last turn is dropped, and that of a row inside takes its place
      long_outside : (front : List ℕ) (q : ℕ) → IsOrderFrom p s (front ++ q ∷ []) → Outside (front ++ q ∷ []) → FoundLong (front ++ q ∷ [])
      long_outside front q order out =
          let o = order_parts p s front (q ∷ []) order in
          let outs = outside_parts front (q ∷ []) out in
          let end : Serial = after_turns p s front in
          let can = can_after s front x x_inside outs.0 some o.0 x_can in
          let enough = some_after s front some o.0 in
          let order' = order_whole p s front (x ∷ []) o.0 (next_later end.rows x enough can, tt) in
          let left = wish_stays p end x can.wishes q (λ e. outs.1.0 (subst Inside (sym e) x_inside)) (next_can end.rows q enough o.1.0).wishes in
          let long : length (front ++ x ∷ []) ≡ length (front ++ q ∷ []) = length-append front (x ∷ []) ∙ sym (length-append front (q ∷ [])) in
          elim (found s names f (front ++ x ∷ []) st w some order') [
            | inl fd ↦ long_so (front ++ q ∷ []) (front ++ x ∷ []) long (subst Goes (sym (turns_parts p s front (x ∷ []))) (q, left)) fd
            | inr never ↦ absurd ((outside_parts front (x ∷ []) never).1.0 x_inside)
          ]

      pub found_long : (rest : List ℕ) → rest ≢ [] → IsOrderFrom p s rest → Goes (after_turns p s rest) → FoundLong rest
      found_long rest more order goes =
          elim (found s names f rest st w some order) [
            | inl fd ↦ long_so rest rest refl goes fd
            | inr out ↦ elim (last_of rest) [
              | inl none ↦ absurd (more none)
              | inr z ↦ subst FoundLong (sym z.2)
                  (long_outside z.0 z.1 (subst (IsOrderFrom p s) z.2 order) (subst Outside z.2 out))
            ]
          ]
